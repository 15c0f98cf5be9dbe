use Rattle.std.proofs.Common.{◌≡◌, get_or, sym, ap, arith}
use Rattle.std.proofs.lemmas.List.{take_all}
use Rattle.commitments.specs.declared.segment_holds.HeldStep.{HeldStep}
use Rattle.commitments.proofs.OtherHolders.{first-of_all, first-stopped}
use Rattle.commitments.proofs.segment_holds.SegmentHolds.first_of_others.Goals as goal

pub returns-then-first-held : goal.returns-then-first-held
returns-then-first-held c =
    let rest = c.since-held-items.result.now in
    let begins : c.held-item.result.step.enter ≡ (get_or rest c.loop-held.held-index c.held-item.result).step.enter = ap (λ (held : HeldStep). held.step.enter) c.held-item.is in
    first-stopped c.args.airport.now c.args.name.now c.keep_rules.ensures c.args.self.now.steps rest c.args.from c.args.until c.since-held-items.ensures c.loop-held.first c.loop-held.held-index
    c.held-item.result c.loop-held-test.true (omega (arith, begins, c.if-first-held.true)) c.loop-held.invariant

pub returns : goal.returns
returns c =
    first-of_all c.args.airport.now c.args.name.now c.keep_rules.ensures c.args.self.now.steps c.since-held-items.result.now c.args.from c.args.until c.since-held-items.ensures c.loop-held.first
    (rw (sym (take_all c.loop-held.held-index c.since-held-items.result.now c.loop-held-test.false)) c.loop-held.invariant)
