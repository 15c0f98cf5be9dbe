use Rattle.std.proofs.Common.{sym, ap, ◌≡◌, get_or, arith}
use Rattle.std.proofs.lemmas.List.{take_all}
use Rattle.commitments.specs.declared.segment_holds.HeldStep.{HeldStep}
use Rattle.commitments.proofs.OneSegment.{first-since, first-stopped, first-none_begun}
use Rattle.commitments.proofs.segment_holds.SegmentHolds.first_held.Goals as goal

pub returns-then-not-any_begins_before : goal.returns-then-not-any_begins_before
returns-then-not-any_begins_before c =
    let late = c.any_begins_before.ensures c.if-not-any_begins_before.true in
    rw (← c.self.view_is) (first-none_begun c.args.airport.now c.self.inside.steps.items c.args.from c.args.until c.requires (rw c.deref.ensures.value at late))

pub returns-then-first-held : goal.returns-then-first-held
returns-then-first-held c =
    let rest = c.since-held-items.result.now in
    let begins : c.held-item.result.step.enter ≡ (get_or rest c.loop-held.held-index c.held-item.result).step.enter = ap (λ (held : HeldStep). held.step.enter) c.held-item.is in
    first-stopped c.args.airport.now c.keep_rules.ensures c.args.self.now.steps rest c.args.from c.args.until c.since-held-items.ensures c.loop-held.first c.loop-held.held-index c.held-item.result c.loop-held-test.true
    (omega (arith, begins, c.if-first-held.true)) c.loop-held.invariant

pub returns : goal.returns
returns c =
    first-since c.args.airport.now c.keep_rules.ensures c.args.self.now.steps c.since-held-items.result.now c.args.from c.args.until c.since-held-items.ensures c.loop-held.first
    (rw (sym (take_all c.loop-held.held-index c.since-held-items.result.now c.loop-held-test.false)) c.loop-held.invariant)
