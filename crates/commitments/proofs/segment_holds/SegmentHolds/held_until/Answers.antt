use Rattle.std.proofs.Common.{◌∙◌, ◌≡◌, sym, ap, get_or, subst, arith}
use Rattle.std.proofs.lemmas.List.{take_all}
use Rattle.taxi_base.specs.declared.rows.Span.{Span}
use Rattle.window_store.specs.Conflicting.{ReachesUpTo}
use Rattle.commitments.specs.declared.segment_holds.HeldStep.{HeldStep}
use Rattle.commitments.specs.Held.{hold_by, spans_by}
use Rattle.commitments.proofs.OneSegment.{reaches-none_since, reaches-stopped, reaches-one}
use Rattle.commitments.proofs.segment_holds.SegmentHolds.held_until.Goals as goal

pub returns-then-from-held : goal.returns-then-from-held
returns-then-from-held c =
    let rest = c.since-held-items.result.now in
    let begins : c.held-item.result.step.enter ≡ (get_or rest c.loop-held.held-index c.held-item.result).step.enter = ap (λ (held : HeldStep). held.step.enter) c.held-item.is in
    reaches-stopped c.args.airport.now c.keep_rules.ensures c.args.self.now.steps rest c.args.from c.args.from c.since-held-items.ensures c.loop-held.held-index c.held-item.result c.loop-held-test.true
    (omega (arith, begins, c.if-from-held.true)) c.loop-held.invariant

pub returns-then-from-span : goal.returns-then-from-span
returns-then-from-span c =
    let rest = c.since-held-items.result.now in
    let one : HeldStep = get_or rest c.loop-held.held-index c.held-item.result in
    let begins : c.held-item.result.step.enter ≡ one.step.enter = ap (λ (held : HeldStep). held.step.enter) c.held-item.is in
    let ends : c.span-span.result.until ≡ (hold_by c.args.airport.now one).span.until = ap (λ (s : Span). s.until) c.span-span.ensures ∙ ap (λ (held : HeldStep). (hold_by c.args.airport.now held).span.until) c.held-item.is in
    subst (ReachesUpTo (spans_by c.args.airport.now c.args.self.now.steps) c.args.from) (sym ends)
    (reaches-one c.args.airport.now c.keep_rules.ensures c.args.self.now.steps rest c.args.from c.args.from c.since-held-items.ensures c.loop-held.held-index c.held-item.result c.loop-held-test.true
    (omega (arith, begins, c.if-from-held.false)) (omega (arith, ends, c.if-from-span.true)))

pub returns : goal.returns
returns c =
    reaches-none_since c.args.airport.now c.keep_rules.ensures c.args.self.now.steps c.since-held-items.result.now c.args.from c.args.from c.since-held-items.ensures
    (rw (sym (take_all c.loop-held.held-index c.since-held-items.result.now c.loop-held-test.false)) c.loop-held.invariant)
