use Rattle.std.proofs.Common.{◌≡◌, ◌+◌, ◌∙◌, IsTrue, IsFalse, Some, get_or, take, sym, ap, subst, arith}
use Rattle.std.proofs.lemmas.Bool.{false_from_ne_true}
use Rattle.std.proofs.lemmas.List.{take_all}
use Rattle.taxi_base.specs.declared.rows.Span.{Span}
use Rattle.taxi_base.specs.Windows.{span_has}
use Rattle.taxi_base.specs.Faults.{first_name}
use Rattle.taxi_base.proofs.WindowLaws.{span_has-from, span_has-true}
use Rattle.commitments.specs.declared.segment_holds.HeldStep.{HeldStep}
use Rattle.commitments.specs.Taken.{has_second, IsFirstNamed}
use Rattle.commitments.proofs.FirstNamed.{first-more, first-passed, named-since, named-stopped}
use Rattle.commitments.proofs.segment_holds.SegmentHolds.first_holder.Goals as goal
use Rattle.commitments.proofs.segment_holds.SegmentHolds.first_holder.Goals.{then-second-span-2, else-second-span-2}

pub returns-then-second-span : goal.returns-then-second-span
returns-then-second-span c =
    let rest = c.since-held-items.result.now in
    let one = c.held-item.result in
    let begins : c.span-span.result.from ≡ (get_or rest c.loop-held.held-index one).step.enter =
    ap (λ (s : Span). s.from) c.span-span.ensures ∙ ap (λ (held : HeldStep). held.step.enter) c.held-item.is in
    named-stopped c.args.airport.now c.keep_rules.ensures c.args.self.now.steps rest c.args.second c.since-held-items.ensures c.loop-held.held-index one c.loop-held-test.true
    (omega (arith, begins, c.if-second-span.true)) c.loop-held.first c.loop-held.invariant

pub loop-held-preserved : goal.loop-held-preserved
loop-held-preserved c =
    let rest = c.since-held-items.result.now in
    let one = c.held-item.result in
    let test = has_second c.args.airport.now c.args.second in
    elim c.if-second-span-2.branch [
      | then-second-span-2 w ↦
          let has : IsTrue (test one) = subst (λ (s : Span). IsTrue (span_has s c.args.second)) c.span-span.ensures (span_has-from c.span-span.result c.args.second c.if-second-span.false w.if-second-span-2.true) in
          let is : c.if-second-span-2.first ≡ first_name c.loop-held.first (Some (get_or rest c.loop-held.held-index one).holder.name) =
          w.first-is ∙ w.first_name-first.ensures ∙ ap (λ (held : HeldStep). first_name c.loop-held.first (Some held.holder.name)) c.held-item.is in
          subst (IsFirstNamed test (take (c.loop-held.held-index + 1) rest)) (sym is)
          (first-more test rest c.loop-held.held-index one c.loop-held-test.true c.loop-held.first c.loop-held.invariant (subst (λ (held : HeldStep). IsTrue (test held)) c.held-item.is has))
      | else-second-span-2 w ↦
          let over : IsFalse (span_has c.span-span.result c.args.second) = false_from_ne_true _ (λ has. let inside = span_has-true c.span-span.result c.args.second has in absurd (omega (arith, inside.1, w.if-second-span-2.false))) in
          let lacks : IsFalse (test one) = subst (λ (s : Span). IsFalse (span_has s c.args.second)) c.span-span.ensures over in
          subst (IsFirstNamed test (take (c.loop-held.held-index + 1) rest)) (sym w.first-is)
          (first-passed test rest c.loop-held.held-index one c.loop-held-test.true c.loop-held.first c.loop-held.invariant (subst (λ (held : HeldStep). IsFalse (test held)) c.held-item.is lacks))
    ]

pub returns : goal.returns
returns c =
    named-since c.args.airport.now c.keep_rules.ensures c.args.self.now.steps c.since-held-items.result.now c.args.second c.since-held-items.ensures c.loop-held.first
    (rw (sym (take_all c.loop-held.held-index c.since-held-items.result.now c.loop-held-test.false)) c.loop-held.invariant)
