use Rattle.std.proofs.Common.{◌≡◌, ◌<◌, ◌≤◌, [], ◌∷◌, IsTrue, sym, ◌∙◌, ap, subst, arith}
use Rattle.std.proofs.lemmas.Bool.{ltb-true, leb-true, lt-ltb, both_ways}
use Rattle.taxi_base.specs.declared.rows.Span.{Span}
use Rattle.taxi_base.specs.Airport.{conflict, segment_of}
use Rattle.taxi_base.specs.Windows.{Hold, hold_of}
use Rattle.window_store.specs.Conflicting.{spans_in_conflict, ReachesUpTo}
use Rattle.window_store.proofs.Seconds.{reaches-step, reaches-step_not}
use Rattle.window_store.proofs.still_held.end_of.Goals as goal
use Rattle.window_store.proofs.still_held.end_of.Goals.{then-held-from, else-held-from, else-has-via-then-has+else-conflict, else-has-via-else-has}

pub returns-then-conflict : goal.returns-then-conflict
returns-then-conflict c =
    let hold : Hold = hold_of c.args.term.horizon c.args.term.clearance c.args.step.now in
    let begins : c.span_of-held.result.from ≡ hold.span.from = ap (λ (s : Span). s.from) c.span_of-held.ensures in
    let ends : c.span_of-held.result.until ≡ hold.span.until = ap (λ (s : Span). s.until) c.span_of-held.ensures in
    let met : IsTrue (conflict c.args.conflicts.now.sets c.args.segment (segment_of c.args.step.now.arc)) = sym (rw c.segment.ensures at c.conflict.ensures) ∙ c.if-conflict.true in
    let has : (c.span_of-held.result.from ≤ c.args.from) × (c.args.from < c.span_of-held.result.until) = elim c.if-held-from.branch [
      | then-held-from w ↦ (w.if-held-from.true, ltb-true _ _ (sym w.has-is ∙ c.if-has.true))
      | else-held-from w ↦ absurd (omega (arith, leb-true _ _ (sym w.has-is ∙ c.if-has.true), w.if-held-from.false))
    ] in
    subst (ReachesUpTo (spans_in_conflict c.args.conflicts.now.sets c.args.segment (hold ∷ [])) c.args.from) (sym ends)
    (reaches-step c.args.conflicts.now.sets c.args.segment hold c.args.from (omega (arith, has.0, begins)) (omega (arith, has.1, ends)) met)

pub returns-else-has : goal.returns-else-has
returns-else-has c =
    let hold : Hold = hold_of c.args.term.horizon c.args.term.clearance c.args.step.now in
    let begins : c.span_of-held.result.from ≡ hold.span.from = ap (λ (s : Span). s.from) c.span_of-held.ensures in
    let ends : c.span_of-held.result.until ≡ hold.span.until = ap (λ (s : Span). s.until) c.span_of-held.ensures in
    reaches-step_not c.args.conflicts.now.sets c.args.segment hold c.args.from (λ low high.
    elim c.else-has.branch [
      | else-has-via-then-has+else-conflict w ↦ sym (rw w.segment.ensures at w.conflict.ensures) ∙ w.if-conflict.false
      | else-has-via-else-has w ↦ elim c.if-held-from.branch [
        | then-held-from v ↦ absurd (both_ways _ (sym v.has-is ∙ w.if-has.false) (lt-ltb _ _ (omega (arith, high, ends))))
        | else-held-from v ↦ absurd (omega (arith, low, begins, v.if-held-from.false))
      ]
    ])
