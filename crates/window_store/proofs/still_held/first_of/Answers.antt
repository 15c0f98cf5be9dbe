use Rattle.std.proofs.Common.{◌≡◌, ◌<◌, max, IsTrue, sym, ◌∙◌, ap, arith}
use Rattle.std.proofs.lemmas.Bool.{ltb-true, lt-ltb, both_ways}
use Rattle.taxi_base.specs.declared.rows.Span.{Span}
use Rattle.taxi_base.specs.Airport.{conflict, segment_of}
use Rattle.taxi_base.specs.Windows.{Hold, hold_of}
use Rattle.window_store.proofs.Seconds.{first-step, first-step_not}
use Rattle.window_store.proofs.still_held.first_of.Goals as goal
use Rattle.window_store.proofs.still_held.first_of.Goals.{then-begin-until, else-begin-until, else-meets-via-then-meets+else-conflict, else-meets-via-else-meets}

pub returns-then-conflict : goal.returns-then-conflict
returns-then-conflict c =
    let hold : Hold = hold_of c.args.term.horizon c.args.term.clearance c.args.step.now in
    let ends : c.span_of-held.result.until ≡ hold.span.until = ap (λ (s : Span). s.until) c.span_of-held.ensures in
    let begins : c.max-begin.result ≡ max hold.span.from c.args.from = rw c.span_of-held.ensures at c.max-begin.ensures in
    let met : IsTrue (conflict c.args.conflicts.now.sets c.args.segment (segment_of c.args.step.now.arc)) = sym (rw c.segment.ensures at c.conflict.ensures) ∙ c.if-conflict.true in
    let meets : (c.max-begin.result < c.args.until) × (c.max-begin.result < c.span_of-held.result.until) = elim c.if-begin-until.branch [
      | then-begin-until w ↦ (w.if-begin-until.true, ltb-true _ _ (sym w.meets-is ∙ c.if-meets.true))
      | else-begin-until w ↦ absurd (omega (arith, ltb-true _ _ (sym w.meets-is ∙ c.if-meets.true), w.if-begin-until.false))
    ] in
    first-step c.args.conflicts.now.sets c.args.segment hold c.args.from c.args.until c.max-begin.result begins meets.0 (omega (arith, meets.1, ends)) met

pub returns-else-meets : goal.returns-else-meets
returns-else-meets c =
    let hold : Hold = hold_of c.args.term.horizon c.args.term.clearance c.args.step.now in
    let ends : c.span_of-held.result.until ≡ hold.span.until = ap (λ (s : Span). s.until) c.span_of-held.ensures in
    let begins : c.max-begin.result ≡ max hold.span.from c.args.from = rw c.span_of-held.ensures at c.max-begin.ensures in
    first-step_not c.args.conflicts.now.sets c.args.segment hold c.args.from c.args.until c.max-begin.result begins c.requires.order (λ below inside.
    elim c.else-meets.branch [
      | else-meets-via-then-meets+else-conflict w ↦ sym (rw w.segment.ensures at w.conflict.ensures) ∙ w.if-conflict.false
      | else-meets-via-else-meets w ↦ elim c.if-begin-until.branch [
        | then-begin-until v ↦ absurd (both_ways _ (sym v.meets-is ∙ w.if-meets.false) (lt-ltb _ _ (omega (arith, inside, ends))))
        | else-begin-until v ↦ absurd (omega (arith, below, v.if-begin-until.false))
      ]
    ])
