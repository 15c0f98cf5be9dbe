-- The first second outside windows, and when a hold is taken first.
use Rattle.std.proofs.Common.{◌≡◌, ◌∙◌, ℕ, ◌<◌, ◌≤◌, true, false, List, length, get_or, inl, inr, Option, IsFalse, refl, sym, ap, arith}
use Rattle.std.specs.Prelude.{nat_le, nat_lt, option_map, option_and_then}
use Rattle.std.specs.List.Sorted.{IsPartitionPoint}
use Rattle.std.proofs.lemmas.Bool.{cases_lt, both_ways, false_from_ne_true, leb-true, le-leb, lt-ltb}
use Rattle.std.proofs.lemmas.List.{get_or_default}
use Rattle.taxi_base.specs.declared.rows.Span.{Span}
use Rattle.taxi_base.specs.declared.answers.StepCause.{StepCause}
use Rattle.taxi_base.specs.declared.answers.StepCause.TheVariants.{Taken}
use Rattle.taxi_base.specs.Airport.{Airport}
use Rattle.taxi_base.specs.Windows.{Hold, AreApart, AreWindows, covers, span_has}
use Rattle.taxi_base.specs.Walks.{free_among}
use Rattle.taxi_base.specs.State.{State, holds_in}
use Rattle.taxi_base.specs.Faults.{first_taken, holder_at, taken_by}
use Rattle.taxi_base.proofs.ListLaws.{list_any-true}
use Rattle.taxi_base.proofs.WindowLaws.{AreWindows-member, span_has-true}
use Rattle.check_rows.proofs.PlaceLaws.{apart-ordered}
use Rattle.due_refusals.specs.Filing.{IsFirstOutside}

-- ---- windows

module _ (ws : List Span) (from : ℕ) (apart : AreApart 0 ws) (at : ℕ)
    (point : IsPartitionPoint (λ w. nat_le w.until from ≡ true) (λ w. nat_le w.until from ≡ false) ws at) where
  -- a window that is not over
  pub outside-window : (found : Span) → at < length ws → get_or ws at found ≡ found → found.from ≤ from → IsFirstOutside ws from found.until
  outside-window found on is begins =
      let window = AreWindows-member (covers ws) ws found (record { apart = apart; same = λ t. refl }) (at, on, is) in
      let open_end : from < (get_or ws at found).until = elim (cases_lt from (get_or ws at found).until) [
        | inl later ↦ later
        | inr over ↦ absurd (both_ways _ (point.1 at found (omega arith) on) (le-leb _ _ over))
      ] in
      let until : (get_or ws at found).until ≡ found.until = ap (λ (w : Span). w.until) is in
      record { on = omega (arith, open_end, until); covered = λ t low high. window.all t (omega (arith, begins, low)) high; outside = window.after }

  none-here : ((k : ℕ) (d : Span) → at ≤ k → k < length ws → from < (get_or ws k d).from) → IsFalse (covers ws from)
  none-here later =
      false_from_ne_true _ (λ e.
      let one = list_any-true (λ w. span_has w from) ws e in
      let w = one.0 in
      let k = one.1.0 in
      let has = span_has-true w from one.2 in
      let begins : (get_or ws k w).from ≡ w.from = ap (λ (w : Span). w.from) one.1.2 in
      let ends : (get_or ws k w).until ≡ w.until = ap (λ (w : Span). w.until) one.1.2 in
      elim (cases_lt k at) [
        | inl below ↦ absurd (omega (arith, has.1, ends, leb-true _ _ (point.0 k w (omega arith) below)))
        | inr above ↦ absurd (omega (arith, has.0, begins, later k w above one.1.1))
      ])

  -- no window that is not over has begun
  pub outside-gap : (found : Span) → at < length ws → get_or ws at found ≡ found → from < found.from → IsFirstOutside ws from from
  outside-gap found on is late = record {
    on = omega arith;
    covered = λ t low high. absurd (omega (arith, low, high));
    outside = none-here (λ k d above within.
        let rising = apart-ordered ws apart at k d above within in
        let here : found.from ≡ (get_or ws at d).from = ap (λ (w : Span). w.from) (sym is ∙ get_or_default ws at found d on) in
        omega (arith, rising, here, late));
  }

  -- all windows are over
  pub outside-end : nat_lt at (length ws) ≡ false → IsFirstOutside ws from from
  outside-end none = record {
    on = omega arith;
    covered = λ t low high. absurd (omega (arith, low, high));
    outside = none-here (λ k d above within. absurd (both_ways _ none (lt-ltb _ _ (omega (arith, above, within)))));
  }

-- ---- a hold

module _ (airport : Airport) (state : State) (hold : Hold) (ws : List Span) (are : AreWindows (free_among airport (holds_in airport state) hold.segment) ws) where
  abbrev causes : ℕ → Option StepCause
  causes t = option_map (λ name. Taken t name) (holder_at airport state hold.segment t)

  by_windows : first_taken (free_among airport (holds_in airport state) hold.segment) hold.span ≡ first_taken (covers ws) hold.span
  by_windows = λ i. first_taken (λ t. sym (are.same t) i) hold.span

  pub taken-from : (first : Option ℕ) → first ≡ first_taken (covers ws) hold.span → taken_by airport state hold ≡ option_and_then causes first
  taken-from first is = ap (option_and_then causes) (by_windows ∙ sym is)
