-- The numbered cells of a class in given windows are its places.
use Rattle.std.proofs.Common.{◌≡◌, ℕ, suc, ◌+◌, ◌-◌, ◌*◌, ◌/◌, ◌<◌, ◌&&◌, ltb, eqb, Bool, List, [], length, get_or, inl, inr, IsTrue, is_some, refl, sym, ◌∙◌, ap, subst, arith, ◌↔◌}
use Rattle.std.specs.Prelude.{Contains}
use Rattle.std.proofs.lemmas.Bool.{cases_lt, and_parts, and_from, lt-ltb, ltb-true, eq-eqb, or_left, or_right}
use Rattle.std.proofs.lemmas.List.{get_or_default}
use Rattle.taxi_base.specs.declared.numbers.Arc.{Arc}
use Rattle.taxi_base.specs.declared.numbers.Class.{Class}
use Rattle.taxi_base.specs.declared.rows.Span.{Span}
use Rattle.taxi_base.specs.Airport.{Airport, layout_of, segment_of, arc_exists, seconds}
use Rattle.taxi_base.specs.Windows.{AreApart, IsWindow, covers}
use Rattle.taxi_base.specs.Walks.{conditions_in_windows}
use Rattle.taxi_base.proofs.AirportLaws.{arc_exists-segment}
use Rattle.taxi_base.proofs.WindowLaws.{AreWindows-member, AreWindows-whole}
use Rattle.taxi_base.proofs.ListLaws.{All-at}
use Rattle.walk_labels.specs.Places.{Place, IsPlace, ArePlaces, no_place, place_at, place_precedes}
use Rattle.walk_labels.specs.PlacesInWindows.{AreWindowLists, can_use}
use Rattle.label_search.specs.Problem.{IsIn}
use Rattle.window_store.specs.Rows.{no_span, span_in}
use Rattle.window_rows.proofs.RowLaws.{apart_in_order}
use Rattle.place_cells.specs.Laid.{Numbers, first_in, AreNumbered, HaveNumbers}
use Rattle.place_cells.specs.Ground.{Ground, ground_in, cells_of, run_of_arc, arc_in, window_in}
use Rattle.place_cells.proofs.RunLaws.{row_of, length-cells, cell_is, whole_window, in_run, run_inside}

module _ (airport : Airport) (class : Class) (clearance : ℕ) (windows : List (List Span)) (numbers : Numbers) (lists : AreWindowLists airport windows)
    (numbered : AreNumbered numbers.spots numbers.first) (room : HaveNumbers windows numbers.first) where
  abbrev g : Ground
  g = ground_in airport class clearance windows numbers

  apart : (k : ℕ) → AreApart 0 (get_or windows k [])
  apart k = All-at (AreApart 0) windows k [] tt lists.apart

  -- whether a number is that of a place
  abbrev pub usable_at : ℕ → Bool
  usable_at k = can_use airport class (arc_in g k) && ltb (window_in g k).from (window_in g k).until

  in_window : (k : ℕ) → k < length (cells_of g) → (window_in g k).from < (window_in g k).until → IsWindow (covers (row_of g (arc_in g k))) (window_in g k)
  in_window k on some =
      let at = whole_window g numbered k on some in
      let row : List Span = row_of g (arc_in g k) in
      let j : ℕ = k - first_in numbers.first (arc_in g k).0 in
      AreWindows-member (covers row) row (window_in g k) (record { apart = apart ((arc_in g k).0 / 2); same = λ t. refl })
      (j, at.1, get_or_default row j (window_in g k) no_span at.1 ∙ sym at.2)

  exact : (k : ℕ) → k < length (cells_of g) → IsTrue (usable_at k) ↔ IsPlace (conditions_in_windows airport class clearance windows) (place_at (cells_of g) k)
  exact k on = (
    λ h. (
        let both = and_parts (can_use airport class (arc_in g k)) (ltb (window_in g k).from (window_in g k).until) h in
        let parts = and_parts (arc_exists (layout_of airport) (arc_in g k)) (is_some (seconds airport class (segment_of (arc_in g k)))) both.0 in
        record { on_arc = parts.0; timed = parts.1; window = in_window k on (ltb-true (window_in g k).from (window_in g k).until both.1) }),
    λ is. and_from (can_use airport class (arc_in g k)) (ltb (window_in g k).from (window_in g k).until)
        (and_from (arc_exists (layout_of airport) (arc_in g k)) (is_some (seconds airport class (segment_of (arc_in g k)))) is.on_arc is.timed)
        (lt-ltb (window_in g k).from (window_in g k).until is.window.some),
  )

  some_at : (k : ℕ) → IsTrue (usable_at k) → (window_in g k).from < (window_in g k).until
  some_at k h = ltb-true (window_in g k).from (window_in g k).until (and_parts (can_use airport class (arc_in g k)) (ltb (window_in g k).from (window_in g k).until) h).1

  own_block : (k : ℕ) → k < length (cells_of g) → (suc (arc_in g k).0 < length numbers.first) × (k < first_in numbers.first (suc (arc_in g k).0))
  own_block k on =
      let inside : k < length numbers.spots = omega (arith, on, length-cells g) in
      let own = numbered.own k inside in
      subst (λ (p : Place). (suc p.arc.0 < length numbers.first) × (k < first_in numbers.first (suc p.arc.0))) (sym (cell_is g k inside)) (own.0, own.2)

  ordered : (j k : ℕ) → j < k → k < length (cells_of g) → IsTrue (usable_at j) → IsTrue (usable_at k) → IsTrue (place_precedes (place_at (cells_of g) j) (place_at (cells_of g) k))
  ordered j k sooner on j_usable k_usable =
      let j_on : j < length (cells_of g) = omega (arith, sooner, on) in
      let j_at = whole_window g numbered j j_on (some_at j j_usable) in
      let k_at = whole_window g numbered k on (some_at k k_usable) in
      let a : ℕ = (arc_in g j).0 in let b : ℕ = (arc_in g k).0 in
      elim (cases_lt a b) [
        | inl before ↦ or_left (ltb a b) (eqb a b && ltb (window_in g j).from (window_in g k).from) (lt-ltb a b before)
        | inr not ↦ elim (cases_lt b a) [
          | inl behind ↦
              absurd (omega (arith, sooner, j_at.0, (own_block k on).1, numbered.rising (suc b) a (omega (arith, behind)) (omega (arith, (own_block j j_on).0))))
          | inr neither ↦
              let same : a ≡ b = omega (arith, not, neither) in
              let arc : arc_in g j ≡ arc_in g k = λ i. record { 0 = same i } in
              let place : window_in g j ≡ span_in (row_of g (arc_in g k)) (j - first_in numbers.first b) = j_at.2 ∙ ap (λ (x : Arc). span_in (row_of g x) (j - first_in numbers.first x.0)) arc in
              let first : first_in numbers.first a ≡ first_in numbers.first b = ap (first_in numbers.first) same in
              let up = apart_in_order 0 (row_of g (arc_in g k)) (apart (b / 2)) (j - first_in numbers.first b) (k - first_in numbers.first b) (omega (arith, sooner, j_at.0, first)) k_at.1 in
              or_right (ltb a b) (eqb a b && ltb (window_in g j).from (window_in g k).from)
              (and_from (eqb a b) (ltb (window_in g j).from (window_in g k).from) (eq-eqb a b same)
              (lt-ltb _ _ (omega (arith, up.0, up.1, ap (λ (w : Span). w.from) place, ap (λ (w : Span). w.from) k_at.2))))
        ]
      ]

  whole : (p : Place) → IsPlace (conditions_in_windows airport class clearance windows) p → Contains (cells_of g) p
  whole p is =
      let row : List Span = row_of g p.arc in
      let found : Contains row p.window = AreWindows-whole (covers row) row p.window (record { apart = apart (p.arc.0 / 2); same = λ t. refl }) is.window in
      let below : p.arc.0 < 2 * length windows = omega (arith, arc_exists-segment airport p.arc is.on_arc, lists.count) in
      let k : ℕ = first_in numbers.first p.arc.0 + found.0 in
      let inside : IsIn (run_of_arc g p.arc) k = record { from_first = omega arith; until_end = omega (arith, found.1) } in
      let on : k < length (cells_of g) = omega (arith, inside.until_end, (run_inside g numbered room p.arc below).1) in
      let back : k - first_in numbers.first p.arc.0 ≡ found.0 = omega arith in
      let window : span_in row (k - first_in numbers.first p.arc.0) ≡ p.window = ap (span_in row) back ∙ get_or_default row found.0 no_span p.window found.1 ∙ found.2 in
      (k, on, get_or_default (cells_of g) k p no_place on ∙ in_run g numbered room p.arc below k inside ∙ (λ i. record { arc = p.arc; window = window i }))

  pub numbered-are : ArePlaces (conditions_in_windows airport class clearance windows) usable_at (cells_of g)
  numbered-are = record { exact = exact; ordered = ordered; whole = whole }
