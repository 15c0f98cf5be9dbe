-- Each arc's cells are a run of the numbers.
use Rattle.std.proofs.Common.{◌≡◌, ℕ, suc, ◌+◌, ◌-◌, ◌*◌, ◌/◌, ◌<◌, ◌≤◌, ◌&&◌, ltb, List, [], length, get_or, inl, inr, IsTrue, sym, ◌∙◌, ap, subst, arith}
use Rattle.std.specs.Prelude.{All}
use Rattle.std.proofs.lemmas.Bool.{cases_lt, and_parts, ltb-true}
use Rattle.std.proofs.lemmas.List.{get_or-map, get_or_past, length-map}
use Rattle.std.proofs.lemmas.List.Elements.{All-nil, All-map}
use Rattle.taxi_base.specs.declared.numbers.Arc.{Arc}
use Rattle.taxi_base.specs.declared.rows.Span.{Span}
use Rattle.taxi_base.specs.Windows.{AreApart}
use Rattle.taxi_base.proofs.ListLaws.{All-at}
use Rattle.label_search.specs.Problem.{IsIn}
use Rattle.walk_labels.specs.Places.{Place, no_place, place_at}
use Rattle.window_store.specs.Rows.{no_span, span_in}
use Rattle.window_rows.proofs.RowLaws.{apart_at}
use Rattle.place_cells.specs.declared.spots.Spot.{Spot}
use Rattle.place_cells.specs.Laid.{no_spot, spot_in, first_in, place_of_spot, window_of_spot, AreNumbered, HaveNumbers}
use Rattle.place_cells.specs.Ground.{Ground, cells_of, run_of_arc, arc_in, window_in, can_use_in, usable_in}

module _ (g : Ground) where
  -- an arc's windows
  abbrev pub row_of : Arc → List Span
  row_of arc = get_or g.windows (arc.0 / 2) []

  pub length-cells : length (cells_of g) ≡ length g.numbers.spots
  length-cells = length-map g.numbers.spots (place_of_spot g.windows)

  pub cell_is : (k : ℕ) → k < length g.numbers.spots → place_at (cells_of g) k ≡ place_of_spot g.windows (spot_in g.numbers.spots k)
  cell_is k on = get_or-map (place_of_spot g.windows) g.numbers.spots k no_spot no_place on

  -- a number that is a cell's has an arc that the class can use, and a window that is not empty
  pub usable_parts : (k : ℕ) → IsTrue (usable_in g k) → (k < length (cells_of g)) × IsTrue (can_use_in g (arc_in g k)) × ((window_in g k).from < (window_in g k).until)
  usable_parts k h =
      let parts = and_parts (ltb k (length (cells_of g))) (can_use_in g (arc_in g k) && ltb (window_in g k).from (window_in g k).until) h in
      let both = and_parts (can_use_in g (arc_in g k)) (ltb (window_in g k).from (window_in g k).until) parts.1 in
      (ltb-true k (length (cells_of g)) parts.0, both.0, ltb-true (window_in g k).from (window_in g k).until both.1)

  module _ (numbered : AreNumbered g.numbers.spots g.numbers.first) where
    -- where a number's window is not empty, it is one of its arc's, at the number's place in the block
    pub whole_window : (k : ℕ) → k < length (cells_of g) → (window_in g k).from < (window_in g k).until
        → (first_in g.numbers.first (arc_in g k).0 ≤ k) × (k - first_in g.numbers.first (arc_in g k).0 < length (row_of (arc_in g k)))
        × (window_in g k ≡ span_in (row_of (arc_in g k)) (k - first_in g.numbers.first (arc_in g k).0))
    whole_window k on some =
        let inside : k < length g.numbers.spots = omega (arith, on, length-cells) in
        let is = cell_is k inside in
        subst (λ (p : Place). p.window.from < p.window.until → (first_in g.numbers.first p.arc.0 ≤ k) × (k - first_in g.numbers.first p.arc.0 < length (row_of p.arc)) × (p.window ≡ span_in (row_of p.arc) (k - first_in g.numbers.first p.arc.0)))
        (sym is) (at (spot_in g.numbers.spots k) (numbered.own k inside).1) some
      where
        at : (s : Spot) → first_in g.numbers.first s.arc.0 + s.window ≡ k → (window_of_spot g.windows s).from < (window_of_spot g.windows s).until
            → (first_in g.numbers.first s.arc.0 ≤ k) × (k - first_in g.numbers.first s.arc.0 < length (row_of s.arc)) × (window_of_spot g.windows s ≡ span_in (row_of s.arc) (k - first_in g.numbers.first s.arc.0))
        at s own some =
            let same : s.window ≡ k - first_in g.numbers.first s.arc.0 = omega (arith, own) in (
              omega (arith, own),
              elim (cases_lt s.window (length (row_of s.arc))) [
                | inl within ↦ omega (arith, within, same)
                | inr past ↦ let none : window_of_spot g.windows s ≡ no_span = get_or_past (row_of s.arc) s.window no_span past in absurd (omega (arith, some, ap (λ (w : Span). w.from) none, ap (λ (w : Span). w.until) none))
              ],
              ap (span_in (row_of s.arc)) same,
            )

    -- a cell of an arc is in its run
    pub in_run_of_arc : (k : ℕ) → IsTrue (usable_in g k) → IsIn (run_of_arc g (arc_in g k)) k
    in_run_of_arc k h =
        let parts = usable_parts k h in
        let own = whole_window k parts.0 parts.2 in
        record { from_first = own.0; until_end = omega (arith, own.0, own.1) }

    module _ (room : HaveNumbers g.windows g.numbers.first) (arc : Arc) (below : arc.0 < 2 * length g.windows) where
      pub run_inside : ((run_of_arc g arc).first ≤ (run_of_arc g arc).until) × ((run_of_arc g arc).until ≤ length (cells_of g))
      run_inside = (omega arith, omega (arith, room.room arc.0 below, room.arcs, numbered.inside (suc arc.0) (omega (arith, below, room.arcs)), length-cells))

      -- and what is in the run of an arc is the arc with the window of that place in its list
      pub in_run : (k : ℕ) → IsIn (run_of_arc g arc) k → place_at (cells_of g) k ≡ record { arc = arc; window = span_in (row_of arc) (k - (run_of_arc g arc).first) }
      in_run k inside =
          let j : ℕ = k - (run_of_arc g arc).first in
          let same : first_in g.numbers.first arc.0 + j ≡ k = omega (arith, inside.from_first) in
          let spot : spot_in g.numbers.spots k ≡ record { arc = arc; window = j } =
          ap (spot_in g.numbers.spots) (sym same) ∙ numbered.block arc.0 j (omega (arith, below, room.arcs)) (omega (arith, inside.until_end, inside.from_first, room.room arc.0 below)) in
          cell_is k (omega (arith, inside.until_end, run_inside.1, length-cells)) ∙ ap (place_of_spot g.windows) spot

  -- ---- each cell's window

  -- none ends after what ends all
  pub window_by : (horizon : ℕ) → All (All (λ w. w.until ≤ horizon)) g.windows → (k : ℕ) → (window_in g k).until ≤ horizon
  window_by horizon by k =
      All-at (λ (p : Place). p.window.until ≤ horizon) (cells_of g) k no_place (omega arith)
      (All-map (λ (p : Place). p.window.until ≤ horizon) (place_of_spot g.windows) g.numbers.spots
      (λ j d on. All-at (λ (w : Span). w.until ≤ horizon) (row_of (get_or g.numbers.spots j d).arc) (get_or g.numbers.spots j d).window no_span (omega arith)
      (All-at (All (λ (w : Span). w.until ≤ horizon)) g.windows ((get_or g.numbers.spots j d).arc.0 / 2) [] (All-nil (λ (w : Span). w.until ≤ horizon)) by)))

  -- and none begins after its end
  pub window_from_by : All (AreApart 0) g.windows → (k : ℕ) → (window_in g k).from ≤ (window_in g k).until
  window_from_by apart k =
      All-at (λ (p : Place). p.window.from ≤ p.window.until) (cells_of g) k no_place (omega arith)
      (All-map (λ (p : Place). p.window.from ≤ p.window.until) (place_of_spot g.windows) g.numbers.spots
      (λ j d on. in_order (get_or g.numbers.spots j d)))
    where
      in_order : (s : Spot) → (window_of_spot g.windows s).from ≤ (window_of_spot g.windows s).until
      in_order s =
          elim (cases_lt s.window (length (row_of s.arc))) [
            | inl within ↦ omega (arith, (apart_at 0 (row_of s.arc) (All-at (AreApart 0) g.windows (s.arc.0 / 2) [] tt apart) s.window within).1)
            | inr past ↦ let none : window_of_spot g.windows s ≡ no_span = get_or_past (row_of s.arc) s.window no_span past in omega (arith, ap (λ (w : Span). w.from) none)
          ]
