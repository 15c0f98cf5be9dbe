-- What a search over cells may rest on.
use Rattle.std.proofs.Common.{◌≡◌, ℕ, ◌+◌, ◌-◌, ◌*◌, ◌^◌, ◌<◌, ◌≤◌, ◌&&◌, ltb, eqb, Bool, true, false, List, map, length, get_or, inl, inr, IsTrue, Option, Some, None, is_some, cond, unwrap_or, refl, sym, ◌∙◌, ap, subst, arith}
use Rattle.std.specs.Prelude.{All}
use Rattle.std.proofs.lemmas.Bool.{and_parts, and_from, lt-ltb, cond-true, cond-false}
use Rattle.std.proofs.lemmas.Bool.Decides.{eqb_tells}
use Rattle.std.proofs.lemmas.List.{get_or_default, length-map}
use Rattle.std.proofs.lemmas.List.Elements.{All-map}
use Rattle.segment_graph.specs.declared.links.Side.TheVariants.{Tail, Head}
use Rattle.segment_graph.proofs.Ends.{end_in-exists}
use Rattle.taxi_base.specs.declared.numbers.Arc.{Arc}
use Rattle.taxi_base.specs.declared.rows.Span.{Span}
use Rattle.taxi_base.specs.Windows.{AreApart}
use Rattle.taxi_base.specs.declared.numbers.Class.{Class}
use Rattle.taxi_base.specs.declared.numbers.Node.{Node}
use Rattle.taxi_base.specs.Airport.{Airport, IsWellFormed, Link, link_of, layout_of, ends, tail, head, arc_exists, permits, segment_of}
use Rattle.taxi_base.proofs.AirportLaws.{seconds-range, permits-exist}
use Rattle.label_search.specs.declared.cells.Run.{Run}
use Rattle.label_search.specs.Problem.{IsIn}
use Rattle.walk_labels.specs.Places.{Place}
use Rattle.walk_labels.specs.PlacesInWindows.{AreWindowLists}
use Rattle.window_store.specs.Rows.{span_in}
use Rattle.window_rows.specs.declared.rows.Part.{Part}
use Rattle.window_rows.specs.Rows.{IsCut}
use Rattle.window_rows.proofs.RowLaws.{apart_at}
use Rattle.place_cells.specs.Laid.{Numbers, first_in, AreNumbered, HaveNumbers}
use Rattle.place_cells.specs.declared.spots.ArcRow.{ArcRow}
use Rattle.place_cells.specs.Tells.{TellsCell}
use Rattle.place_cells.specs.Turns.{next_arcs, previous_arcs, no_arc}
use Rattle.place_cells.specs.Ground.{Ground, ground_in, cells_of, run_of_arc, IsSound, seconds_on, last_in, arc_in, window_in, can_use_in, usable_in, network_in, IsArcPart}
use Rattle.place_cells.proofs.RunLaws.{row_of, usable_parts, in_run_of_arc, in_run, run_inside, window_by, window_from_by}
use Rattle.place_cells.proofs.TurnLaws.{exists-below, next_arcs-all, previous_arcs-all}

-- the last second at which a step may leave is not past the window's end
pub last_in-within : (horizon clearance : ℕ) (w : Span) → last_in horizon clearance w ≤ w.until
last_in-within horizon clearance w =
    elim (eqb_tells w.until horizon) [
      | inl is ↦ omega (arith, is.1, cond-true (eqb w.until horizon) horizon (w.until - clearance) is.0)
      | inr not ↦ omega (arith, cond-false (eqb w.until horizon) horizon (w.until - clearance) not.0)
    ]

module _ (g : Ground) where
  -- what is cut from an arc's windows is a part of its cells
  pub arc_part : AreNumbered g.numbers.spots g.numbers.first → HaveNumbers g.windows g.numbers.first → (arc : Arc) → arc.0 < 2 * length g.windows → AreApart 0 (row_of g arc)
      → IsTrue (can_use_in g arc) → (low high : ℕ) (part : Part) → IsCut (row_of g arc) low high part
      → IsArcPart g arc low high (record { first = first_in g.numbers.first arc.0 + part.first; until = first_in g.numbers.first arc.0 + part.until })
  arc_part numbered room arc below apart can low high part cut = record {
    within = λ k on. (inside k on, usable k (inside k on));
    whole = λ k here _ not_over begins.
        let is = in_run g numbered room arc below k here in
        let at = cut.whole (k - first_in g.numbers.first arc.0) (omega (arith, here.from_first, here.until_end)) (omega (arith, not_over, ap (λ (p : Place). p.window.until) is)) (omega (arith, begins, ap (λ (p : Place). p.window.from) is)) in
        record { from_first = omega (arith, at.from_first, here.from_first); until_end = omega (arith, at.until_end, here.from_first) };
  }
    where
      inside : (k : ℕ) → IsIn (record { first = first_in g.numbers.first arc.0 + part.first; until = first_in g.numbers.first arc.0 + part.until }) k → IsIn (run_of_arc g arc) k
      inside k on = record { from_first = omega (arith, on.from_first); until_end = omega (arith, on.until_end, cut.within) }

      usable : (k : ℕ) → IsIn (run_of_arc g arc) k → IsTrue (usable_in g k)
      usable k here =
          let is = in_run g numbered room arc below k here in
          let some = (apart_at 0 (row_of g arc) apart (k - first_in g.numbers.first arc.0) (omega (arith, here.from_first, here.until_end))).1 in
          and_from _ _ (lt-ltb k (length (cells_of g)) (omega (arith, here.until_end, (run_inside g numbered room arc below).1)))
          (subst (λ (p : Place). IsTrue (can_use_in g p.arc && ltb p.window.from p.window.until)) (sym is) (and_from _ _ can (lt-ltb _ _ some)))

  -- and the arc's row tells its cells
  pub arc_told : AreNumbered g.numbers.spots g.numbers.first → HaveNumbers g.windows g.numbers.first → (arc : Arc) → arc.0 < 2 * length g.windows
      → (row : ArcRow) → row.first ≡ first_in g.numbers.first arc.0 → row.windows.now ≡ row_of g arc → seconds_on g (segment_of arc) ≡ Some row.seconds
      → (k : ℕ) → IsIn (run_of_arc g arc) k → TellsCell g row k
  arc_told numbered room arc below row first windows timed k here =
      let is = in_run g numbered room arc below k here in record {
        from_first = omega (arith, here.from_first, first);
        within = omega (arith, here.from_first, here.until_end, first, ap length windows);
        window = ap (λ (n : ℕ). span_in row.windows.now (k - n)) first ∙ ap (λ (xs : List Span). span_in xs (k - first_in g.numbers.first arc.0)) windows ∙ sym (ap (λ (p : Place). p.window) is);
        seconds = sym (ap (λ (p : Place). unwrap_or (seconds_on g (segment_of p.arc)) 1) is ∙ ap (λ (o : Option ℕ). unwrap_or o 1) timed);
      }

  pub usable_exists : (arc : Arc) → IsTrue (can_use_in g arc) → IsTrue (arc_exists g.layout arc)
  usable_exists arc h = (and_parts (arc_exists g.layout arc) (is_some (seconds_on g (segment_of arc))) h).0

  pub turn_parts : (j k : ℕ) → IsTrue ((network_in g).turn j k) → IsTrue (usable_in g j) × IsTrue (usable_in g k) × IsTrue (permits g.layout (arc_in g j) (arc_in g k))
  turn_parts j k turn =
      let parts = and_parts _ _ turn in
      let both = and_parts _ _ parts.0 in
      (both.0, both.1, parts.1)

  pub turns_inside : (j k : ℕ) → IsTrue ((network_in g).turn j k) → (j < length (cells_of g)) × (k < length (cells_of g))
  turns_inside j k turn = let parts = turn_parts j k turn in ((usable_parts g j parts.0).0, (usable_parts g k parts.1).0)

  -- ---- the runs of the arcs that may follow, and that may come before

  pub in_next_run : AreNumbered g.numbers.spots g.numbers.first → (j k : ℕ) → IsTrue ((network_in g).turn j k)
      → (i : ℕ) × (i < length (next_arcs g.layout (arc_in g j))) × IsIn (run_of_arc g (get_or (next_arcs g.layout (arc_in g j)) i no_arc)) k
  in_next_run numbered j k turn =
      let parts = turn_parts j k turn in
      let found = ((next_arcs-all g.layout (arc_in g j)).each (arc_in g k)).1 parts.2 in
      let same : get_or (next_arcs g.layout (arc_in g j)) found.0 no_arc ≡ arc_in g k = get_or_default (next_arcs g.layout (arc_in g j)) found.0 no_arc (arc_in g k) found.1 ∙ found.2 in
      (found.0, found.1, subst (λ (a : Arc). IsIn (run_of_arc g a) k) (sym same) (in_run_of_arc g numbered k parts.1))

  pub in_previous_run : AreNumbered g.numbers.spots g.numbers.first → (j k : ℕ) → IsTrue ((network_in g).turn j k)
      → (i : ℕ) × (i < length (previous_arcs g.layout (arc_in g k))) × IsIn (run_of_arc g (get_or (previous_arcs g.layout (arc_in g k)) i no_arc)) j
  in_previous_run numbered j k turn =
      let parts = turn_parts j k turn in
      let found = ((previous_arcs-all g.layout (arc_in g k)).each (arc_in g j)).1 parts.2 in
      let same : get_or (previous_arcs g.layout (arc_in g k)) found.0 no_arc ≡ arc_in g j = get_or_default (previous_arcs g.layout (arc_in g k)) found.0 no_arc (arc_in g j) found.1 ∙ found.2 in
      (found.0, found.1, subst (λ (a : Arc). IsIn (run_of_arc g a) j) (sym same) (in_run_of_arc g numbered j parts.0))

  pub next_permitted : (x : Arc) (i : ℕ) → i < length (next_arcs g.layout x) → IsTrue (permits g.layout x (get_or (next_arcs g.layout x) i no_arc))
  next_permitted x i on =
      let next : Arc = get_or (next_arcs g.layout x) i no_arc in
      ((next_arcs-all g.layout x).each next).0 (i, on, get_or_default (next_arcs g.layout x) i next no_arc on)

  pub previous_permitted : (y : Arc) (i : ℕ) → i < length (previous_arcs g.layout y) → IsTrue (permits g.layout (get_or (previous_arcs g.layout y) i no_arc) y)
  previous_permitted y i on =
      let previous : Arc = get_or (previous_arcs g.layout y) i no_arc in
      ((previous_arcs-all g.layout y).each previous).0 (i, on, get_or_default (previous_arcs g.layout y) i previous no_arc on)

  -- and the arcs are some of all
  pub next_below : (x : Arc) (i : ℕ) → i < length (next_arcs g.layout x) → (get_or (next_arcs g.layout x) i no_arc).0 < 2 * length g.layout.links
  next_below x i on = exists-below g.layout _ (permits-exist g.layout x (get_or (next_arcs g.layout x) i no_arc) (next_permitted x i on)).1

  pub previous_below : (y : Arc) (i : ℕ) → i < length (previous_arcs g.layout y) → (get_or (previous_arcs g.layout y) i no_arc).0 < 2 * length g.layout.links
  previous_below y i on = exists-below g.layout _ (permits-exist g.layout (get_or (previous_arcs g.layout y) i no_arc) y (previous_permitted y i on)).0

  -- ---- times

  module _ (sound : IsSound g) where
    seconds_within : (o : Option ℕ) → ((n : ℕ) → o ≡ Some n → (1 ≤ n) × (n ≤ 3600)) → (1 ≤ unwrap_or o 1) × (unwrap_or o 1 ≤ 3600)
    seconds_within None h = (omega arith, omega arith)
    seconds_within (Some n) h = h n refl

    pub takes : (k : ℕ) → 1 ≤ (network_in g).seconds k
    takes k = (seconds_within (seconds_on g (segment_of (arc_in g k))) (sound.timed (segment_of (arc_in g k)))).0

    pub small_seconds : (k : ℕ) → (network_in g).seconds k < 2 ^ 31
    small_seconds k = omega (arith, (seconds_within (seconds_on g (segment_of (arc_in g k))) (sound.timed (segment_of (arc_in g k)))).1)

    pub small_last : (k : ℕ) → (network_in g).last k < 2 ^ 31
    small_last k = omega (arith, last_in-within g.horizon g.clearance (window_in g k), window_by g g.horizon sound.by k, sound.small)

    pub small_from : All (AreApart 0) g.windows → (k : ℕ) → (network_in g).from k < 2 ^ 31
    small_from apart k = omega (arith, window_from_by g apart k, window_by g g.horizon sound.by k, sound.small)

  -- ---- the part of an arc's cells that a step may go on to, and from which one may come

  module _ (lists : length g.windows ≡ length g.layout.links) where
    pub arc_below : (arc : Arc) → IsTrue (arc_exists g.layout arc) → arc.0 < 2 * length g.windows
    arc_below arc h = omega (arith, exists-below g.layout arc h, lists)

    module _ (numbered : AreNumbered g.numbers.spots g.numbers.first) (room : HaveNumbers g.windows g.numbers.first) (arc : Arc) (low high : ℕ) (part : Run) (is_part : IsArcPart g arc low high part) (exists : IsTrue (arc_exists g.layout arc)) where
      of_arc : (d : ℕ) → IsIn (run_of_arc g arc) d → arc_in g d ≡ arc
      of_arc d inside = ap (λ (p : Place). p.arc) (in_run g numbered room arc (arc_below arc exists) d inside)

      can_of : (d : ℕ) → IsIn (run_of_arc g arc) d → IsTrue (usable_in g d) → IsTrue (can_use_in g arc)
      can_of d inside h = subst (λ (a : Arc). IsTrue (can_use_in g a)) (of_arc d inside) (usable_parts g d h).1

      -- it has each cell that a step may still leave at the one second, and which has begun by the other
      pub cells_in_part : (d : ℕ) → IsIn (run_of_arc g arc) d → IsTrue (usable_in g d) → low ≤ (network_in g).last d → (network_in g).from d ≤ high → IsIn part d
      cells_in_part d inside usable not_over begins =
          is_part.whole d inside (can_of d inside usable) (omega (arith, not_over, last_in-within g.horizon g.clearance (window_in g d))) begins

      module _ (k : ℕ) (usable : IsTrue (usable_in g k)) where
        pub part_follows : IsTrue (permits g.layout (arc_in g k) arc) → (d : ℕ) → IsIn part d → IsTrue ((network_in g).turn k d)
        part_follows permitted d on =
            let h = is_part.within d on in
            and_from _ _ (and_from _ _ usable h.1) (subst (λ (a : Arc). IsTrue (permits g.layout (arc_in g k) a)) (sym (of_arc d h.0)) permitted)

        pub part_leads : IsTrue (permits g.layout arc (arc_in g k)) → (d : ℕ) → IsIn part d → IsTrue ((network_in g).turn d k)
        part_leads permitted d on =
            let h = is_part.within d on in
            and_from _ _ (and_from _ _ h.1 usable) (subst (λ (a : Arc). IsTrue (permits g.layout a (arc_in g k))) (sym (of_arc d h.0)) permitted)

-- ---- an airport's class in windows

module _ (airport : Airport) (well : IsWellFormed airport) where
  pub airport_sound : (class : Class) (clearance : ℕ) (windows : List (List Span)) (numbers : Numbers) → AreWindowLists airport windows → AreNumbered numbers.spots numbers.first → HaveNumbers windows numbers.first
      → IsSound (ground_in airport class clearance windows numbers)
  airport_sound class clearance windows numbers lists numbered room = record {
    timed = λ s n e. seconds-range airport class s n well e;
    lists = omega (arith, lists.count, length-map airport.segments link_of);
    by = lists.by;
    small = omega (arith, well.horizon);
    apart = lists.apart;
    numbered = numbered;
    room = room;
  }

  linked : All (λ (l : Link). (l.from.0 < length airport.nodes) × (l.to.0 < length airport.nodes)) (map link_of airport.segments)
  linked = All-map (λ (l : Link). (l.from.0 < length airport.nodes) × (l.to.0 < length airport.nodes)) link_of airport.segments well.ends

  -- the ends of arcs are nodes
  pub tail_of_airport : (a : Arc) (n : Node) → tail (layout_of airport) a ≡ Some n → n.0 < length airport.nodes
  unfolding ends
  tail_of_airport a n e = end_in-exists Tail (map link_of airport.segments) (length airport.nodes) a n linked e

  pub head_of_airport : (a : Arc) (n : Node) → head (layout_of airport) a ≡ Some n → n.0 < length airport.nodes
  unfolding ends
  head_of_airport a n e = end_in-exists Head (map link_of airport.segments) (length airport.nodes) a n linked e

-- so many runs has a cell that can be used, and none one that can't
pub run_parts : (t : Bool) (n i : ℕ) → i < cond t n 0 → (t ≡ true) × (i < n)
run_parts true n i h = (refl, h)
run_parts false n i h = absurd (omega arith)
