-- The numbered cells are what an arrival's search is asked.
use Rattle.std.proofs.Common.{◌≡◌, ℕ, zero, suc, ◌<◌, ◌&&◌, ◌==◌, Bool, true, false, List, [], ◌∷◌, length, get_or, inl, inr, IsTrue, Some, cond, refl, sym, ◌∙◌, ap, subst, arith}
use Rattle.std.specs.Prelude.{Contains}
use Rattle.std.proofs.lemmas.Bool.{and_parts, cond-true, eqb-true}
use Rattle.std.proofs.lemmas.List.{get_or_default}
use Rattle.taxi_base.specs.declared.numbers.Arc.{Arc}
use Rattle.taxi_base.specs.declared.numbers.Node.{Node}
use Rattle.taxi_base.specs.declared.rows.Step.{Step}
use Rattle.taxi_base.specs.Airport.{Layout, Ends, ends, arc_exists, tail, meet}
use Rattle.label_core.specs.Walks.{Start as CellStart}
use Rattle.label_search.specs.declared.cells.Run.{Run}
use Rattle.label_search.specs.Problem.{IsProblem, IsIn, IsPartWith, CanBegin, MayComeTo}
use Rattle.walk_labels.specs.Places.{Place, place_at}
use Rattle.walk_labels.specs.Requests.{Beginning, starts_by}
use Rattle.walk_labels.specs.Requests.Beginning.{at_node, resuming}
use Rattle.walk_labels.proofs.RequestCells.{if_some, meet-same}
use Rattle.place_cells.specs.Turns.{leaving_arcs, next_arcs, previous_arcs, no_arc}
use Rattle.place_cells.specs.Laid.{AreNumbered, HaveNumbers}
use Rattle.place_cells.specs.Ground.{Ground, cells_of, run_of_arc, IsSound, arc_in, usable_in, IsArcPart}
use Rattle.place_cells.proofs.RunLaws.{usable_parts, in_run_of_arc, run_inside}
use Rattle.place_cells.proofs.TurnLaws.{leaving_arcs-all, some-exists}
use Rattle.place_cells.proofs.GroundLaws.{usable_exists, turn_parts, turns_inside, in_next_run, in_previous_run, next_below, run_parts, takes, small_seconds, small_last, arc_below, cells_in_part}
use Rattle.forward_search.specs.declared.starting.Start.{Start}
use Rattle.forward_search.specs.declared.starting.Start.TheVariants as start
use Rattle.forward_search.specs.Arrivals.{beginning_of, first_arcs, arrival_problem}

-- ---- the starts

start_inside : {C : Type 0} (layout : Layout) (inside : C → Bool) (place : C → Place) (b : Beginning) (x : C) (s : CellStart) → starts_by layout inside place b x ≡ Some s → inside x ≡ true
start_inside layout inside place (at_node node earliest latest) x s e = (and_parts (inside x) (meet (tail layout (place x).arc) (Some node)) (if_some _ _ s e).0).0
start_inside layout inside place (resuming begun exit_from) x s e = (and_parts (inside x) ((place x).arc.0 == begun.arc.0) (if_some _ _ s e).0).0

-- from when on and until when walks may begin
abbrev pub earliest_of : Beginning → ℕ
earliest_of (at_node node earliest latest) = earliest
earliest_of (resuming begun exit_from) = begun.enter

abbrev pub latest_of : Beginning → ℕ
latest_of (at_node node earliest latest) = latest
latest_of (resuming begun exit_from) = begun.enter

start_times : {C : Type 0} (layout : Layout) (inside : C → Bool) (place : C → Place) (b : Beginning) (x : C) (s : CellStart) → starts_by layout inside place b x ≡ Some s
    → (s.earliest ≡ earliest_of b) × (s.latest ≡ latest_of b)
start_times layout inside place (at_node node earliest latest) x s e =
    let is = (if_some (inside x && meet (tail layout (place x).arc) (Some node)) _ s e).1 in
    (sym (ap (λ (y : CellStart). y.earliest) is), sym (ap (λ (y : CellStart). y.latest) is))
start_times layout inside place (resuming begun exit_from) x s e =
    let is = (if_some (inside x && ((place x).arc.0 == begun.arc.0)) _ s e).1 in
    (sym (ap (λ (y : CellStart). y.earliest) is), sym (ap (λ (y : CellStart). y.latest) is))

-- ---- the first arcs

first_arc : (layout : Layout) (inside : ℕ → Bool) (place : ℕ → Place) (b : Beginning) (k : ℕ) (s : CellStart) → starts_by layout inside place b k ≡ Some s → IsTrue (arc_exists layout (place k).arc)
    → Contains (first_arcs layout b) (place k).arc
first_arc layout inside place (at_node node earliest latest) k s e there =
    let test = (and_parts (inside k) (meet (tail layout (place k).arc) (Some node)) (if_some _ _ s e).0).1 in
    ((leaving_arcs-all layout node).each (place k).arc).1 ((meet-same (tail layout (place k).arc) node).0 test)
first_arc layout inside place (resuming begun exit_from) k s e there =
    let number : (place k).arc.0 ≡ begun.arc.0 = eqb-true _ _ (and_parts (inside k) ((place k).arc.0 == begun.arc.0) (if_some _ _ s e).0).1 in
    let same : (place k).arc ≡ begun.arc = λ i. record { 0 = number i } in
    let exists : arc_exists layout begun.arc ≡ true = subst (λ (a : Arc). IsTrue (arc_exists layout a)) same there in
    subst (λ (list : List Arc). Contains list (place k).arc) (sym (cond-true (arc_exists layout begun.arc) (begun.arc ∷ []) [] exists)) (0, omega arith, sym same)

pub first_exist : (layout : Layout) (b : Beginning) (i : ℕ) → i < length (first_arcs layout b) → IsTrue (arc_exists layout (get_or (first_arcs layout b) i no_arc))
first_exist layout (at_node node earliest latest) i on =
    let arc : Arc = get_or (leaving_arcs layout node) i no_arc in
    some-exists layout (λ (e : Ends). e.tail) (ends layout arc) node (((leaving_arcs-all layout node).each arc).0 (i, on, get_or_default (leaving_arcs layout node) i arc no_arc on))
first_exist layout (resuming begun exit_from) i on = go (arc_exists layout begun.arc) refl on
  where
    at_first : (t : Bool) → arc_exists layout begun.arc ≡ t → (i : ℕ) → i < length (cond t (begun.arc ∷ []) []) → IsTrue (arc_exists layout (get_or (cond t (begun.arc ∷ []) []) i no_arc))
    at_first true is zero on = is
    at_first true is (suc i) on = absurd (omega arith)
    at_first false is i on = absurd (omega arith)

    go : (t : Bool) → arc_exists layout begun.arc ≡ t → i < length (cond (arc_exists layout begun.arc) (begun.arc ∷ []) []) → IsTrue (arc_exists layout (get_or (cond (arc_exists layout begun.arc) (begun.arc ∷ []) []) i no_arc))
    go t is on = at_first (arc_exists layout begun.arc) refl i on

-- a step that was begun is by the one first arc
pub first_begun : (layout : Layout) (begun : Step) (exit_from i : ℕ) → i < length (first_arcs layout (resuming begun exit_from)) → get_or (first_arcs layout (resuming begun exit_from)) i no_arc ≡ begun.arc
first_begun layout begun exit_from i on = at (arc_exists layout begun.arc) i on
  where
    at : (t : Bool) (i : ℕ) → i < length (cond t (begun.arc ∷ []) []) → get_or (cond t (begun.arc ∷ []) []) i no_arc ≡ begun.arc
    at true zero on = refl
    at true (suc i) on = absurd (omega arith)
    at false i on = absurd (omega arith)

-- ---- the cells to which walks may come

-- the class can use each
pub come_to-usable : (g : Ground) (b : Beginning) (to : List Node) (k : ℕ) → MayComeTo (arrival_problem g b to) k → IsTrue (usable_in g k)
come_to-usable g b to k (inl begins) = start_inside g.layout (usable_in g) (place_at (cells_of g)) b k begins.0 begins.1
come_to-usable g b to k (inr comes) = (turn_parts g comes.0 k comes.1).1

-- ---- the cells in which walks can begin

module _ (g : Ground) (lists : length g.windows ≡ length g.layout.links) (numbered : AreNumbered g.numbers.spots g.numbers.first) (room : HaveNumbers g.windows g.numbers.first) where
  -- of a first arc each is in the part that does not end before walks may begin, nor begins after it
  pub begins_in_part : (b : Beginning) (to : List Node) (i : ℕ) → i < length (first_arcs g.layout b) → (arc : Arc) → arc ≡ get_or (first_arcs g.layout b) i no_arc
      → (low high : ℕ) → low ≡ earliest_of b → high ≡ latest_of b → (part : Run) → IsArcPart g arc low high part
      → IsPartWith (CanBegin (arrival_problem g b to)) ((arrival_problem g b to).first_run i) part
  begins_in_part b to i on arc is_first low high from until part is_part = record {
    within = λ k is. (of_first.within k is).0;
    wanted_in = λ k inside can.
        let e = can.1 in
        let times = start_times g.layout (usable_in g) (place_at (cells_of g)) b k e.start e.here in
        cells_in_part g lists numbered room first low high part of_first (first_exist g.layout b i on) k inside (start_inside g.layout (usable_in g) (place_at (cells_of g)) b k e.start e.here)
        (omega (arith, e.value, e.in_time, times.0, from)) (omega (arith, e.not_late, times.1, until));
  }
    where
      first : Arc
      first = get_or (first_arcs g.layout b) i no_arc

      of_first : IsArcPart g first low high part
      of_first = subst (λ (a : Arc). IsArcPart g a low high part) is_first is_part

-- ---- the problem

module _ (g : Ground) (sound : IsSound g) where
  in_first_run : (b : Beginning) (k : ℕ) (s : CellStart) → starts_by g.layout (usable_in g) (place_at (cells_of g)) b k ≡ Some s
      → (i : ℕ) × (i < length (first_arcs g.layout b)) × IsIn (run_of_arc g (get_or (first_arcs g.layout b) i no_arc)) k
  in_first_run b k s e =
      let parts = usable_parts g k (start_inside g.layout (usable_in g) (place_at (cells_of g)) b k s e) in
      let found = first_arc g.layout (usable_in g) (place_at (cells_of g)) b k s e (usable_exists g (arc_in g k) parts.1) in
      let same : get_or (first_arcs g.layout b) found.0 no_arc ≡ arc_in g k = get_or_default (first_arcs g.layout b) found.0 no_arc (arc_in g k) found.1 ∙ found.2 in
      (found.0, found.1, subst (λ (a : Arc). IsIn (run_of_arc g a) k) (sym same) (in_run_of_arc g sound.numbered k (start_inside g.layout (usable_in g) (place_at (cells_of g)) b k s e)))

  in_runs : (j k : ℕ) → IsTrue (usable_in g j) → (i : ℕ) → i < length (next_arcs g.layout (arc_in g j)) → i < cond (usable_in g j) (length (next_arcs g.layout (arc_in g j))) 0
  in_runs j k usable i on = omega (arith, cond-true (usable_in g j) (length (next_arcs g.layout (arc_in g j))) 0 usable)

  in_runs_before : (k : ℕ) → IsTrue (usable_in g k) → (i : ℕ) → i < length (previous_arcs g.layout (arc_in g k)) → i < cond (usable_in g k) (length (previous_arcs g.layout (arc_in g k))) 0
  in_runs_before k usable i on = omega (arith, cond-true (usable_in g k) (length (previous_arcs g.layout (arc_in g k))) 0 usable)

  pub arrival_is_problem : (b : Beginning) (to : List Node) → IsProblem (arrival_problem g b to)
  arrival_is_problem b to = record {
    takes = takes g sound;
    small_seconds = small_seconds g sound;
    small_last = small_last g sound;
    turns_in_runs = λ j k turn. (let found = in_next_run g sound.numbered j k turn in (found.0, in_runs j k (turn_parts g j k turn).0 found.0 found.1, found.2));
    turns_in_runs_before = λ j k turn. (let found = in_previous_run g sound.numbered j k turn in (found.0, in_runs_before k (turn_parts g j k turn).1 found.0 found.1, found.2));
    numbers_inside = λ k i inside on. (let parts = run_parts (usable_in g k) (length (next_arcs g.layout (arc_in g k))) i on in next_below g (arc_in g k) i parts.1);
    turns_inside = turns_inside g;
    starts_inside = λ k s e. (usable_parts g k (start_inside g.layout (usable_in g) (place_at (cells_of g)) b k s e)).0;
    starts_in_runs = in_first_run b;
    first_runs_inside = λ i on. (run_inside g sound.numbered sound.room (get_or (first_arcs g.layout b) i no_arc) (arc_below g sound.lists (get_or (first_arcs g.layout b) i no_arc) (first_exist g.layout b i on))).1;
  }

-- when a step that was begun was to be left makes no other problem
pub same_problem : (g : Ground) (s : Start) (leave : ℕ) (to : List Node) → arrival_problem g (beginning_of s 0) to ≡ arrival_problem g (beginning_of s leave) to
same_problem g (start.Node from earliest latest) leave to = refl
same_problem g (start.Frozen arc enter exit_from) leave to = refl
