-- The numbered cells are what a departure's search is asked.
use Rattle.std.proofs.Common.{◌≡◌, ℕ, zero, suc, ◌+◌, ◌++◌, take, ◌^◌, ◌<◌, ◌&&◌, Bool, true, List, [], ◌∷◌, inl, inr, length, get_or, IsTrue, Some, cond, sym, ◌∙◌, ap, subst, arith}
use Rattle.std.proofs.lemmas.Bool.{and_parts, cond-true}
use Rattle.std.specs.Prelude.{Contains}
use Rattle.std.proofs.lemmas.List.{append-nil, append_assoc, get_or_default}
use Rattle.std.proofs.lemmas.List.Elements.{Contains-append_left, Contains-append_right, Contains-append_cases}
use Rattle.taxi_base.specs.declared.numbers.Arc.{Arc}
use Rattle.taxi_base.specs.declared.numbers.Node.{Node}
use Rattle.taxi_base.specs.Airport.{Layout, Ends, ends, arc_exists, head}
use Rattle.label_core.specs.BackwardWalks.{Finish}
use Rattle.label_search.specs.declared.cells.Run.{Run}
use Rattle.label_search.specs.Problem.{IsIn, IsPartWith}
use Rattle.label_search.specs.Backward.{IsBackwardProblem, CanEnd, MayGoFrom}
use Rattle.walk_labels.specs.Places.{Place, place_at}
use Rattle.taxi_base.specs.Choices.{OneOf}
use Rattle.walk_labels.specs.Requests.{leads_to_one_of, finishes_at}
use Rattle.walk_labels.proofs.RequestCells.{if_some, leads-OneOf}
use Rattle.place_cells.specs.Turns.{entering_arcs, next_arcs, previous_arcs, no_arc}
use Rattle.place_cells.specs.Laid.{AreNumbered, HaveNumbers}
use Rattle.place_cells.specs.Ground.{Ground, cells_of, run_of_arc, IsSound, arc_in, usable_in, IsArcPart}
use Rattle.place_cells.proofs.RunLaws.{usable_parts, in_run_of_arc, run_inside}
use Rattle.place_cells.proofs.TurnLaws.{entering_arcs-all, some-exists}
use Rattle.place_cells.proofs.GroundLaws.{turn_parts, turns_inside, in_next_run, in_previous_run, previous_below, run_parts, takes, small_seconds, small_from, small_last, arc_below, cells_in_part}
use Rattle.backward_search.specs.Departures.{Ending, last_arcs, departure_problem}

-- ---- the finishes

finish_parts : {C : Type 0} (layout : Layout) (inside : C → Bool) (place : C → Place) (e : Ending) (x : C) (f : Finish) → finishes_at layout inside place e.to e.earliest e.latest x ≡ Some f
    → (inside x ≡ true) × (OneOf (λ node. head layout (place x).arc ≡ Some node) e.to) × (f.earliest_out ≡ e.earliest) × (f.latest_out ≡ e.latest)
finish_parts layout inside place e x f h =
    let given = if_some (inside x && leads_to_one_of layout e.to (place x).arc) (record { earliest_out = e.earliest; latest_out = e.latest }) f h in
    let both = and_parts (inside x) (leads_to_one_of layout e.to (place x).arc) given.0 in
    (both.0, (leads-OneOf layout e.to (place x).arc).0 both.1, sym (ap (λ (y : Finish). y.earliest_out) given.1), sym (ap (λ (y : Finish). y.latest_out) given.1))

-- ---- the last arcs

module _ (layout : Layout) where
  -- an arc that leads to one of the nodes is among them
  in_last_arcs : (nodes : List Node) (x : Arc) → OneOf (λ node. head layout x ≡ Some node) nodes → Contains (last_arcs layout nodes) x
  in_last_arcs [] x h = absurd h
  in_last_arcs (n ∷ []) x h = Contains-append_left (entering_arcs layout n) [] x (((entering_arcs-all layout n).each x).1 h)
  in_last_arcs (n ∷ m ∷ nodes) x (inl here) = Contains-append_left (entering_arcs layout n) (last_arcs layout (m ∷ nodes)) x (((entering_arcs-all layout n).each x).1 here)
  in_last_arcs (n ∷ m ∷ nodes) x (inr later) = Contains-append_right (entering_arcs layout n) (last_arcs layout (m ∷ nodes)) x (in_last_arcs (m ∷ nodes) x later)

  -- with those of one more node
  last_arcs-next : (nodes : List Node) (i : ℕ) (none : Node) → i < length nodes → last_arcs layout (take (suc i) nodes) ≡ last_arcs layout (take i nodes) ++ entering_arcs layout (get_or nodes i none)
  last_arcs-next [] i none on = absurd (omega arith)
  last_arcs-next (n ∷ nodes) zero none on = append-nil (entering_arcs layout n)
  last_arcs-next (n ∷ nodes) (suc i) none on =
      ap (λ arcs. entering_arcs layout n ++ arcs) (last_arcs-next nodes i none (omega arith)) ∙ sym (append_assoc (entering_arcs layout n) (last_arcs layout (take i nodes)) (entering_arcs layout (get_or nodes i none)))

  pub last_arcs-more : (nodes : List Node) (i : ℕ) (none : Node) → i < length nodes → last_arcs layout (take (i + 1) nodes) ≡ last_arcs layout (take i nodes) ++ entering_arcs layout (get_or nodes i none)
  last_arcs-more nodes i none on =
      let next : suc i ≡ i + 1 = omega arith in
      subst (λ k. last_arcs layout (take k nodes) ≡ last_arcs layout (take i nodes) ++ entering_arcs layout (get_or nodes i none)) next (last_arcs-next nodes i none on)

  -- and each of them exists
  last_arcs-exist : (nodes : List Node) (x : Arc) → Contains (last_arcs layout nodes) x → IsTrue (arc_exists layout x)
  last_arcs-exist [] x h = absurd (omega (arith, h.1))
  last_arcs-exist (n ∷ nodes) x h =
      elim (Contains-append_cases (entering_arcs layout n) (last_arcs layout nodes) x h) [
        | inl here ↦ some-exists layout (λ (e : Ends). e.head) (ends layout x) n (((entering_arcs-all layout n).each x).0 here)
        | inr later ↦ last_arcs-exist nodes x later
      ]

  pub last_exist : (nodes : List Node) (i : ℕ) → i < length (last_arcs layout nodes) → IsTrue (arc_exists layout (get_or (last_arcs layout nodes) i no_arc))
  last_exist nodes i on =
      let arc : Arc = get_or (last_arcs layout nodes) i no_arc in
      last_arcs-exist nodes arc (i, on, get_or_default (last_arcs layout nodes) i arc no_arc on)

-- ---- the cells from which walks may go on

-- the class can use each
pub go_from-usable : (g : Ground) (from : Node) (e : Ending) (k : ℕ) → MayGoFrom (departure_problem g from e) k → IsTrue (usable_in g k)
go_from-usable g from e k (inl ends_here) = (finish_parts g.layout (usable_in g) (place_at (cells_of g)) e k ends_here.0 ends_here.1).0
go_from-usable g from e k (inr goes_on) = (turn_parts g k goes_on.0 goes_on.1).0

-- ---- the cells in which walks can end

module _ (g : Ground) (lists : length g.windows ≡ length g.layout.links) (numbered : AreNumbered g.numbers.spots g.numbers.first) (room : HaveNumbers g.windows g.numbers.first) where
  -- of a last arc each is in the part that does not end before walks may end, nor begins after it
  pub ends_in_part : (from : Node) (e : Ending) (i : ℕ) → i < length (last_arcs g.layout e.to) → (part : Run) → IsArcPart g (get_or (last_arcs g.layout e.to) i no_arc) e.earliest e.latest part
      → IsPartWith (CanEnd (departure_problem g from e)) ((departure_problem g from e).last_run i) part
  ends_in_part from e i on part is_part = record {
    within = λ k is. (is_part.within k is).0;
    wanted_in = λ k inside can.
        let h = can.1 in
        let parts = finish_parts g.layout (usable_in g) (place_at (cells_of g)) e k h.finish h.here in
        cells_in_part g lists numbered room (get_or (last_arcs g.layout e.to) i no_arc) e.earliest e.latest part is_part (last_exist g.layout e.to i on) k inside parts.0
        (omega (arith, h.not_early, parts.2)) (omega (arith, h.value, h.in_window, parts.3));
  }

-- ---- the problem

module _ (g : Ground) (sound : IsSound g) where
  in_last_run : (e : Ending) (k : ℕ) (f : Finish) → finishes_at g.layout (usable_in g) (place_at (cells_of g)) e.to e.earliest e.latest k ≡ Some f
      → (i : ℕ) × (i < length (last_arcs g.layout e.to)) × IsIn (run_of_arc g (get_or (last_arcs g.layout e.to) i no_arc)) k
  in_last_run e k f h =
      let parts = finish_parts g.layout (usable_in g) (place_at (cells_of g)) e k f h in
      let found = in_last_arcs g.layout e.to (arc_in g k) parts.1 in
      let same : get_or (last_arcs g.layout e.to) found.0 no_arc ≡ arc_in g k = get_or_default (last_arcs g.layout e.to) found.0 no_arc (arc_in g k) found.1 ∙ found.2 in
      (found.0, found.1, subst (λ (a : Arc). IsIn (run_of_arc g a) k) (sym same) (in_run_of_arc g sound.numbered k parts.0))

  in_runs : (k : ℕ) → IsTrue (usable_in g k) → (i : ℕ) → i < length (previous_arcs g.layout (arc_in g k)) → i < cond (usable_in g k) (length (previous_arcs g.layout (arc_in g k))) 0
  in_runs k usable i on = omega (arith, cond-true (usable_in g k) (length (previous_arcs g.layout (arc_in g k))) 0 usable)

  in_runs_after : (k : ℕ) → IsTrue (usable_in g k) → (i : ℕ) → i < length (next_arcs g.layout (arc_in g k)) → i < cond (usable_in g k) (length (next_arcs g.layout (arc_in g k))) 0
  in_runs_after k usable i on = omega (arith, cond-true (usable_in g k) (length (next_arcs g.layout (arc_in g k))) 0 usable)

  pub departure_is_problem : (from : Node) (e : Ending) → e.earliest < 2 ^ 31 → IsBackwardProblem (departure_problem g from e)
  departure_is_problem from e small = record {
    takes = takes g sound;
    small_seconds = small_seconds g sound;
    small_from = small_from g sound sound.apart;
    small_last = small_last g sound;
    small_finishes = λ k f h. omega (arith, small, (finish_parts g.layout (usable_in g) (place_at (cells_of g)) e k f h).2);
    turns_in_runs = λ j k turn. (let found = in_previous_run g sound.numbered j k turn in (found.0, in_runs k (turn_parts g j k turn).1 found.0 found.1, found.2));
    turns_in_runs_after = λ j k turn. (let found = in_next_run g sound.numbered j k turn in (found.0, in_runs_after j (turn_parts g j k turn).0 found.0 found.1, found.2));
    numbers_inside = λ k i inside on. (let parts = run_parts (usable_in g k) (length (previous_arcs g.layout (arc_in g k))) i on in previous_below g (arc_in g k) i parts.1);
    turns_inside = turns_inside g;
    finishes_inside = λ k f h. (usable_parts g k (finish_parts g.layout (usable_in g) (place_at (cells_of g)) e k f h).0).0;
    finishes_in_runs = in_last_run e;
    last_runs_inside = λ i on. (run_inside g sound.numbered sound.room (get_or (last_arcs g.layout e.to) i no_arc) (arc_below g sound.lists (get_or (last_arcs g.layout e.to) i no_arc) (last_exist g.layout e.to i on))).1;
  }
