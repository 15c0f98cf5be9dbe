-- What does an arrival ask of a search over cells?
use Rattle.std.specs.Prelude.{ℕ, ◌*◌, ◌==◌, List, [], ◌∷◌, length, Option, Some, None, slice_index_or, if◌then◌else◌}
use Rattle.taxi_base.specs.declared.numbers.Arc.{Arc}
use Rattle.taxi_base.specs.declared.numbers.Node.{Node}
use Rattle.taxi_base.specs.Airport.{Layout, arc_exists, tail, meet}
use Rattle.label_core.specs.Walks.{Start as CellStart}
use Rattle.label_search.specs.Problem.{Problem}
use Rattle.walk_labels.specs.Places.{place_at}
use Rattle.walk_labels.specs.Requests.{Beginning, starts_by, targets_at}
use Rattle.walk_labels.specs.Requests.Beginning.{at_node, resuming}
use Rattle.place_cells.specs.Turns.{next_arcs, previous_arcs, leaving_arcs, no_arc}
use Rattle.place_cells.specs.Ground.{Ground, cells_of, run_of_arc, network_in, arc_in, usable_in}
use Rattle.forward_search.specs.declared.starting.Start.{Start}
use Rattle.forward_search.specs.declared.starting.Start.TheVariants as start

-- how walks begin by a start; a step that was begun was to be left at some time, which does not matter
abbrev pub beginning_of : Start → ℕ → Beginning
beginning_of (start.Node from earliest latest) leave = at_node from earliest latest
beginning_of (start.Frozen arc enter exit_from) leave = resuming (record { arc = arc; enter = enter; leave = leave }) exit_from

-- how a walk may begin by an arc
abbrev pub start_at : Layout → Beginning → Arc → Option CellStart
start_at layout (at_node node earliest latest) arc =
    if meet (tail layout arc) (Some node) then Some (record { earliest = earliest; latest = latest; exit_from = 0 }) else None
start_at layout (resuming begun exit_from) arc =
    if arc.0 == begun.arc.0 then Some (record { earliest = begun.enter; latest = begun.enter; exit_from = exit_from }) else None

-- the arcs by which walks may begin
abbrev pub first_arcs : Layout → Beginning → List Arc
first_arcs layout (at_node node earliest latest) = leaving_arcs layout node
first_arcs layout (resuming begun exit_from) = if arc_exists layout begun.arc then begun.arc ∷ [] else []

-- The cells are those of all arcs by their numbers, of which some are left over. Walks begin in the runs of the first arcs, and the runs that may follow a
-- cell that the class can use are those of the arcs that may follow its arc; a run has the number of its arc. Those before it are of the arcs that may come
-- before its arc.
abbrev pub arrival_problem : Ground → Beginning → List Node → Problem
arrival_problem g b to = record {
  network = network_in g;
  starts = starts_by g.layout (usable_in g) (place_at (cells_of g)) b;
  target = targets_at g.layout (place_at (cells_of g)) to;
  count = length (cells_of g);
  runs = λ k. if usable_in g k then length (next_arcs g.layout (arc_in g k)) else 0;
  number = λ k i. (slice_index_or (next_arcs g.layout (arc_in g k)) i no_arc).0;
  numbers = 2 * length g.layout.links;
  run = λ n. run_of_arc g (record { 0 = n });
  runs_before = λ k. if usable_in g k then length (previous_arcs g.layout (arc_in g k)) else 0;
  run_before = λ k i. run_of_arc g (slice_index_or (previous_arcs g.layout (arc_in g k)) i no_arc);
  first_runs = length (first_arcs g.layout b);
  first_run = λ i. run_of_arc g (slice_index_or (first_arcs g.layout b) i no_arc);
}
