-- What does a departure ask of a search over cells?
use Rattle.std.specs.Prelude.{ℕ, ◌*◌, List, [], ◌∷◌, ◌++◌, length, Option, Some, None, slice_index_or, if◌then◌else◌}
use Rattle.taxi_base.specs.declared.numbers.Arc.{Arc}
use Rattle.taxi_base.specs.declared.numbers.Node.{Node}
use Rattle.taxi_base.specs.Airport.{Layout}
use Rattle.label_core.specs.BackwardWalks.{Finish}
use Rattle.label_search.specs.Backward.{BackwardProblem}
use Rattle.walk_labels.specs.Places.{place_at}
use Rattle.walk_labels.specs.Requests.{leads_to_one_of, finishes_at, sources_at_node}
use Rattle.place_cells.specs.Turns.{next_arcs, previous_arcs, entering_arcs, no_arc}
use Rattle.place_cells.specs.Ground.{Ground, cells_of, run_of_arc, network_in, arc_in, usable_in}

-- how walks end: at one of some nodes, left within a time
pub record Ending : Type 0 where
  pub to : List Node
  pub earliest : ℕ
  pub latest : ℕ

-- how a walk may end by an arc
abbrev pub finish_at : Layout → Ending → Arc → Option Finish
finish_at layout e arc = if leads_to_one_of layout e.to arc then Some (record { earliest_out = e.earliest; latest_out = e.latest }) else None

-- the arcs by which walks may end
abbrev pub last_arcs : Layout → List Node → List Arc
last_arcs layout [] = []
last_arcs layout (node ∷ nodes) = entering_arcs layout node ++ last_arcs layout nodes

-- The cells are those of all arcs by their numbers, of which some are left over. Walks end in the runs of the last arcs, and the runs that
-- may come before a cell that the class can use are those of the arcs that may come before its arc; a run has the number of its arc. Those after it are of the
-- arcs that may follow its arc.
abbrev pub departure_problem : Ground → Node → Ending → BackwardProblem
departure_problem g from e = record {
  network = network_in g;
  finishes = finishes_at g.layout (usable_in g) (place_at (cells_of g)) e.to e.earliest e.latest;
  source = sources_at_node g.layout (place_at (cells_of g)) from;
  count = length (cells_of g);
  runs = λ k. if usable_in g k then length (previous_arcs g.layout (arc_in g k)) else 0;
  number = λ k i. (slice_index_or (previous_arcs g.layout (arc_in g k)) i no_arc).0;
  numbers = 2 * length g.layout.links;
  run = λ n. run_of_arc g (record { 0 = n });
  runs_after = λ k. if usable_in g k then length (next_arcs g.layout (arc_in g k)) else 0;
  run_after = λ k i. run_of_arc g (slice_index_or (next_arcs g.layout (arc_in g k)) i no_arc);
  last_runs = length (last_arcs g.layout e.to);
  last_run = λ i. run_of_arc g (slice_index_or (last_arcs g.layout e.to) i no_arc);
}
