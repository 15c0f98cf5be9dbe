use Rattle.std.proofs.Common.{◌≡◌, List, length, get_or, IsTrue, sym, ◌∙◌, subst}
use Rattle.taxi_base.specs.declared.numbers.Arc.{Arc}
use Rattle.taxi_base.specs.Airport.{arc_exists}
use Rattle.place_cells.specs.Turns.{next_arcs, previous_arcs, no_arc}
use Rattle.place_cells.specs.Ground.{Ground, arc_in, usable_in, IsArcPart}
use Rattle.place_cells.specs.Grounds.{ground_of}
use Rattle.place_cells.proofs.LaidLaws.{windows_of-length}
use Rattle.taxi_base.proofs.AirportLaws.{permits-exist}
use Rattle.place_cells.proofs.BesideLaws.{beside_exists, beside_others}
use Rattle.place_cells.proofs.GroundLaws.{run_parts, next_permitted, turn_parts, part_follows, cells_in_part}
use Rattle.backward_search.proofs.cells.DepartureCellsBackwardCells.run_after.Goals as goal

pub next-requires : goal.next-requires
next-requires c =
    let g : Ground = ground_of c.args.self.now.ground in
    beside_exists g c.args._cell (previous_arcs g.layout (arc_in g c.args._cell)) c.args.at c.requires.stands

pub part-requires : goal.part-requires
part-requires c =
    let g : Ground = ground_of c.args.self.now.ground in
    let parts = run_parts (usable_in g c.args._cell) (length (next_arcs g.layout (arc_in g c.args._cell))) c.args.run c.requires.is_run in
    let others : c.next.result.now ≡ next_arcs g.layout (arc_in g c.args._cell) =
    beside_others g c.args._cell (previous_arcs g.layout (arc_in g c.args._cell)) c.args.at c.requires.stands (next_arcs g.layout) c.next.result.now c.next.ensures in
    subst (λ (list : List Arc). IsTrue (arc_exists g.layout (get_or list c.args.run no_arc))) (sym others)
    (permits-exist g.layout (arc_in g c.args._cell) (get_or (next_arcs g.layout (arc_in g c.args._cell)) c.args.run no_arc) (next_permitted g (arc_in g c.args._cell) c.args.run parts.1)).1

pub returns-clause-part : goal.returns-clause-part
returns-clause-part c =
    let s = c.args.self.now.ground in
    let g : Ground = ground_of s in
    let lists : length g.windows ≡ length g.layout.links = windows_of-length s.store.now ∙ s.lists in
    let parts = run_parts (usable_in g c.args._cell) (length (next_arcs g.layout (arc_in g c.args._cell))) c.args.run c.requires.is_run in
    let next : Arc = get_or (next_arcs g.layout (arc_in g c.args._cell)) c.args.run no_arc in
    let others : c.next.result.now ≡ next_arcs g.layout (arc_in g c.args._cell) =
    beside_others g c.args._cell (previous_arcs g.layout (arc_in g c.args._cell)) c.args.at c.requires.stands (next_arcs g.layout) c.next.result.now c.next.ensures in
    let permitted = next_permitted g (arc_in g c.args._cell) c.args.run parts.1 in
    let exists = (permits-exist g.layout (arc_in g c.args._cell) next permitted).1 in
    let part : IsArcPart g next c.args.second c.args.second c.part.result.run =
    subst (λ (list : List Arc). IsArcPart g (get_or list c.args.run no_arc) c.args.second c.args.second c.part.result.run) others c.part.ensures.part in
    record {
      permitted = part_follows g lists s.numbers.now.numbered s.room next c.args.second c.args.second c.part.result.run part exists c.args._cell parts.0 permitted;
      open_in = λ x inside turn from last. cells_in_part g lists s.numbers.now.numbered s.room next c.args.second c.args.second c.part.result.run part exists x inside (turn_parts g c.args._cell x turn).1 last from;
    }
