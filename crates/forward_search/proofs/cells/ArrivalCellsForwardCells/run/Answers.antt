use Rattle.std.proofs.Common.{◌≡◌, length, get_or, IsTrue, sym, ◌∙◌, subst, arith}
use Rattle.taxi_base.specs.declared.numbers.Arc.{Arc}
use Rattle.taxi_base.specs.Airport.{arc_exists}
use Rattle.place_cells.specs.Turns.{next_arcs, no_arc}
use Rattle.place_cells.specs.Ground.{Ground, arc_in, usable_in, IsArcPart}
use Rattle.place_cells.specs.Grounds.{ground_of}
use Rattle.place_cells.proofs.LaidLaws.{windows_of-length}
use Rattle.taxi_base.proofs.AirportLaws.{permits-exist}
use Rattle.place_cells.proofs.BesideLaws.{beside_at}
use Rattle.place_cells.proofs.GroundLaws.{run_parts, next_permitted, turn_parts, part_follows, cells_in_part}
use Rattle.forward_search.proofs.cells.ArrivalCellsForwardCells.run.Goals as goal

pub part-requires : goal.part-requires
part-requires c =
    let g : Ground = ground_of c.args.self.now.ground in
    let parts = run_parts (usable_in g c.args._cell) (length (next_arcs g.layout (arc_in g c.args._cell))) c.args.run c.requires.is_run in
    let read : get_or c.args.at.arcs.now c.args.run no_arc ≡ get_or (next_arcs g.layout (arc_in g c.args._cell)) c.args.run no_arc =
    beside_at g c.args._cell (next_arcs g.layout (arc_in g c.args._cell)) c.args.at c.requires.stands c.args.run in
    subst (λ (a : Arc). IsTrue (arc_exists g.layout a)) (sym read) (permits-exist g.layout (arc_in g c.args._cell) (get_or (next_arcs g.layout (arc_in g c.args._cell)) c.args.run no_arc) (next_permitted g (arc_in g c.args._cell) c.args.run parts.1)).1

pub returns-clause-part : goal.returns-clause-part
returns-clause-part c =
    let s = c.args.self.now.ground in
    let g : Ground = ground_of s in
    let lists : length g.windows ≡ length g.layout.links = windows_of-length s.store.now ∙ s.lists in
    let parts = run_parts (usable_in g c.args._cell) (length (next_arcs g.layout (arc_in g c.args._cell))) c.args.run c.requires.is_run in
    let next : Arc = get_or (next_arcs g.layout (arc_in g c.args._cell)) c.args.run no_arc in
    let read : get_or c.args.at.arcs.now c.args.run no_arc ≡ next = beside_at g c.args._cell (next_arcs g.layout (arc_in g c.args._cell)) c.args.at c.requires.stands c.args.run in
    let permitted = next_permitted g (arc_in g c.args._cell) c.args.run parts.1 in
    let exists = (permits-exist g.layout (arc_in g c.args._cell) next permitted).1 in
    let part : IsArcPart g next c.args.ready c.args.last c.part.result.run = subst (λ (a : Arc). IsArcPart g a c.args.ready c.args.last c.part.result.run) read c.part.ensures.part in
    record {
      permitted = part_follows g lists s.numbers.now.numbered s.room next c.args.ready c.args.last c.part.result.run part exists c.args._cell parts.0 permitted;
      wanted_in = λ b d inside turn by in_time. cells_in_part g lists s.numbers.now.numbered s.room next c.args.ready c.args.last c.part.result.run part exists d inside (turn_parts g b d turn).1 (omega (arith, in_time)) (omega (arith, by));
    }
