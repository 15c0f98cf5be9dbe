use Rattle.std.proofs.Common.{◌≡◌, List, length, get_or, IsTrue, sym, ◌∙◌, ap, subst}
use Rattle.taxi_base.specs.declared.numbers.Arc.{Arc}
use Rattle.taxi_base.specs.Airport.{Layout, arc_exists}
use Rattle.place_cells.specs.Turns.{no_arc}
use Rattle.place_cells.specs.Ground.{Ground, IsArcPart}
use Rattle.place_cells.specs.Grounds.{ground_of}
use Rattle.place_cells.proofs.LaidLaws.{windows_of-length}
use Rattle.backward_search.specs.Departures.{last_arcs}
use Rattle.backward_search.proofs.DepartureLaws.{last_exist, ends_in_part}
use Rattle.backward_search.proofs.cells.DepartureCellsBackwardCells.last_run.Goals as goal

pub part-requires : goal.part-requires
part-requires c =
    let s = c.args.self.now in
    let layout : Layout = s.ground.graph.now in
    let read : get_or s.last.now c.args.run no_arc ≡ get_or (last_arcs layout s.to.now) c.args.run no_arc = ap (λ (list : List Arc). get_or list c.args.run no_arc) s.lasts in
    subst (λ (a : Arc). IsTrue (arc_exists layout a)) (sym read) (last_exist layout s.to.now c.args.run c.requires)

pub returns : goal.returns
returns c =
    let s = c.args.self.now in
    let ground = s.ground in
    let g : Ground = ground_of ground in
    let lists : length g.windows ≡ length g.layout.links = windows_of-length ground.store.now ∙ ground.lists in
    let read : get_or s.last.now c.args.run no_arc ≡ get_or (last_arcs g.layout s.to.now) c.args.run no_arc = ap (λ (list : List Arc). get_or list c.args.run no_arc) s.lasts in
    ends_in_part g lists ground.numbers.now.numbered ground.room s.from (record { to = s.to.now; earliest = s.earliest_out; latest = s.latest_out }) c.args.run c.requires c.part.result.run
    (subst (λ (a : Arc). IsArcPart g a s.earliest_out s.latest_out c.part.result.run) read c.part.ensures.part)
