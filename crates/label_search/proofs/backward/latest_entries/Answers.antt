use Rattle.std.proofs.Common.{map, sym, ◌∙◌}
use Rattle.std.proofs.lemmas.Simd.{map-map}
use Rattle.label_search.specs.Answer.{best_of}
use Rattle.label_search.specs.Backward.{mirror_value}
use Rattle.label_search.proofs.Mirroring.{values_in_mirror, best_in_mirror, none_in_mirror, route_in_mirror}
use Rattle.label_search.proofs.backward.latest_entries.Goals as goal

pub returns-clause-table : goal.returns-clause-table
returns-clause-table g c =
    let table = c.in_ok-found.ensures.table in
    rw c.mirror_route.ensures.best (record {
      values = map mirror_value table.values;
      are_entries = values_in_mirror (g.C.BackwardCells.backward c.args.cells.now) c.requires.sound table.values (best_of c.in_ok-found.found.route)
          c.in_ok-found.ensures.best table.are_exits;
      are_told = table.are_told ∙ sym (map-map (g.C.BackwardCells.told c.args.cells.now) mirror_value table.values);
    })

pub returns-clause-best : goal.returns-clause-best
returns-clause-best g c =
    rw c.mirror_route.ensures.best (best_in_mirror (g.C.BackwardCells.backward c.args.cells.now) c.requires.sound (best_of c.in_ok-found.found.route) c.in_ok-found.ensures.best)

pub returns-clause-picked : goal.returns-clause-picked
returns-clause-picked g c =
    route_in_mirror (g.C.BackwardCells.backward c.args.cells.now) c.requires.sound c.in_ok-found.found.route c.mirror_route.result
    c.mirror_route.ensures.best c.mirror_route.ensures.steps c.in_ok-found.ensures.picked

pub returns-clause-none : goal.returns-clause-none
returns-clause-none g c =
    rw c.mirror_route.ensures.best (none_in_mirror (g.C.BackwardCells.backward c.args.cells.now) c.requires.sound (best_of c.in_ok-found.found.route) c.in_ok-found.ensures.none)
