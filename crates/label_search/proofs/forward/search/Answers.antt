use Rattle.std.proofs.Common.{arith}
use Rattle.label_search.specs.Answer.{best_of}
use Rattle.label_search.proofs.CutLaws.{exits_short, exits_all, best_if, none_if, route_if}
use Rattle.label_search.proofs.forward.search.Goals as goal

pub returns-clause-short : goal.returns-clause-short
returns-clause-short g c =
    let p = g.C.ForwardCells.problem c.args.cells.now in
    let found = c.in_ok-found.found in
    let table = c.in_ok-found.ensures.table in
    λ some. record {
      values = table.values;
      are_exits = exits_short c.args.until p.network p.starts p.target p.count (best_of found.route) table.values some c.in_ok-found.ensures.best table.are_exits;
      are_told = table.are_told;
    }

pub returns-clause-all : goal.returns-clause-all
returns-clause-all g c =
    let p = g.C.ForwardCells.problem c.args.cells.now in
    let found = c.in_ok-found.found in
    let table = c.in_ok-found.ensures.table in
    λ past. record {
      values = table.values;
      are_exits = exits_all c.args.until p.network p.starts p.count (best_of found.route) table.values (λ k. omega (arith, past, c.requires.sound.small_last k)) table.are_exits;
      are_told = table.are_told;
    }

pub returns-clause-best : goal.returns-clause-best
returns-clause-best g c =
    let p = g.C.ForwardCells.problem c.args.cells.now in
    best_if c.args.until p.network p.starts p.target (best_of c.in_ok-found.found.route) c.in_ok-found.ensures.best

pub returns-clause-picked : goal.returns-clause-picked
returns-clause-picked g c =
    let p = g.C.ForwardCells.problem c.args.cells.now in
    route_if c.args.until p.network p.starts p.target c.in_ok-found.found.route c.in_ok-found.ensures.picked

pub returns-clause-none : goal.returns-clause-none
returns-clause-none g c =
    let p = g.C.ForwardCells.problem c.args.cells.now in
    λ past. none_if c.args.until p.network p.starts p.target (best_of c.in_ok-found.found.route) (λ k. omega (arith, past, c.requires.sound.small_last k)) c.in_ok-found.ensures.none
