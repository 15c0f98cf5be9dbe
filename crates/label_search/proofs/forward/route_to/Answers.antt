use Rattle.label_search.specs.Labels.{standing}
use Rattle.label_search.proofs.Ends.{end_route}
use Rattle.label_search.proofs.forward.route_to.Goals as goal

pub returns-clause-picked : goal.returns-clause-picked
returns-clause-picked g c =
    let p = g.C.ForwardCells.problem c.args.cells.now in
    rw c.reverse.ensures.items
    (end_route p c.requires.sound (standing c.args.labels.now) c.in-Some.goal (rw c.in-Some.is at c.requires.ended) c.in_ok-steps.steps.items c.in_ok-steps.ensures)
