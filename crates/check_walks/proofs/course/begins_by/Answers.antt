use Rattle.std.proofs.Common.{sym, ◌∙◌, ap}
use Rattle.taxi_base.specs.Airport.{Layout, layout_of, tail}
use Rattle.check_walks.proofs.CourseLaws.{node-begins, node-elsewhere, resumes-is}
use Rattle.check_walks.proofs.course.begins_by.Goals as goal

pub returns-in-Resuming : goal.returns-in-Resuming
returns-in-Resuming c = rw (c.in-Resuming.is, c.resumes.ensures) (resumes-is c.in-Resuming.begun c.in-Resuming.exit_from c.args.step)

pub returns-then-eq : goal.returns-then-eq
returns-then-eq c =
    let there = c.tail-tail.ensures.tail ∙ ap (λ (l : Layout). tail l c.args.step.arc) c.graph.ensures in
    rw (c.in-AtNode.is, c.is_within.ensures)
    (node-begins (layout_of c.args.airport.now) c.in-AtNode.node c.tail-tail.result c.in-AtNode.earliest c.in-AtNode.latest c.args.step there (sym c.eq.ensures ∙ c.if-eq.true))

pub returns-else-eq : goal.returns-else-eq
returns-else-eq c =
    let there = c.tail-tail.ensures.tail ∙ ap (λ (l : Layout). tail l c.args.step.arc) c.graph.ensures in
    rw (c.in-AtNode.is, c.if-eq.false)
    (node-elsewhere (layout_of c.args.airport.now) c.in-AtNode.node c.tail-tail.result c.in-AtNode.earliest c.in-AtNode.latest c.args.step there (sym c.eq.ensures ∙ c.if-eq.false))
