use Rattle.std.proofs.Common.{◌∙◌, ◌<◌, ◌-◌, length, get_or, ap, rules}
use Rattle.taxi_base.specs.Airport.{Layout, layout_of, head}
use Rattle.check_rows.proofs.LoopLaws.{says-yes}
use Rattle.check_rows.specs.Rules.{beginning_of}
use Rattle.held_spans.proofs.LoopLaws.{no_step}
use Rattle.check_walks.proofs.CourseLaws.{leads-is}
use Rattle.check_walks.proofs.course.leads_on.Goals as goal

pub returns-then-begins_by : goal.returns-then-begins_by
returns-then-begins_by c =
    let some : 0 < length c.args.rest.now = search rules in
    let there = c.head.ensures.head ∙ ap (λ (l : Layout). head l (get_or c.args.rest.now (length c.args.rest.now - 1) no_step).arc) c.graph.ensures in
    rw c.eq.ensures
    (leads-is (layout_of c.args.airport.now) (beginning_of c.args.begin) c.args.to c.head.result c.args.rest.now no_step some (says-yes _ c.if-begins_by.true c.begins_by.ensures) there)
