use Rattle.std.proofs.Common.{◌∙◌, ◌-◌, length, get_or, sym, ap}
use Rattle.taxi_base.specs.Airport.{Layout, layout_of, tail, head}
use Rattle.held_spans.proofs.LoopLaws.{no_step}
use Rattle.check_walks.proofs.EndLaws.{departs-is, departs-not}
use Rattle.check_walks.proofs.walk.departs.Goals as goal

pub returns-then-is_joined : goal.returns-then-is_joined
returns-then-is_joined c =
    let steps = c.args.steps.now in
    let tail_there = c.tail-tail.ensures.tail ∙ ap (λ (l : Layout). tail l (get_or steps 0 no_step).arc) c.graph.ensures in
    let head_there = c.head-head.ensures.head ∙ ap (λ (l : Layout). head l (get_or steps (length steps - 1) no_step).arc) c.graph-2.ensures in
    rw c.is_within.ensures
    (departs-is (layout_of c.args.airport.now) c.args.from c.args.to c.tail-tail.result c.head-head.result c.args.earliest c.args.latest steps no_step c.requires.some tail_there head_there
    (sym c.is_joined.ensures ∙ c.if-is_joined.true))

pub returns-else-is_joined : goal.returns-else-is_joined
returns-else-is_joined c =
    let steps = c.args.steps.now in
    let tail_there = c.tail-tail.ensures.tail ∙ ap (λ (l : Layout). tail l (get_or steps 0 no_step).arc) c.graph.ensures in
    let head_there = c.head-head.ensures.head ∙ ap (λ (l : Layout). head l (get_or steps (length steps - 1) no_step).arc) c.graph-2.ensures in
    rw c.if-is_joined.false
    (departs-not (layout_of c.args.airport.now) c.args.from c.args.to c.tail-tail.result c.head-head.result c.args.earliest c.args.latest steps no_step c.requires.some tail_there head_there
    (sym c.is_joined.ensures ∙ c.if-is_joined.false))
