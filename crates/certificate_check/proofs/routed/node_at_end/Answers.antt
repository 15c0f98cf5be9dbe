use Rattle.std.proofs.Common.{◌∙◌, length, ◌-◌, get_or, sym, ap, arith}
use Rattle.taxi_base.specs.Airport.{Layout, layout_of, head}
use Rattle.held_spans.proofs.LoopLaws.{no_step}
use Rattle.certificate_check.proofs.NewLaws.{head-reached}
use Rattle.certificate_check.proofs.routed.node_at_end.Goals as goal

pub head-requires : goal.head-requires
head-requires c =
    let some = c.requires.some in
    rw c.graph.ensures (c.requires.arcs (length c.args.steps.now - 1) no_step (omega (arith, some)))

pub returns : goal.returns
returns c =
    head-reached (layout_of c.args.airport.now) c.head.result c.args.steps.now no_step c.requires.some
    (sym (c.head.ensures.head ∙ ap (λ (l : Layout). head l (get_or c.args.steps.now (length c.args.steps.now - 1) no_step).arc) c.graph.ensures))
