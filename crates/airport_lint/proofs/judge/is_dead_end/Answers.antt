use Rattle.std.proofs.Common.{◌∙◌, ap, subst}
use Rattle.std.specs.List.{list_any}
use Rattle.taxi_base.specs.Airport.{segment_of, head}
use Rattle.segment_graph.specs.Graphs.{AreNext}
use Rattle.airport_lint.specs.Advice.{is_shared}
use Rattle.airport_lint.proofs.JudgeLaws.{dead-end}
use Rattle.airport_lint.proofs.judge.is_dead_end.Goals as goal

pub returns : goal.returns
returns c =
    let airport = c.args.airport.now in
    let arc = c.args.arc in
    let row = c.next-next.result.now in
    dead-end airport arc c.head-head.result row c.is_shared-used.result c.is_of-junction.result c.is_shared_with_any-onward.result c.comes_and_stops.result
    (c.head-head.ensures.head ∙ ap (λ layout. head layout arc) c.graph-2.ensures)
    (subst (λ layout. AreNext layout arc row) c.graph-3.ensures c.next-next.ensures)
    (c.is_shared-used.ensures ∙ ap (λ s. is_shared airport s s) c.segment-here.ensures)
    c.is_of-junction.ensures
    (c.is_shared_with_any-onward.ensures ∙ ap (λ s. list_any (λ next. is_shared airport s (segment_of next)) row) c.segment-here.ensures)
    c.comes_and_stops.ensures
