-- A turn is permitted where the arc is among the next ones.
use Rattle.std.proofs.Common.{◌∙◌, sym}
use Rattle.taxi_base.proofs.Search.{is_ok-search}
use Rattle.taxi_base.specs.declared.numbers.Arc.{Arc}
use Rattle.taxi_base.specs.Airport.{permits}
use Rattle.segment_graph.proofs.Ends.{same_arc}
use Rattle.segment_graph.proofs.Turns.{has_arc-is, permits-gone}
use Rattle.segment_graph.proofs.graph.Graph.permits.Goals as goal

pub returns-then-exists : goal.returns-then-exists
returns-then-exists c =
    c.is_ok.ensures.value
    ∙ is_ok-search (λ (a : Arc). a.0) same_arc c.next.result.now c.args.y c.binary_search.result c.next.ensures.rising c.binary_search.ensures.bound c.binary_search.ensures.position
    ∙ has_arc-is (permits c.args.self.now c.args.x) c.next.result.now c.args.y c.next.ensures

pub returns-else-exists : goal.returns-else-exists
returns-else-exists c = c.if-exists.false ∙ sym (permits-gone c.args.self.now c.args.x c.args.y (sym c.exists.ensures ∙ c.if-exists.false))
