use Rattle.std.proofs.Common.{None}
use Rattle.taxi_base.specs.Airport.{layout_of}
use Rattle.taxi_base.specs.Again.{retargeted}
use Rattle.check_rows.proofs.LoopLaws.{all-more, says-no, says-yes}
use Rattle.check_walks.specs.Steps.{GoesAsAsked}
use Rattle.check_walks.proofs.ChoiceLaws.{no_node, one-found, none-found}
use Rattle.check_walks.proofs.choice.goes_to_any.Goals as goal

pub returns-then-goes_to : goal.returns-then-goes_to
returns-then-goes_to c =
    one-found (λ node. GoesAsAsked (layout_of c.args.airport.now) (retargeted c.args.request node) None c.args.steps.now) c.args.nodes.now c.loop-node.node-index no_node c.loop-node-test.true
    (says-yes _ c.if-goes_to.true c.goes_to.ensures)

pub loop-node-preserved : goal.loop-node-preserved
loop-node-preserved c =
    all-more (λ node. GoesAsAsked (layout_of c.args.airport.now) (retargeted c.args.request node) None c.args.steps.now → ⊥) c.args.nodes.now c.loop-node.node-index no_node c.loop-node-test.true
    c.loop-node.invariant (says-no _ c.if-goes_to.false c.goes_to.ensures)

pub returns : goal.returns
returns c =
    none-found (λ node. GoesAsAsked (layout_of c.args.airport.now) (retargeted c.args.request node) None c.args.steps.now) c.args.nodes.now c.loop-node.node-index c.loop-node-test.false c.loop-node.invariant
