use Rattle.std.proofs.Common.{None, All, take}
use Rattle.taxi_base.specs.Airport.{layout_of}
use Rattle.taxi_base.specs.Again.{retargeted}
use Rattle.check_walks.specs.Steps.{GoesAsAsked}
use Rattle.check_walks.proofs.choice.goes_to_any.Given as goal

-- the walk leads to none of the nodes so far
abbrev pub invariant-loop-node : goal.invariant-loop-node
invariant-loop-node l = All (λ node. GoesAsAsked (layout_of l.airport) (retargeted l.request node) None l.steps → ⊥) (take l.node-index l.nodes)
