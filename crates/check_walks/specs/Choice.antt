-- What is asked of a walk that may reach any of some nodes?
use Rattle.std.specs.Prelude.{◌≡◌, List, ◌∷◌, Contains}
use Rattle.taxi_base.specs.declared.numbers.Node.{Node}
use Rattle.taxi_base.specs.declared.answers.Request.{Request}
use Rattle.taxi_base.specs.Airport.{Airport}
use Rattle.taxi_base.specs.Again.{retargeted, IsTarget}
use Rattle.check_walks.specs.Told.{CanBeSought}

-- the nodes are the one that the request asks for, and others
pub record IsAmong (request : Request) (nodes others : List Node) : Type 0 where
  pub to : Node
  pub asks : IsTarget request to
  pub are : nodes ≡ to ∷ others

-- each of them can be sought
abbrev pub CanBeSoughtAny : Airport → Request → List Node → Type 0
CanBeSoughtAny airport request nodes = (node : Node) → Contains nodes node → CanBeSought airport (retargeted request node)
