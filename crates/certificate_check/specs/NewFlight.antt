-- What does a search seek for a new flight?
use Rattle.std.specs.Prelude.{◌≡◌, IsTrue, List, Contains, Some, None}
use Rattle.taxi_base.specs.declared.numbers.Node.{Node}
use Rattle.taxi_base.specs.declared.rows.Step.{Step}
use Rattle.taxi_base.specs.Airport.{Airport, layout_of}
use Rattle.taxi_base.specs.State.{State, with_flight}
use Rattle.taxi_base.specs.Faults.{conditions_in}
use Rattle.taxi_base.specs.Again.{retargeted}
use Rattle.replies.specs.declared.wish.Wish.{Wish}
use Rattle.replies.specs.CarriedOut.{routed_flight}
use Rattle.replies.specs.Sought.{Sought, node_reached}
use Rattle.check_walks.specs.Told.{Seeks}
use Rattle.check_walks.specs.Choice.{IsAmong}

-- A walk among all holders that meets its request, or the same request for one of the other nodes. There may be none. With the steps of
-- one to any of the nodes the flight is in force, and asks for the node that it reaches.
pub record SeeksNew (airport : Airport) (state : State) (wish : Wish) (nodes : List Node) (s : Sought) : Type 0 where
  pub named : s.name ≡ wish.name
  pub among : IsAmong wish.request nodes s.others
  pub seeks : Seeks (conditions_in airport wish.class state) wish.request s.others None s
  pub may_be_none : IsTrue s.may_be_none
  pub with_steps : (steps : List Step) (to : Node) → node_reached (layout_of airport) steps ≡ Some to → Contains nodes to
      → s.with_steps steps ≡ with_flight (routed_flight wish.name wish.class (retargeted wish.request to) steps) state
  pub with_none : s.with_none ≡ state
