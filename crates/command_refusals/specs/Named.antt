-- What do the words of a command name?
use Rattle.std.specs.Prelude.{◌≡◌, Some}
use Rattle.taxi_base.specs.Airport.{Airport, class_named, node_named}
use Rattle.taxi_text.specs.declared.command.Asked.{Asked}
use Rattle.taxi_text.specs.declared.command.AskedAny.{AskedAny}
use Rattle.replies.specs.Asked.{nodes_named}
use Rattle.command_refusals.specs.declared.asking.Trip.{Trip}
use Rattle.command_refusals.specs.declared.choosing.TripToAny.{TripToAny}

-- the trip is of the class and between the nodes that the words name, at the times that they ask for
pub record IsTripOf (airport : Airport) (asked : Asked) (trip : Trip) : Type 0 where
  pub class_known : class_named airport asked.class ≡ Some trip.class
  pub from_known : node_named airport asked.from ≡ Some trip.from
  pub to_known : node_named airport asked.to ≡ Some trip.to
  pub time : trip.time ≡ asked.time
  pub slack : trip.slack ≡ asked.slack

-- the same where several nodes are named
pub record IsTripOfAny (airport : Airport) (asked : AskedAny) (trip : TripToAny) : Type 0 where
  pub class_known : class_named airport asked.class ≡ Some trip.class
  pub from_known : node_named airport asked.from ≡ Some trip.from
  pub nodes_known : nodes_named airport asked.nodes ≡ Some trip.nodes
  pub time : trip.time ≡ asked.time
  pub slack : trip.slack ≡ asked.slack
