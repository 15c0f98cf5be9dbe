-- Why is a flight not routed anew?
use Rattle.std.specs.Prelude.{ℕ, Bool, ◌&&◌, nat_le, if◌then◌else◌, List, Option, Some, None, is_some}
use Rattle.std.specs.Option.{option_map_or}
use Rattle.taxi_base.specs.declared.numbers.Node.{Node}
use Rattle.taxi_base.specs.declared.answers.Flight.{Flight}
use Rattle.taxi_base.specs.Walks.{begin_of, end_of}
use Rattle.taxi_base.specs.State.{flight_named}
use Rattle.replies.specs.Refusals.{is_filed, is_departure}
use Rattle.reroute.specs.declared.refused.RerouteRefused.{RerouteRefused}
use Rattle.reroute.specs.declared.refused.RerouteRefused.TheVariants.{NotInForce, NotRouted, NotArrival, AlreadyDone, AlreadyMoving}

-- Of a flight in force, from a time on: a route given by hand is not searched for anew, only an arrival is led to another
-- node, what has ended stays, and so does a departure that has begun. The first of these counts.
abbrev pub flight_refusal : ℕ → Bool → Flight → Option RerouteRefused
flight_refusal time diverted flight =
    if is_filed flight.request then Some NotRouted
    else if is_departure flight.request && diverted then Some NotArrival
    else if nat_le (end_of flight.steps) time then Some (AlreadyDone (end_of flight.steps))
    else if is_departure flight.request && nat_le (begin_of flight.steps) time then Some (AlreadyMoving (begin_of flight.steps))
    else None

-- of the flight of a name, with a node that it is to be led to, or none
abbrev pub again_refusal : List Flight → List ℕ → ℕ → Option Node → Option RerouteRefused
again_refusal flights name time to = option_map_or (flight_refusal time (is_some to)) (flight_named name flights) (Some NotInForce)
