-- What a command asks for that nothing refuses, by what its words name.
use Rattle.std.proofs.Common.{◌≡◌, ◌<◌, ℕ, List, [], ◌∷◌, length, Option, Some, None, IsFalse, refl, sym}
use Rattle.std.specs.Prelude.{All}
use Rattle.taxi_base.specs.declared.numbers.Node.{Node}
use Rattle.taxi_base.specs.declared.numbers.Class.{Class}
use Rattle.taxi_base.specs.declared.answers.Request.{Request}
use Rattle.taxi_base.specs.declared.answers.Request.TheVariants as request
use Rattle.taxi_base.specs.Airport.{Airport}
use Rattle.taxi_base.specs.State.{State, has_holder}
use Rattle.taxi_text.specs.declared.command.Command.{Command}
use Rattle.taxi_text.specs.declared.command.Command.TheVariants as command
use Rattle.taxi_text.specs.declared.command.Asked.{Asked}
use Rattle.taxi_text.specs.declared.command.AskedAny.{AskedAny}
use Rattle.replies.specs.Asked.{IsAskedInGrammar, Choice, arrival_any, departure_any, request_for}
use Rattle.replies.specs.Printable.{IsShort}
use Rattle.replies.specs.Refusals.{first_refusal}
use Rattle.replies.proofs.FlightLaws.{without-none}
use Rattle.replies.proofs.ChoiceNames.{nodes_named-are}
use Rattle.replies.proofs.RefusalLaws.{arrival-has_room, departure-has_room, arrival_any-has_room, departure_any-has_room}
use Rattle.command_refusals.specs.declared.asking.Trip.{Trip}
use Rattle.command_refusals.specs.declared.choosing.TripToAny.{TripToAny}
use Rattle.command_refusals.specs.Named.{IsTripOf, IsTripOfAny}
use Rattle.sequence_exchange.specs.Serving.{IsShortRequest}
use Rattle.reply_reasons.specs.declared.asking.Asking.{Asking}
use Rattle.reply_reasons.specs.declared.asking.Way.TheVariants.{New, ToAny}
use Rattle.reply_reasons.specs.Asking.{asking_any, asking_of, asking_due, IsTimely, IsAskedBy}

module _ (airport : Airport) (state : State) (command : Command) where
  -- where it is not
  pub asked-due : (asking : Asking) → first_refusal airport state command ≡ None → asking_of airport state command ≡ Some asking → asking_due airport state command ≡ Some asking
  asked-due asking due is = rw (is, due) refl

  -- of a new flight
  pub asked-new : (asking : Asking) → first_refusal airport state command ≡ None → asking_of airport state command ≡ Some asking → IsFalse (has_holder asking.name state)
      → IsTimely airport asking.request asking.way → IsAskedBy airport state command state (Some asking)
  asked-new asking due is absent timely = record { due = sym (asked-due asking due is); others = sym (without-none asking.name state absent); timely = timely }

-- ---- an arrival and a departure

module _ (airport : Airport) (state : State) (asked : Asked) (trip : Trip) (named : IsTripOf airport asked trip) (grammar : IsAskedInGrammar asked) where
  pub arrival-asked : first_refusal airport state (command.Arrival asked) ≡ None → (r : Request) → r ≡ request.Arrival trip.from trip.to trip.time trip.slack
      → IsAskedBy airport state (command.Arrival asked) state (Some (record { name = asked.flight; class = trip.class; request = r; way = New }))
  arrival-asked due r is =
      asked-new airport state (command.Arrival asked) (record { name = asked.flight; class = trip.class; request = r; way = New }) due
      (rw (named.class_known, named.from_known, named.to_known, is, named.time, named.slack) refl) (arrival-has_room airport state asked due).absent
      (rw (is, named.time, named.slack) (grammar.1, grammar.2))

  pub departure-asked : first_refusal airport state (command.Departure asked) ≡ None → (r : Request) → r ≡ request.Departure trip.from trip.to trip.time trip.slack
      → IsAskedBy airport state (command.Departure asked) state (Some (record { name = asked.flight; class = trip.class; request = r; way = New }))
  departure-asked due r is =
      asked-new airport state (command.Departure asked) (record { name = asked.flight; class = trip.class; request = r; way = New }) due
      (rw (named.class_known, named.from_known, named.to_known, is, named.time, named.slack) refl) (departure-has_room airport state asked due).absent
      (rw (is, named.time) grammar.1)

-- ---- a choice of nodes

module _ (airport : Airport) (state : State) (command : Command) (name : List ℕ) (class : Class) (choice : Choice) where
  any-asked : (nodes : List Node) → first_refusal airport state command ≡ None → asking_of airport state command ≡ asking_any name class choice nodes → IsFalse (has_holder name state)
      → ((node : Node) → IsShortRequest (request_for choice node)) → All (λ n. n.0 < length airport.nodes) nodes → IsAskedBy airport state command state (asking_any name class choice nodes)
  any-asked [] due is absent short exist = record { due = rw is refl; others = refl; timely = tt }
  any-asked (node ∷ others) due is absent short exist =
      asked-new airport state command (record { name = name; class = class; request = request_for choice node; way = ToAny (node ∷ others) }) due is absent (short node, exist)

module _ (airport : Airport) (state : State) (asked : AskedAny) (trip : TripToAny) (named : IsTripOfAny airport asked trip) (time : IsShort asked.time) (slack : IsShort asked.slack) where
  exist : All (λ n. n.0 < length airport.nodes) trip.nodes
  exist = (nodes_named-are airport asked.nodes trip.nodes named.nodes_known).exist

  pub arrival_any-asked : first_refusal airport state (command.ArrivalAny asked) ≡ None → (o : Option Asking)
      → o ≡ asking_any asked.flight trip.class (arrival_any trip.from trip.nodes trip.time trip.slack) trip.nodes → IsAskedBy airport state (command.ArrivalAny asked) state o
  arrival_any-asked due o is =
      rw is (any-asked airport state (command.ArrivalAny asked) asked.flight trip.class (arrival_any trip.from trip.nodes trip.time trip.slack) trip.nodes due
      (rw (named.class_known, named.from_known, named.nodes_known, named.time, named.slack) refl) (arrival_any-has_room airport state asked due).absent
      (λ node. rw (named.time, named.slack) (time, slack)) exist)

  pub departure_any-asked : first_refusal airport state (command.DepartureAny asked) ≡ None → (o : Option Asking)
      → o ≡ asking_any asked.flight trip.class (departure_any trip.from trip.nodes trip.time trip.slack) trip.nodes → IsAskedBy airport state (command.DepartureAny asked) state o
  departure_any-asked due o is =
      rw is (any-asked airport state (command.DepartureAny asked) asked.flight trip.class (departure_any trip.from trip.nodes trip.time trip.slack) trip.nodes due
      (rw (named.class_known, named.from_known, named.nodes_known, named.time, named.slack) refl) (departure_any-has_room airport state asked due).absent
      (λ node. rw named.time time) exist)
