-- What does a line ask for a flight, whoever else holds what?
use Rattle.std.specs.Prelude.{ℕ, ◌≡◌, ◌-◌, ◌<◌, ◌^◌, List, [], ◌∷◌, length, Option, Some, None, option_map, option_and_then, MatchOption, IfSome, All, ⊤}
use Rattle.std.specs.Option.{option_map_or}
use Rattle.taxi_base.specs.declared.numbers.Class.{Class}
use Rattle.taxi_base.specs.declared.numbers.Node.{Node}
use Rattle.taxi_base.specs.declared.answers.Request.{Request}
use Rattle.taxi_base.specs.declared.answers.Request.TheVariants as request
use Rattle.taxi_base.specs.declared.answers.Flight.{Flight}
use Rattle.taxi_base.specs.Airport.{Airport, class_named, node_named}
use Rattle.taxi_base.specs.State.{State, flight_named, without}
use Rattle.taxi_base.specs.Again.{retargeted}
use Rattle.taxi_text.specs.declared.command.Command.{Command}
use Rattle.taxi_text.specs.declared.command.Command.TheVariants as command
use Rattle.replies.specs.Asked.{arrival_named, departure_named, Choice, nodes_of, request_for, arrival_any_named, departure_any_named}
use Rattle.replies.specs.Refusals.{first_refusal}
use Rattle.sequence_exchange.specs.Serving.{IsShortRequest}
use Rattle.reply_reasons.specs.declared.asking.Asking.{Asking}
use Rattle.reply_reasons.specs.declared.asking.Way.{Way}
use Rattle.reply_reasons.specs.declared.asking.Way.TheVariants.{New, ToAny, On}

-- a new flight, with what it asks for
abbrev pub asking_new : List ℕ → Class → Request → Asking
asking_new name class request = record { name = name; class = class; request = request; way = New }

-- a new flight that may reach any of some nodes; its request is that for the first of them
abbrev pub asking_any : List ℕ → Class → Choice → List Node → Option Asking
asking_any name class choice [] = None
asking_any name class choice (node ∷ others) = Some (record { name = name; class = class; request = request_for choice node; way = ToAny (node ∷ others) })

-- a flight in force, from a time on
abbrev pub asking_on : List ℕ → Flight → ℕ → Request → Asking
asking_on name flight time request = record { name = name; class = flight.class; request = request; way = On flight.steps time }

-- where the class and the nodes are known
abbrev pub asking_by_class : Airport → List ℕ → List ℕ → Option Request → Option Asking
asking_by_class airport name class asked = option_and_then (λ class. option_map (asking_new name class) asked) (class_named airport class)

abbrev pub asking_to_any : Airport → List ℕ → List ℕ → Option Choice → Option Asking
asking_to_any airport name class asked =
    option_and_then (λ class. option_and_then (λ choice. asking_any name class choice (nodes_of choice)) asked) (class_named airport class)

-- What a command asks for; none where it asks for no route, or for several. A reroute keeps the flight's request. A divert changes the node
-- that it is to reach.
abbrev pub asking_of : Airport → State → Command → Option Asking
asking_of airport state (command.Arrival asked) = asking_by_class airport asked.flight asked.class (arrival_named airport asked)
asking_of airport state (command.Departure asked) = asking_by_class airport asked.flight asked.class (departure_named airport asked)
asking_of airport state (command.ArrivalAny asked) = asking_to_any airport asked.flight asked.class (arrival_any_named airport asked)
asking_of airport state (command.DepartureAny asked) = asking_to_any airport asked.flight asked.class (departure_any_named airport asked)
asking_of airport state (command.Reroute name time) = option_map (λ flight. asking_on name flight time flight.request) (flight_named name state.flights)
asking_of airport state (command.Divert name time node) =
    option_and_then (λ flight. option_map (λ target. asking_on name flight time (retargeted flight.request target)) (node_named airport node))
    (flight_named name state.flights)
asking_of airport state _ = None

-- the same where nothing refuses the command
abbrev pub asking_due : Airport → State → Command → Option Asking
asking_due airport state command = option_and_then (λ asking. option_map_or (λ why. None) (first_refusal airport state command) (Some asking)) (asking_of airport state command)

-- ---- no limit on when to begin, or on how early to end

abbrev pub freed : ℕ → Request → Request
freed horizon request.Filed = request.Filed
freed horizon (request.Arrival from to time hold) = request.Arrival from to time horizon
freed horizon (request.Departure from to time queue) = request.Departure from to time time

abbrev pub asking_freed : Airport → Asking → Asking
asking_freed airport asking = record asking { request = freed airport.horizon asking.request }

-- ---- no public clause cites these

-- it can be searched for: its times are short, its nodes are the airport's, and a departure under way is to end in good time
abbrev pub IsEarly : Request → Type 0
IsEarly request.Filed = ⊥
IsEarly (request.Arrival from to time hold) = ⊤
IsEarly (request.Departure from to time queue) = time - queue < 2 ^ 31

abbrev pub IsTimely : Airport → Request → Way → Type 0
IsTimely airport request New = IsShortRequest request
IsTimely airport request (ToAny nodes) = IsShortRequest request × All (λ n. n.0 < length airport.nodes) nodes
IsTimely airport request (On steps time) = IsEarly request

-- What a command asks for where nothing refuses it, and the holders that are in force beside that flight.
pub record IsAskedBy (airport : Airport) (state : State) (command : Command) (after : State) (asking : Option Asking) : Type 0 where
  pub due : asking ≡ asking_due airport state command
  pub others : MatchOption asking (after ≡ state) (λ a. after ≡ without a.name state)
  pub timely : IfSome asking (λ a. IsTimely airport a.request a.way)
