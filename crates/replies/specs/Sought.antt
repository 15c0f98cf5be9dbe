-- What does a command seek: which walks of which flight, under which conditions, and by what search?
use Rattle.std.specs.Prelude.{ℕ, ◌+◌, ◌-◌, ◌<◌, max, Bool, true, false, List, [], ◌∷◌, map, unwrap_or, Option, Some, None, option_map, option_and_then, MatchOption}
use Rattle.std.specs.Option.{option_map_or}
use Rattle.taxi_base.specs.declared.numbers.Class.{Class}
use Rattle.taxi_base.specs.declared.numbers.Node.{Node}
use Rattle.taxi_base.specs.declared.rows.Step.{Step}
use Rattle.taxi_base.specs.declared.answers.Request.{Request}
use Rattle.taxi_base.specs.declared.answers.Request.TheVariants as request
use Rattle.taxi_base.specs.declared.answers.Flight.{Flight}
use Rattle.taxi_base.specs.Airport.{Airport, Layout, layout_of, head, class_named, node_named}
use Rattle.taxi_base.specs.Walks.{Conditions, Meets, begin_of}
use Rattle.taxi_base.specs.State.{State, flight_named, with_flight, with_route, step_begun, conditions_of, IsFrozenWalk}
use Rattle.taxi_base.specs.Faults.{conditions_in}
use Rattle.taxi_base.specs.Choices.{OneOf}
use Rattle.taxi_base.specs.Again.{retargeted}
use Rattle.taxi_text.specs.declared.command.Command.{Command}
use Rattle.taxi_text.specs.declared.command.Command.TheVariants as command
use Rattle.taxi_text.specs.Commands.{command_of}
use Rattle.walk_labels.specs.Requests.{Beginning}
use Rattle.walk_labels.specs.Requests.Beginning.{at_node, resuming}
use Rattle.replies.specs.Asked.{arrival_named, departure_named, Choice, nodes_of, request_for, arrival_any_named, departure_any_named}
use Rattle.replies.specs.declared.wish.Wish.{Wish}
use Rattle.replies.specs.Routed.{routed_flight}

-- a flight in force that is routed anew: its steps, and the time from which on
pub record UnderWay : Type 0 where
  pub steps : List Step
  pub time : ℕ

-- What a search seeks: a walk of the flight of a name that meets a request, with the node that is meant, or the same request for
-- one of other nodes. The flight may be in force. A departure that gives way to a late flight has to begin after a second, its floor.
-- There may be none, or there must be one. The state afterwards is told for the walk's steps, and for no walk.
pub record Sought : Type 0 where
  pub name : List ℕ
  pub conditions : Conditions
  pub request : Request
  pub others : List Node
  pub under_way : Option UnderWay
  pub floor : Option ℕ
  pub may_be_none : Bool
  pub with_steps : List Step → State
  pub with_none : State

-- for a new flight, among all holders
abbrev pub sought_new : Airport → State → List ℕ → Class → Request → Sought
sought_new airport state name class request = record {
  name = name;
  conditions = conditions_in airport class state;
  request = request;
  others = [];
  under_way = None;
  floor = None;
  may_be_none = true;
  with_steps = λ steps. with_flight (routed_flight name class request steps) state;
  with_none = state;
}

-- for a wish of a batch
abbrev pub sought_wish : Airport → State → Wish → Sought
sought_wish airport state wish = sought_new airport state wish.name wish.class wish.request

-- for a flight in force from a time on, among the others
abbrev pub sought_again : Airport → State → List ℕ → ℕ → Bool → Flight → Request → Sought
sought_again airport state name time may_be_none flight request = record {
  name = name;
  conditions = conditions_of airport state flight;
  request = request;
  others = [];
  under_way = Some (record { steps = flight.steps; time = time });
  floor = None;
  may_be_none = may_be_none;
  with_steps = λ steps. with_route flight request steps state;
  with_none = state;
}

-- where the class and the nodes are known
abbrev pub sought_by_class : Airport → State → List ℕ → List ℕ → Option Request → Option Sought
sought_by_class airport state name class asked =
    option_and_then (λ class. option_map (sought_new airport state name class) asked) (class_named airport class)

-- the node that the last step reaches
abbrev pub node_reached : Layout → List Step → Option Node
node_reached layout [] = None
node_reached layout (s ∷ []) = head layout s.arc
node_reached layout (s ∷ t ∷ steps) = node_reached layout (t ∷ steps)

-- for a new flight to any of some nodes, of which it asks afterwards for the one that it reaches
abbrev pub sought_any : Airport → State → List ℕ → Class → Choice → Node → List Node → Sought
sought_any airport state name class choice node others = record {
  name = name;
  conditions = conditions_in airport class state;
  request = request_for choice node;
  others = others;
  under_way = None;
  floor = None;
  may_be_none = true;
  with_steps = λ steps. with_flight (routed_flight name class (request_for choice (unwrap_or (node_reached (layout_of airport) steps) node)) steps) state;
  with_none = state;
}

abbrev pub sought_choice : Airport → State → List ℕ → Class → Choice → List Node → Option Sought
sought_choice airport state name class choice [] = None
sought_choice airport state name class choice (node ∷ others) = Some (sought_any airport state name class choice node others)

abbrev pub sought_to_one : Airport → State → List ℕ → List ℕ → Option Choice → Option Sought
sought_to_one airport state name class asked =
    option_and_then (λ class. option_and_then (λ choice. sought_choice airport state name class choice (nodes_of choice)) asked) (class_named airport class)

-- What a command seeks; none for the commands that seek no walk, and none for a batch and for a late flight, which seek several.
-- A reroute keeps the request, and the old steps are such a walk. A divert changes its target.
abbrev pub sought_of : Airport → State → Command → Option Sought
sought_of airport state (command.Arrival asked) = sought_by_class airport state asked.flight asked.class (arrival_named airport asked)
sought_of airport state (command.Departure asked) = sought_by_class airport state asked.flight asked.class (departure_named airport asked)
sought_of airport state (command.Reroute name time) =
    option_map (λ flight. sought_again airport state name time false flight flight.request) (flight_named name state.flights)
sought_of airport state (command.Divert name time node) =
    option_and_then (λ flight. option_map (λ target. sought_again airport state name time true flight (retargeted flight.request target)) (node_named airport node))
    (flight_named name state.flights)
sought_of airport state (command.ArrivalAny asked) = sought_to_one airport state asked.flight asked.class (arrival_any_named airport asked)
sought_of airport state (command.DepartureAny asked) = sought_to_one airport state asked.flight asked.class (departure_any_named airport asked)
sought_of airport state _ = None

abbrev pub sought_by : Airport → State → List ℕ → Option Sought
sought_by airport state line = option_and_then (sought_of airport state) (command_of line)

-- ---- the walks

-- a walk that a flight under way may take
abbrev pub IsWalkOnFor : Conditions → Request → UnderWay → List Step → Type 0
IsWalkOnFor c request.Filed way steps = ⊥
IsWalkOnFor c (request.Arrival from to asked hold) way steps = IsFrozenWalk c way.steps way.time to (request.Arrival from to asked hold) steps
IsWalkOnFor c (request.Departure from to asked queue) way steps = IsFrozenWalk c way.steps way.time to (request.Departure from to asked queue) steps

-- a walk of a new flight that meets the request, or the same request for one of the other nodes
abbrev pub MeetsOneOf : Conditions → Request → List Node → List Step → Type 0
MeetsOneOf c request others steps = OneOf (λ asked. Meets c asked steps) (request ∷ map (retargeted request) others)

-- a walk that does what is asked, whenever it begins
abbrev pub DoesAsAsked : Conditions → Request → List Node → Option UnderWay → List Step → Type 0
DoesAsAsked c request others way steps = MatchOption way (MeetsOneOf c request others steps) (λ w. IsWalkOnFor c request w steps)

-- and one that begins after the floor, where there is one
abbrev pub IsWalkFor : Sought → List Step → Type 0
IsWalkFor s steps =
    MatchOption s.floor (DoesAsAsked s.conditions s.request s.others s.under_way steps)
    (λ floor. DoesAsAsked s.conditions s.request s.others s.under_way steps × (floor < begin_of steps))

-- ---- the search for them

-- which way a table is made: from where walks begin to the nodes of which they are to reach one, or from the nodes of which they
-- are to reach one within a time back to the node that they leave
pub data Search : Type 0 where
  onward : (begins : Beginning) (to : List Node) → Search
  backward : (from : Node) (to : List Node) (earliest latest : ℕ) → Search

-- an arrival is searched from its begin, or from the step that was begun, and a departure from its end
abbrev pub search_of : Request → List Node → Option UnderWay → Option Search
search_of request.Filed others way = None
search_of (request.Arrival from to asked hold) others None = Some (onward (at_node from asked (asked + hold)) (to ∷ others))
search_of (request.Arrival from to asked hold) others (Some way) =
    Some (onward (option_map_or (λ begun. resuming begun way.time) (step_begun way.time way.steps) (at_node from (max asked way.time) (asked + hold))) (to ∷ others))
search_of (request.Departure from to asked queue) others way = Some (backward from (to ∷ others) (asked - queue) asked)
