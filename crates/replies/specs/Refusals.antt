-- Which refusal is a command due, of several the first?
use Rattle.std.specs.Prelude.{ℕ, ◌+◌, Bool, true, false, not, ◌&&◌, ◌||◌, nat_lt, nat_le, bytes_eq, if◌then◌else◌, List, [], ◌∷◌, ◌++◌, length, Option, Some, None, is_some, is_none, option_map, option_and_then}
use Rattle.std.specs.List.{list_any}
use Rattle.taxi_base.specs.declared.rows.Kind.{Kind}
use Rattle.taxi_base.specs.declared.answers.Request.{Request}
use Rattle.taxi_base.specs.declared.answers.Request.TheVariants as request
use Rattle.taxi_base.specs.declared.answers.Flight.{Flight}
use Rattle.taxi_base.specs.declared.answers.Refusal.{Refusal}
use Rattle.taxi_base.specs.declared.answers.Refusal.TheVariants as refusal
use Rattle.taxi_base.specs.Airport.{Airport, node_named, class_named, segment_named, is_runway, is_stand, is_node_of}
use Rattle.taxi_base.specs.Walks.{begin_of, end_of}
use Rattle.taxi_base.specs.State.{State, flight_named, party_named, party_hold, holder_count, has_holder, step_begun}
use Rattle.taxi_base.specs.Faults.{route_fault, hold_fault}
use Rattle.taxi_text.specs.declared.command.Filed.{Filed}
use Rattle.taxi_text.specs.declared.command.Shut.{Shut}
use Rattle.taxi_text.specs.declared.command.Command.{Command}
use Rattle.taxi_text.specs.declared.command.Command.TheVariants as command
use Rattle.taxi_text.specs.declared.command.BatchRequest.{BatchRequest}
use Rattle.taxi_text.specs.declared.command.BatchRequest.TheVariants as requested
use Rattle.replies.specs.Asked.{route_filed, party_of, nodes_named, asked_in}

-- a refusal where a test holds
abbrev pub refused_if : Bool → Refusal → Option Refusal
refused_if test why = if test then Some why else None

-- the first refusal of several tests
abbrev pub first_of : List (Option Refusal) → Option Refusal
first_of [] = None
first_of (Some why ∷ tests) = Some why
first_of (None ∷ tests) = first_of tests

-- ---- what is looked at

abbrev pub is_in_force : List ℕ → State → Bool
is_in_force name state = is_some (flight_named name state.flights)

abbrev pub is_at_work : List ℕ → State → Bool
is_at_work name state = is_some (party_named name state.parties)

-- how many holders there may be
abbrev pub most_holders : ℕ
most_holders = 4096

abbrev pub is_filed : Request → Bool
is_filed request.Filed = true
is_filed _ = false

abbrev pub is_departure : Request → Bool
is_departure (request.Departure from to time queue) = true
is_departure _ = false

-- ---- the tests, in the order of their refusals

-- a flight or a work party has the new name
abbrev pub in_force : State → List ℕ → Option Refusal
in_force state name = refused_if (has_holder name state) refusal.InForce

abbrev pub unknown_class : Airport → List ℕ → Option Refusal
unknown_class airport class = refused_if (is_none (class_named airport class)) refusal.UnknownClass

abbrev pub unknown_node : Airport → List ℕ → Option Refusal
unknown_node airport node = refused_if (is_none (node_named airport node)) refusal.UnknownNode

-- the node of a name is not of the kind that is needed
abbrev pub no_runway : Airport → List ℕ → Option Refusal
no_runway airport node = refused_if (not (is_node_of is_runway airport node)) refusal.WrongKind

abbrev pub no_stand : Airport → List ℕ → Option Refusal
no_stand airport node = refused_if (not (is_node_of is_stand airport node)) refusal.WrongKind

-- the same of several names
abbrev pub unknown_node_of : Airport → List (List ℕ) → Option Refusal
unknown_node_of airport nodes = refused_if (is_none (nodes_named airport nodes)) refusal.UnknownNode

abbrev pub not_all : (Kind → Bool) → Airport → List (List ℕ) → Option Refusal
not_all is_kind airport nodes = refused_if (list_any (λ node. not (is_node_of is_kind airport node)) nodes) refusal.WrongKind

abbrev pub unknown_segment : Airport → List ℕ → Option Refusal
unknown_segment airport segment = refused_if (is_none (segment_named airport segment)) refusal.UnknownSegment

-- a step of a route given by hand names no segment, or an arc that its segment lacks
abbrev pub unknown_arc : Airport → Filed → Option Refusal
unknown_arc airport filed = refused_if (is_none (route_filed airport filed)) refusal.UnknownSegment

abbrev pub not_in_force : State → List ℕ → Option Refusal
not_in_force state name = refused_if (not (is_in_force name state)) refusal.NotInForce

-- no work party has the name
abbrev pub not_at_work : State → List ℕ → Option Refusal
not_at_work state name = refused_if (not (is_at_work name state)) refusal.NotInForce

-- a test of the flight of a name
abbrev pub of_flight : State → List ℕ → (Flight → Option Refusal) → Option Refusal
of_flight state name test = option_and_then test (flight_named name state.flights)

abbrev pub not_routed : Flight → Option Refusal
not_routed flight = refused_if (is_filed flight.request) refusal.NotRouted

abbrev pub not_arrival : Flight → Option Refusal
not_arrival flight = refused_if (is_departure flight.request) refusal.NotArrival

-- the flight has ended by a time
abbrev pub already_done : ℕ → Flight → Option Refusal
already_done time flight = refused_if (nat_le (end_of flight.steps) time) (refusal.AlreadyDone (end_of flight.steps))

-- the flight departs, and has begun by a time
abbrev pub already_moving : ℕ → Flight → Option Refusal
already_moving time flight =
    refused_if (is_departure flight.request && nat_le (begin_of flight.steps) time) (refusal.AlreadyMoving (begin_of flight.steps))

-- the flight has not begun by a time
abbrev pub not_moving : ℕ → Flight → Option Refusal
not_moving time flight = refused_if (nat_lt time (begin_of flight.steps)) (refusal.NotMoving (begin_of flight.steps))

-- the flight leaves its step at a time as late as it is said to stay on it
abbrev pub not_late : ℕ → ℕ → Flight → Option Refusal
not_late time until flight = option_and_then (λ begun. refused_if (nat_le until begun.leave) (refusal.NotLate begun.leave)) (step_begun time flight.steps)

-- it would stay past the horizon
abbrev pub past_end : Airport → ℕ → Option Refusal
past_end airport until = refused_if (nat_lt airport.horizon until) (refusal.PastEnd airport.horizon)

abbrev pub full : State → Option Refusal
full state = refused_if (nat_le most_holders (holder_count state)) refusal.Full

-- a step of a route given by hand fails
abbrev pub step_fails : Airport → State → Filed → Option Refusal
step_fails airport state filed =
    option_and_then (λ class. option_and_then (λ steps. option_map (λ fault. refusal.Step fault) (route_fault airport class state steps)) (route_filed airport filed))
    (class_named airport filed.class)

-- the work party may not shut its segment
abbrev pub hold_fails : Airport → State → Shut → Option Refusal
hold_fails airport state shut =
    option_and_then (λ segment. option_map (λ fault. refusal.Step fault) (hold_fault airport state (party_hold (party_of shut segment)))) (segment_named airport shut.segment)

-- so many more would be too many
abbrev pub full_with : ℕ → State → Option Refusal
full_with more state = refused_if (nat_lt most_holders (holder_count state + more)) refusal.Full

-- ---- the requests of a batch, each tried as on a line of its own, but that names before it in the line are taken too

abbrev pub is_name_of : List ℕ → BatchRequest → Bool
is_name_of name request = bytes_eq (asked_in request).flight name

abbrev pub in_force_or_before : State → List BatchRequest → List ℕ → Option Refusal
in_force_or_before state before name = refused_if (has_holder name state || list_any (is_name_of name) before) refusal.InForce

abbrev pub wrong_kinds : Airport → BatchRequest → List (Option Refusal)
wrong_kinds airport (requested.Arrival asked) = no_runway airport asked.from ∷ no_stand airport asked.to ∷ []
wrong_kinds airport (requested.Departure asked) = no_stand airport asked.from ∷ no_runway airport asked.to ∷ []

-- what its other words are tried for
abbrev pub tests_of_words : Airport → BatchRequest → List (Option Refusal)
tests_of_words airport request =
    unknown_class airport (asked_in request).class ∷ unknown_node airport (asked_in request).from
    ∷ unknown_node airport (asked_in request).to ∷ wrong_kinds airport request

abbrev pub tests_of_request : Airport → State → List BatchRequest → BatchRequest → List (Option Refusal)
tests_of_request airport state before request = in_force_or_before state before (asked_in request).flight ∷ tests_of_words airport request

-- request by request, with those before it
abbrev pub tests_of_requests : Airport → State → List BatchRequest → List BatchRequest → List (Option Refusal)
tests_of_requests airport state before [] = []
tests_of_requests airport state before (request ∷ later) =
    tests_of_request airport state before request ++ tests_of_requests airport state (before ++ request ∷ []) later

-- ---- the table: what each command is tried for

abbrev pub first_refusal : Airport → State → Command → Option Refusal
first_refusal airport state (command.File filed) =
    first_of (in_force state filed.flight ∷ unknown_class airport filed.class ∷ unknown_arc airport filed ∷ full state ∷ step_fails airport state filed ∷ [])
first_refusal airport state (command.Arrival asked) =
    first_of (in_force state asked.flight ∷ unknown_class airport asked.class ∷ unknown_node airport asked.from ∷ unknown_node airport asked.to
    ∷ no_runway airport asked.from ∷ no_stand airport asked.to ∷ full state ∷ [])
first_refusal airport state (command.Departure asked) =
    first_of (in_force state asked.flight ∷ unknown_class airport asked.class ∷ unknown_node airport asked.from ∷ unknown_node airport asked.to
    ∷ no_stand airport asked.from ∷ no_runway airport asked.to ∷ full state ∷ [])
first_refusal airport state (command.Cancel flight) = first_of (not_in_force state flight ∷ [])
first_refusal airport state (command.Reroute flight time) =
    first_of (not_in_force state flight ∷ of_flight state flight not_routed ∷ of_flight state flight (already_done time)
    ∷ of_flight state flight (already_moving time) ∷ [])
first_refusal airport state (command.Divert flight time node) =
    first_of (unknown_node airport node ∷ no_stand airport node ∷ not_in_force state flight ∷ of_flight state flight not_routed
    ∷ of_flight state flight not_arrival ∷ of_flight state flight (already_done time) ∷ [])
first_refusal airport state (command.Windows segment) = first_of (unknown_segment airport segment ∷ [])
first_refusal airport state (command.Occupancy segment) = first_of (unknown_segment airport segment ∷ [])
first_refusal airport state command.Timetable = None
first_refusal airport state (command.Work shut) =
    first_of (in_force state shut.name ∷ unknown_segment airport shut.segment ∷ full state ∷ hold_fails airport state shut ∷ [])
first_refusal airport state (command.WorkDone name) = first_of (not_at_work state name ∷ [])
first_refusal airport state (command.ArrivalAny asked) =
    first_of (in_force state asked.flight ∷ unknown_class airport asked.class ∷ unknown_node airport asked.from ∷ unknown_node_of airport asked.nodes
    ∷ no_runway airport asked.from ∷ not_all is_stand airport asked.nodes ∷ full state ∷ [])
first_refusal airport state (command.DepartureAny asked) =
    first_of (in_force state asked.flight ∷ unknown_class airport asked.class ∷ unknown_node airport asked.from ∷ unknown_node_of airport asked.nodes
    ∷ no_stand airport asked.from ∷ not_all is_runway airport asked.nodes ∷ full state ∷ [])
first_refusal airport state (command.Batch requests) =
    first_of (tests_of_requests airport state [] requests ++ full_with (length requests) state ∷ [])
first_refusal airport state (command.Late flight time until) =
    first_of (not_in_force state flight ∷ of_flight state flight not_routed ∷ of_flight state flight (already_done time)
    ∷ of_flight state flight (not_moving time) ∷ of_flight state flight (not_late time until) ∷ past_end airport until ∷ [])
