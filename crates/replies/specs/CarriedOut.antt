-- What answers a command that is not refused, and what is in force afterwards?
use Rattle.std.specs.Prelude.{ℕ, ◌≡◌, List, Option, Some}
use Rattle.taxi_base.specs.declared.numbers.Class.{Class}
use Rattle.taxi_base.specs.declared.numbers.Node.{Node}
use Rattle.taxi_base.specs.declared.numbers.Segment.{Segment}
use Rattle.taxi_base.specs.declared.rows.Step.{Step}
use Rattle.taxi_base.specs.declared.rows.Span.{Span}
use Rattle.taxi_base.specs.declared.rows.HeldRow.{HeldRow}
use Rattle.taxi_base.specs.declared.answers.Request.{Request}
use Rattle.taxi_base.specs.declared.answers.Request.TheVariants as request
use Rattle.taxi_base.specs.declared.answers.Flight.{Flight}
use Rattle.taxi_base.specs.declared.answers.Party.{Party}
use Rattle.taxi_base.specs.declared.answers.Found.{Found}
use Rattle.taxi_base.specs.declared.answers.Chosen.{Chosen}
use Rattle.taxi_base.specs.declared.answers.Chosen.TheVariants as chosen
use Rattle.taxi_base.specs.Airport.{Airport, node_named, class_named, segment_named}
use Rattle.taxi_base.specs.Windows.{is_free, windows_before}
use Rattle.taxi_base.specs.Walks.{begin_of, end_of}
use Rattle.taxi_base.specs.State.{State, flight_named, parties_without, with_flight, with_party, without, with_route, holds_in, conditions_of}
use Rattle.taxi_base.specs.Faults.{conditions_in}
use Rattle.taxi_base.specs.Again.{retargeted, IsTarget, AnswersAgain}
use Rattle.taxi_base.specs.Reports.{timetable_rows, AreHeldRows}
use Rattle.taxi_text.specs.declared.command.Filed as filing
use Rattle.taxi_text.specs.declared.command.Shut.{Shut}
use Rattle.taxi_text.specs.declared.command.Command.{Command}
use Rattle.taxi_text.specs.declared.command.Command.TheVariants as command
pub use Rattle.replies.specs.Routed.{Reply, IsOf, second_of, found_reply, routed_flight, IsRoutedAs}
use Rattle.replies.specs.Batches.{IsBatched}
use Rattle.replies.specs.Repairs.{IsRepairTold}
use Rattle.replies.specs.declared.block.Block.{Block}
use Rattle.replies.specs.declared.block.Block.TheVariants.{Filed, Cancelled, Route, NoRoute, Windows, Occupancy, Timetable}
use Rattle.replies.specs.Asked.{route_filed, party_of, arrival_named, departure_named, Choice, request_for, arrival_any_named, departure_any_named, AnswersChoice}

-- ---- a route given by hand

abbrev pub filed_flight : List ℕ → Class → List Step → Flight
filed_flight name class steps = record { name = name; class = class; request = request.Filed; steps = steps }

-- the flight is in force on the steps
abbrev pub filed_reply : State → List ℕ → Class → List Step → Reply
filed_reply state name class steps =
    record { block = Filed name (begin_of steps) (end_of steps); after = with_flight (filed_flight name class steps) state }

pub record IsFiled (airport : Airport) (state : State) (asked : filing.Filed) (block : Block) (after : State) : Type 0 where
  pub class : Class
  pub steps : List Step
  pub class_known : class_named airport asked.class ≡ Some class
  pub steps_known : route_filed airport asked ≡ Some steps
  pub reply : IsOf (filed_reply state asked.flight class steps) block after

-- ---- a route that was found

-- a new flight is routed as it asked
pub record IsRouted (airport : Airport) (state : State) (name class_name : List ℕ) (asked : Option Request) (block : Block) (after : State) : Type 0 where
  pub class : Class
  pub request : Request
  pub class_known : class_named airport class_name ≡ Some class
  pub nodes_known : asked ≡ Some request
  pub routed : IsRoutedAs airport state name class request block after

-- A route to the chosen node is in force afterwards, with that node as the one that was asked for.
abbrev pub chosen_reply : State → List ℕ → Class → Choice → Chosen → Reply
chosen_reply state name class choice (chosen.Route to steps labels) = record {
  block = Route name (second_of (request_for choice to) steps) steps labels;
  after = with_flight (routed_flight name class (request_for choice to) steps) state;
}
chosen_reply state name class choice (chosen.NoRoute labels) = record { block = NoRoute labels; after = state }

-- a new flight is routed to the best of several nodes, among all holders
pub record IsRoutedToOne (airport : Airport) (state : State) (name class_name : List ℕ) (asked : Option Choice) (block : Block) (after : State) : Type 0 where
  pub class : Class
  pub choice : Choice
  pub class_known : class_named airport class_name ≡ Some class
  pub nodes_known : asked ≡ Some choice
  pub chosen : Chosen
  pub answers : AnswersChoice (conditions_in airport class state) choice chosen
  pub reply : IsOf (chosen_reply state name class choice chosen) block after

-- a flight in force is routed anew from a time on, among the others, to a node that is meant
pub record IsRoutedAgain (airport : Airport) (state : State) (name : List ℕ) (time : ℕ) (IsMeant : Request → Node → Type 0) (block : Block) (after : State) : Type 0 where
  pub flight : Flight
  pub target : Node
  pub in_force : flight_named name state.flights ≡ Some flight
  pub meant : IsMeant flight.request target
  pub found : Found
  pub answers : AnswersAgain (conditions_of airport state flight) flight.steps time target flight.request found
  pub reply : IsOf (found_reply state name flight.request (λ steps. with_route flight (retargeted flight.request target) steps state) found) block after

-- ---- shutting a segment, and opening it again

-- the work party is in force
abbrev pub shut_reply : State → Party → Reply
shut_reply state party = record { block = Filed party.name party.from party.until; after = with_party party state }

pub record IsShut (airport : Airport) (state : State) (shut : Shut) (block : Block) (after : State) : Type 0 where
  pub segment : Segment
  pub segment_known : segment_named airport shut.segment ≡ Some segment
  pub reply : IsOf (shut_reply state (party_of shut segment)) block after

-- the party is out
abbrev pub opened_reply : State → List ℕ → Reply
opened_reply state name = record { block = Cancelled name; after = record state { parties = parties_without name state.parties } }

-- ---- cancelling and reporting

abbrev pub cancelled_reply : State → List ℕ → Reply
cancelled_reply state name = record { block = Cancelled name; after = without name state }

-- the free windows of a segment among the holders
abbrev pub windows_among : Airport → State → Segment → List Span
windows_among airport state segment =
    windows_before (is_free airport.conflicts airport.horizon (holds_in airport state) segment) airport.horizon

abbrev pub windows_reply : Airport → State → Segment → Reply
windows_reply airport state segment = record { block = Windows segment (windows_among airport state segment); after = state }

pub record AreWindowsTold (airport : Airport) (state : State) (name : List ℕ) (block : Block) (after : State) : Type 0 where
  pub segment : Segment
  pub known : segment_named airport name ≡ Some segment
  pub reply : IsOf (windows_reply airport state segment) block after

-- the rows of what holds a segment
abbrev pub occupancy_reply : State → Segment → List HeldRow → Reply
occupancy_reply state segment rows = record { block = Occupancy segment rows; after = state }

pub record IsOccupancyTold (airport : Airport) (state : State) (name : List ℕ) (block : Block) (after : State) : Type 0 where
  pub segment : Segment
  pub rows : List HeldRow
  pub known : segment_named airport name ≡ Some segment
  pub held : AreHeldRows airport state segment rows
  pub reply : IsOf (occupancy_reply state segment rows) block after

-- a row for each flight in force
abbrev pub timetable_reply : State → Reply
timetable_reply state = record { block = Timetable (timetable_rows state); after = state }

-- ---- every command

abbrev pub IsCarriedOut : Airport → State → Command → Block → State → Type 0
IsCarriedOut airport state (command.File filed) = IsFiled airport state filed
IsCarriedOut airport state (command.Arrival asked) = IsRouted airport state asked.flight asked.class (arrival_named airport asked)
IsCarriedOut airport state (command.Departure asked) = IsRouted airport state asked.flight asked.class (departure_named airport asked)
IsCarriedOut airport state (command.Cancel flight) = IsOf (cancelled_reply state flight)
IsCarriedOut airport state (command.Reroute flight time) = IsRoutedAgain airport state flight time IsTarget
IsCarriedOut airport state (command.Divert flight time node) = IsRoutedAgain airport state flight time (λ asked target. node_named airport node ≡ Some target)
IsCarriedOut airport state (command.Windows segment) = AreWindowsTold airport state segment
IsCarriedOut airport state (command.Occupancy segment) = IsOccupancyTold airport state segment
IsCarriedOut airport state command.Timetable = IsOf (timetable_reply state)
IsCarriedOut airport state (command.Work shut) = IsShut airport state shut
IsCarriedOut airport state (command.WorkDone name) = IsOf (opened_reply state name)
IsCarriedOut airport state (command.ArrivalAny asked) = IsRoutedToOne airport state asked.flight asked.class (arrival_any_named airport asked)
IsCarriedOut airport state (command.DepartureAny asked) = IsRoutedToOne airport state asked.flight asked.class (departure_any_named airport asked)
IsCarriedOut airport state (command.Batch requests) = IsBatched airport state requests
IsCarriedOut airport state (command.Late flight time until) = IsRepairTold airport state flight time until
