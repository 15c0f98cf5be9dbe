-- What do the words of a command ask for, in the airport's own terms?
use Rattle.std.specs.Prelude.{ℕ, ◌-◌, ◌+◌, List, [], ◌∷◌, length, Option, Some, option_map, option_and_then, All, IsTrue, ⊤}
use Rattle.taxi_base.specs.declared.numbers.Segment.{Segment}
use Rattle.taxi_base.specs.declared.rows.Step.{Step}
use Rattle.taxi_base.specs.declared.answers.Party.{Party}
use Rattle.taxi_base.specs.declared.answers.Request.{Request}
use Rattle.taxi_base.specs.declared.answers.Request.TheVariants as request
use Rattle.taxi_base.specs.declared.answers.Found.{Found}
use Rattle.taxi_base.specs.Airport.{Airport, layout_of, node_named, arc_named}
use Rattle.taxi_base.specs.Walks.{Conditions, LeavesNodeWithin, ReachesNodeWithin}
use Rattle.taxi_base.specs.declared.numbers.Node.{Node}
use Rattle.taxi_base.specs.declared.answers.Chosen.{Chosen}
use Rattle.taxi_base.specs.Labels.{AnswersArrival, AnswersDeparture}
use Rattle.taxi_base.specs.Choices.{AnswersArrivalChoice, AnswersDepartureChoice}
use Rattle.taxi_text.specs.declared.command.FiledStep.{FiledStep}
use Rattle.taxi_text.specs.declared.command.Asked.{Asked}
use Rattle.taxi_text.specs.declared.command.AskedAny.{AskedAny}
use Rattle.taxi_text.specs.declared.command.Filed.{Filed}
use Rattle.taxi_text.specs.declared.command.Shut.{Shut}
use Rattle.taxi_text.specs.declared.command.Command.{Command}
use Rattle.taxi_text.specs.declared.command.Command.TheVariants as command
use Rattle.taxi_text.specs.declared.command.BatchRequest.{BatchRequest}
use Rattle.taxi_text.specs.declared.command.BatchRequest.TheVariants as requested
use Rattle.taxi_text.specs.Commands.{is_step_count, is_choice_count, is_batch_count}
use Rattle.replies.specs.Printable.{IsShort, IsName}

-- ---- a route given by hand

-- The steps that pairs of an arc and its leave mean, the first of them entered at a time. None where a name is no
-- segment's, or the segment lacks the arc.
abbrev pub filed_steps : Airport → ℕ → List FiledStep → Option (List Step)
filed_steps airport enter [] = Some []
filed_steps airport enter (filed ∷ rest) =
    option_and_then (λ arc. option_map (λ steps. record { arc = arc; enter = enter; leave = filed.leave } ∷ steps) (filed_steps airport filed.leave rest))
    (arc_named airport filed.segment filed.forward)

-- the steps of a route given by hand
abbrev pub route_filed : Airport → Filed → Option (List Step)
route_filed airport filed = filed_steps airport filed.start filed.steps

-- the words of a request of a batch
abbrev pub asked_in : BatchRequest → Asked
asked_in (requested.Arrival asked) = asked
asked_in (requested.Departure asked) = asked

abbrev pub IsAskedInGrammar : Asked → Type 0
IsAskedInGrammar asked = IsName asked.flight × IsShort asked.time × IsShort asked.slack

-- What the grammar promises of a command: the name that a flight or a work party has or is to have is a name, times have at
-- most 7 digits, a route given by hand has 1 to 256 steps, a choice 1 to 16 nodes, and a batch 2 to 6 requests.
abbrev pub IsInGrammar : Command → Type 0
IsInGrammar (command.File filed) = IsName filed.flight × IsTrue (is_step_count (length filed.steps))
IsInGrammar (command.Arrival asked) = IsAskedInGrammar asked
IsInGrammar (command.Departure asked) = IsAskedInGrammar asked
IsInGrammar (command.Cancel flight) = IsName flight
IsInGrammar (command.Reroute flight time) = IsName flight × IsShort time
IsInGrammar (command.Divert flight time node) = IsName flight × IsShort time
IsInGrammar (command.Work shut) = IsName shut.name × IsShort shut.from × IsShort shut.until
IsInGrammar (command.WorkDone name) = IsName name
IsInGrammar (command.ArrivalAny asked) = IsName asked.flight × IsShort asked.time × IsShort asked.slack × IsTrue (is_choice_count (length asked.nodes))
IsInGrammar (command.DepartureAny asked) = IsName asked.flight × IsShort asked.time × IsShort asked.slack × IsTrue (is_choice_count (length asked.nodes))
IsInGrammar (command.Batch requests) = All (λ request. IsAskedInGrammar (asked_in request)) requests × IsTrue (is_batch_count (length requests))
IsInGrammar (command.Late flight time until) = IsName flight × IsShort time × IsShort until
IsInGrammar _ = ⊤

-- ---- a segment to be shut

-- the work party that shuts a segment as was asked
abbrev pub party_of : Shut → Segment → Party
party_of shut segment = record { name = shut.name; segment = segment; from = shut.from; until = shut.until }

-- ---- a route to be found

-- the request between the nodes of the two names; none where a name is no node's
abbrev pub arrival_named : Airport → Asked → Option Request
arrival_named airport asked =
    option_and_then (λ start. option_map (λ target. request.Arrival start target asked.time asked.slack) (node_named airport asked.to)) (node_named airport asked.from)

abbrev pub departure_named : Airport → Asked → Option Request
departure_named airport asked =
    option_and_then (λ start. option_map (λ target. request.Departure start target asked.time asked.slack) (node_named airport asked.to)) (node_named airport asked.from)

-- what is found for a request: the picked route with its labels, or that there is no walk, with all labels
abbrev pub AnswersRequest : Conditions → Request → Found → Type 0
AnswersRequest c request.Filed found = ⊥
AnswersRequest c (request.Arrival from to time hold) found = AnswersArrival c (LeavesNodeWithin (layout_of c.airport) from time (time + hold)) to found
AnswersRequest c (request.Departure from to time queue) found = AnswersDeparture c from (ReachesNodeWithin (layout_of c.airport) to (time - queue) time) found

-- ---- a choice of nodes

-- a route to any of some nodes
pub data Choice : Type 0 where
  arrival_any : (from : Node) (to : List Node) (time hold : ℕ) → Choice
  departure_any : (from : Node) (to : List Node) (time queue : ℕ) → Choice

-- the nodes, and the request for one of them
abbrev pub nodes_of : Choice → List Node
nodes_of (arrival_any from to time hold) = to
nodes_of (departure_any from to time queue) = to

abbrev pub request_for : Choice → Node → Request
request_for (arrival_any from to time hold) node = request.Arrival from node time hold
request_for (departure_any from to time queue) node = request.Departure from node time queue

-- the nodes of names; none where a name is no node's
abbrev pub nodes_named : Airport → List (List ℕ) → Option (List Node)
nodes_named airport [] = Some []
nodes_named airport (name ∷ names) = option_and_then (λ node. option_map (λ nodes. node ∷ nodes) (nodes_named airport names)) (node_named airport name)

-- the choice between the nodes of the names
abbrev pub arrival_any_named : Airport → AskedAny → Option Choice
arrival_any_named airport asked =
    option_and_then (λ start. option_map (λ nodes. arrival_any start nodes asked.time asked.slack) (nodes_named airport asked.nodes)) (node_named airport asked.from)

abbrev pub departure_any_named : Airport → AskedAny → Option Choice
departure_any_named airport asked =
    option_and_then (λ start. option_map (λ nodes. departure_any start nodes asked.time asked.slack) (nodes_named airport asked.nodes)) (node_named airport asked.from)

-- what is found for a choice: the chosen node with the picked route to it and the labels, or that there is no walk, with all labels
abbrev pub AnswersChoice : Conditions → Choice → Chosen → Type 0
AnswersChoice c (arrival_any from to time hold) chosen = AnswersArrivalChoice c (LeavesNodeWithin (layout_of c.airport) from time (time + hold)) to chosen
AnswersChoice c (departure_any from to time queue) chosen = AnswersDepartureChoice c from to (time - queue) time chosen
