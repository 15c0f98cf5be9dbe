-- The grammar of commands: which command a line is, if it is one.
use Rattle.std.specs.Prelude.{ℕ, Bool, ◌&&◌, ◌==◌, nat_lt, nat_le, drop, List, [], ◌∷◌, length, Option, Some, None, codes, bytes_eq, if◌then◌else◌, ⊤}
use Rattle.taxi_text.specs.declared.command.FiledStep.{FiledStep}
use Rattle.taxi_text.specs.declared.command.Asked.{Asked}
use Rattle.taxi_text.specs.declared.command.AskedAny.{AskedAny}
use Rattle.taxi_text.specs.declared.command.BatchRequest.{BatchRequest}
use Rattle.taxi_text.specs.declared.command.BatchRequest.TheVariants as requested
use Rattle.taxi_text.specs.declared.command.Command.{Command}
use Rattle.taxi_text.specs.declared.command.Command.TheVariants.{File, Arrival, Departure, Cancel, Reroute, Divert, Windows, Occupancy, Timetable, Work, WorkDone, ArrivalAny, DepartureAny, Batch, Late}
use Rattle.taxi_text.specs.Words.{words_of}
use Rattle.taxi_text.specs.Fields.{name_of, number_of, arc_word_of}

infixl 10 ◌>>=◌
abbrev pub ◌>>=◌ : {A B : Type 0} → Option A → (A → Option B) → Option B
(Some x) >>= f = f x
None >>= f = None

-- ---- a form: what its words are, one after the other

-- what the first word is read as
abbrev pub first_as : {X : Type 0} → (List ℕ → Option X) → List (List ℕ) → Option X
first_as read [] = None
first_as read (word ∷ words) = read word

-- a name, and what follows it
abbrev pub a_name : {X : Type 0} → (List ℕ → List (List ℕ) → Option X) → List (List ℕ) → Option X
a_name next words = first_as name_of words >>= (λ n. next n (drop 1 words))

-- a number, and what follows it
abbrev pub a_number : {X : Type 0} → (ℕ → List (List ℕ) → Option X) → List (List ℕ) → Option X
a_number next words = first_as number_of words >>= (λ n. next n (drop 1 words))

-- no further word
abbrev pub the_end : {X : Type 0} → X → List (List ℕ) → Option X
the_end value words = if length words == 0 then Some value else None

-- ---- the forms, after their first word

-- FLIGHT CLASS FROM TO TIME, and HOLD or QUEUE
abbrev pub asked_of : List (List ℕ) → Option Asked
asked_of = a_name (λ flight. a_name (λ class. a_name (λ from. a_name (λ to. a_number (λ time. a_number (λ slack.
    the_end (record { flight = flight; class = class; from = from; to = to; time = time; slack = slack })))))))

abbrev pub arrival_of : List (List ℕ) → Option Command
arrival_of words = asked_of words >>= (λ a. Some (Arrival a))

abbrev pub departure_of : List (List ℕ) → Option Command
departure_of words = asked_of words >>= (λ a. Some (Departure a))

-- FLIGHT
abbrev pub cancel_of : List (List ℕ) → Option Command
cancel_of = a_name (λ flight. the_end (Cancel flight))

-- FLIGHT TIME
abbrev pub reroute_of : List (List ℕ) → Option Command
reroute_of = a_name (λ flight. a_number (λ time. the_end (Reroute flight time)))

-- FLIGHT TIME NODE
abbrev pub divert_of : List (List ℕ) → Option Command
divert_of = a_name (λ flight. a_number (λ time. a_name (λ node. the_end (Divert flight time node))))

-- FLIGHT TIME UNTIL
abbrev pub late_of : List (List ℕ) → Option Command
late_of = a_name (λ flight. a_number (λ time. a_number (λ until. the_end (Late flight time until))))

-- SEGMENT
abbrev pub windows_of : List (List ℕ) → Option Command
windows_of = a_name (λ segment. the_end (Windows segment))

-- SEGMENT
abbrev pub occupancy_of : List (List ℕ) → Option Command
occupancy_of = a_name (λ segment. the_end (Occupancy segment))

-- nothing
abbrev pub timetable_of : List (List ℕ) → Option Command
timetable_of = the_end Timetable

-- NAME SEGMENT FROM UNTIL
abbrev pub work_of : List (List ℕ) → Option Command
work_of = a_name (λ name. a_name (λ segment. a_number (λ from. a_number (λ until. the_end (Work (record { name = name; segment = segment; from = from; until = until }))))))

-- NAME
abbrev pub work_done_of : List (List ℕ) → Option Command
work_done_of = a_name (λ name. the_end (WorkDone name))

-- the step of a pair ARC OUT
abbrev pub step_of : List ℕ → List ℕ → Option FiledStep
step_of arc out = arc_word_of arc >>= (λ on. number_of out >>= (λ leave. Some (record { segment = on.0; forward = on.1; leave = leave })))

-- the steps of pairs
abbrev pub steps_of : List (List ℕ) → Option (List FiledStep)
steps_of [] = Some []
steps_of (arc ∷ []) = None
steps_of (arc ∷ out ∷ pairs) = step_of arc out >>= (λ step. steps_of pairs >>= (λ steps. Some (step ∷ steps)))

-- from 1 to so many of a list
abbrev pub is_count_to : ℕ → ℕ → Bool
is_count_to most count = nat_lt 0 count && nat_le count most

abbrev pub up_to : {X : Type 0} → ℕ → List X → Option (List X)
up_to most items = if is_count_to most (length items) then Some items else None

-- a route has 1 to 256 steps
abbrev pub is_step_count : ℕ → Bool
is_step_count = is_count_to 256

abbrev pub route_of : List FiledStep → Option (List FiledStep)
route_of = up_to 256

-- the route of 1 to 256 pairs
abbrev pub filed_steps_of : List (List ℕ) → Option (List FiledStep)
filed_steps_of words = steps_of words >>= route_of

-- FLIGHT CLASS START, and the pairs
abbrev pub file_of : List (List ℕ) → Option Command
file_of = a_name (λ flight. a_name (λ class. a_number (λ start words.
    filed_steps_of words >>= (λ steps. Some (File (record { flight = flight; class = class; start = start; steps = steps }))))))

-- the names of words
abbrev pub names_of : List (List ℕ) → Option (List (List ℕ))
names_of [] = Some []
names_of (word ∷ words) = name_of word >>= (λ name. names_of words >>= (λ names. Some (name ∷ names)))

-- a choice is of 1 to 16 nodes, as they are written
abbrev pub is_choice_count : ℕ → Bool
is_choice_count = is_count_to 16

abbrev pub choice_of : List (List ℕ) → Option (List (List ℕ))
choice_of words = names_of words >>= up_to 16

-- FLIGHT CLASS FROM TIME, HOLD or QUEUE, and the nodes
abbrev pub asked_any_of : List (List ℕ) → Option AskedAny
asked_any_of = a_name (λ flight. a_name (λ class. a_name (λ from. a_number (λ time. a_number (λ slack words.
    choice_of words >>= (λ nodes. Some (record { flight = flight; class = class; from = from; time = time; slack = slack; nodes = nodes })))))))

abbrev pub arrival_any_of : List (List ℕ) → Option Command
arrival_any_of words = asked_any_of words >>= (λ a. Some (ArrivalAny a))

abbrev pub departure_any_of : List (List ℕ) → Option Command
departure_any_of words = asked_any_of words >>= (λ a. Some (DepartureAny a))

-- `arrival` or `departure`, and six words
abbrev pub request_of : List ℕ → List (List ℕ) → Option BatchRequest
request_of verb words =
    if bytes_eq verb (codes "arrival") then asked_of words >>= (λ a. Some (requested.Arrival a))
    else (if bytes_eq verb (codes "departure") then asked_of words >>= (λ a. Some (requested.Departure a))
    else None)

-- groups of seven words, each a request
abbrev pub requests_of : List (List ℕ) → Option (List BatchRequest)
requests_of [] = Some []
requests_of (verb ∷ flight ∷ class ∷ from ∷ to ∷ time ∷ slack ∷ words) =
    request_of verb (flight ∷ class ∷ from ∷ to ∷ time ∷ slack ∷ []) >>= (λ request. requests_of words >>= (λ requests. Some (request ∷ requests)))
requests_of _ = None

-- a batch has 2 to 6 requests
abbrev pub is_batch_count : ℕ → Bool
is_batch_count count = nat_le 2 count && nat_le count 6

abbrev pub batch_of : List (List ℕ) → Option Command
batch_of words = requests_of words >>= (λ requests. if is_batch_count (length requests) then Some (Batch requests) else None)

-- ---- the line

-- the forms that end in no list, by their first word
abbrev pub unlisted_of : List ℕ → List (List ℕ) → Option Command
unlisted_of verb words =
    if bytes_eq verb (codes "arrival") then arrival_of words
    else (if bytes_eq verb (codes "departure") then departure_of words
    else (if bytes_eq verb (codes "cancel") then cancel_of words
    else (if bytes_eq verb (codes "reroute") then reroute_of words
    else (if bytes_eq verb (codes "divert") then divert_of words
    else (if bytes_eq verb (codes "late") then late_of words
    else (if bytes_eq verb (codes "windows") then windows_of words
    else (if bytes_eq verb (codes "occupancy") then occupancy_of words
    else (if bytes_eq verb (codes "timetable") then timetable_of words
    else (if bytes_eq verb (codes "work") then work_of words
    else (if bytes_eq verb (codes "workdone") then work_done_of words
    else None))))))))))

-- the form that the first word says, of the words after it
abbrev pub command_of_words : List (List ℕ) → Option Command
command_of_words [] = None
command_of_words (verb ∷ words) =
    if bytes_eq verb (codes "file") then file_of words
    else (if bytes_eq verb (codes "arrival-any") then arrival_any_of words
    else (if bytes_eq verb (codes "departure-any") then departure_any_of words
    else (if bytes_eq verb (codes "batch") then batch_of words
    else unlisted_of verb words)))

-- the command that a line is; none where the line is not in the grammar
unfoldable pub command_of : List ℕ → Option Command
command_of line = command_of_words (words_of line)

-- a command of a form that ends in a list
abbrev pub EndsInList : Command → Type 0
EndsInList (File filed) = ⊤
EndsInList (ArrivalAny asked) = ⊤
EndsInList (DepartureAny asked) = ⊤
EndsInList (Batch requests) = ⊤
EndsInList _ = ⊥
