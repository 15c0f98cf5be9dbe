-- Which command file stands for what is in force?
use Rattle.std.specs.Prelude.{ℕ, nat_lt, Bool, if◌then◌else◌, List, [], ◌∷◌, ◌++◌, length, map, flat_map, codes, decimal}
use Rattle.taxi_base.specs.declared.rows.Step.{Step}
use Rattle.taxi_base.specs.declared.answers.Request.{Request}
use Rattle.taxi_base.specs.declared.answers.Request.TheVariants as request
use Rattle.taxi_base.specs.declared.answers.Flight.{Flight}
use Rattle.taxi_base.specs.declared.answers.Party.{Party}
use Rattle.taxi_base.specs.Airport.{Airport, node_word}
use Rattle.taxi_base.specs.Walks.{begin_of}
use Rattle.taxi_base.specs.State.{State}
use Rattle.airport_file.specs.Words.{class_word, segment_word, word_of_arc}
use Rattle.replies.specs.Texts.{lines_text}
use Rattle.command_refusals.specs.declared.asking.Trip.{Trip}

-- ---- what a flight asked for

-- the comment that tells what an arrival or a departure asked for
abbrev pub wish_words : Airport → List ℕ → List ℕ → Trip → List (List ℕ)
wish_words airport kind name trip =
    codes "#" ∷ kind ∷ name ∷ class_word airport trip.class ∷ node_word airport trip.from ∷ node_word airport trip.to ∷ decimal trip.time ∷ decimal trip.slack ∷ []

-- the lines of a flight's request: none of one that was filed
abbrev pub wish_lines : Airport → Flight → Request → List (List (List ℕ))
wish_lines airport flight request.Filed = []
wish_lines airport flight (request.Arrival from to time hold) =
    wish_words airport (codes "arrival") flight.name (record { class = flight.class; from = from; to = to; time = time; slack = hold }) ∷ []
wish_lines airport flight (request.Departure from to time queue) =
    wish_words airport (codes "departure") flight.name (record { class = flight.class; from = from; to = to; time = time; slack = queue }) ∷ []

-- ---- its route

-- whether a route has more steps than a command that files it may have
abbrev pub is_too_long : Flight → Bool
is_too_long flight = nat_lt 256 (length flight.steps)

-- the arc of a step, and when it is left
abbrev pub pair_words : Airport → Step → List (List ℕ)
pair_words airport step = word_of_arc airport step.arc ∷ decimal step.leave ∷ []

-- the command that files the route
abbrev pub file_words : Airport → Flight → List (List ℕ)
file_words airport flight =
    codes "file" ∷ flight.name ∷ class_word airport flight.class ∷ decimal (begin_of flight.steps) ∷ flat_map (pair_words airport) flight.steps

-- the comment in its place, with the number of steps
abbrev pub too_long_words : Flight → List (List ℕ)
too_long_words flight = codes "#" ∷ codes "too-long" ∷ flight.name ∷ decimal (length flight.steps) ∷ []

abbrev pub route_words : Airport → Flight → List (List ℕ)
route_words airport flight = if is_too_long flight then too_long_words flight else file_words airport flight

-- ---- all that is in force

-- the lines of a flight, over or not
abbrev pub flight_lines : Airport → Flight → List (List (List ℕ))
flight_lines airport flight = wish_lines airport flight flight.request ++ route_words airport flight ∷ []

-- the command that shuts a work party's segment
abbrev pub work_words : Airport → Party → List (List ℕ)
work_words airport party = codes "work" ∷ party.name ∷ segment_word airport party.segment ∷ decimal party.from ∷ decimal party.until ∷ []

-- flights by rising names, and then work parties by rising names
abbrev pub checkpoint_lines : Airport → State → List (List (List ℕ))
checkpoint_lines airport state = flat_map (flight_lines airport) state.flights ++ map (work_words airport) state.parties

unfoldable pub checkpoint_text : Airport → State → List ℕ
checkpoint_text airport state = lines_text (checkpoint_lines airport state)
