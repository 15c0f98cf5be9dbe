-- The commands of the flights that are asked for.
use Rattle.std.specs.Prelude.{ℕ, ◌+◌, ◌-◌, ◌*◌, ◌==◌, List, [], ◌∷◌, ◌++◌, map, codes, decimal, if◌then◌else◌}
use Rattle.std.specs.List.{join_with_byte}
use Rattle.std.specs.Str.{byte}
use Rattle.taxi_text.specs.declared.command.Asked.{Asked}
use Rattle.taxi_text.specs.declared.command.Command.{Command}
use Rattle.taxi_text.specs.declared.command.Command.TheVariants.{Arrival, Departure}
use Rattle.airport_file.specs.Plain.{text_of_lines}
use Rattle.airport_text.specs.Canonical.{Fields, numbers_below}
use Rattle.traffic_generator.specs.declared.flights.Flight.{Flight}
use Rattle.traffic_generator.specs.Draws.{draw}
use Rattle.traffic_generator.specs.Grid.{node_name, segment_count}

-- how many draws come before those of a flight: one for each segment, and five for each flight before it
abbrev pub draws_before : ℕ → ℕ → ℕ
draws_before side flight = segment_count side + 5 * flight

-- the five draws of a flight, after so many others
abbrev pub drawn_flight : ℕ → ℕ → ℕ → Flight
drawn_flight number side before = record {
  arrives = draw number before 2 == 0;
  medium = draw number (before + 1) 2 == 0;
  runway = draw number (before + 2) side;
  stand = draw number (before + 3) side;
  time = draw number (before + 4) 7200;
}

-- F and the flight's number
abbrev pub flight_name : ℕ → List ℕ
flight_name flight = codes "F" ++ decimal flight

abbrev pub runway_name : Flight → List ℕ
runway_name flight = node_name (record { row = 0; column = flight.runway })

abbrev pub stand_name : ℕ → Flight → List ℕ
stand_name side flight = node_name (record { row = side - 1; column = flight.stand })

abbrev pub class_word : Flight → List ℕ
class_word flight = if flight.medium then codes "M" else codes "H"

-- the words of a flight's command; a departure's time is an hour after the second that was drawn
abbrev pub command_words : ℕ → ℕ → Flight → Fields
command_words side number flight =
    if flight.arrives
    then codes "arrival" ∷ flight_name number ∷ class_word flight ∷ runway_name flight ∷ stand_name side flight ∷ decimal flight.time ∷ codes "600" ∷ []
    else codes "departure" ∷ flight_name number ∷ class_word flight ∷ stand_name side flight ∷ runway_name flight ∷ decimal (flight.time + 3600) ∷ codes "600" ∷ []

-- what a flight asks for between two nodes at a time
abbrev pub asked_between : ℕ → Flight → List ℕ → List ℕ → ℕ → Asked
asked_between number flight from to time =
    record { flight = flight_name number; class = class_word flight; from = from; to = to; time = time; slack = 600 }

-- the command that these words are
abbrev pub asked_command : ℕ → ℕ → Flight → Command
asked_command side number flight =
    if flight.arrives
    then Arrival (asked_between number flight (runway_name flight) (stand_name side flight) flight.time)
    else Departure (asked_between number flight (stand_name side flight) (runway_name flight) (flight.time + 3600))

abbrev pub words_of_flight : ℕ → ℕ → ℕ → Fields
words_of_flight number side flight = command_words side flight (drawn_flight number side (draws_before side flight))

-- words between blanks
abbrev pub command_lines : ℕ → ℕ → ℕ → List (List ℕ)
command_lines number side flights = map (λ f. join_with_byte (byte " ") (words_of_flight number side f)) (numbers_below flights)

unfoldable pub commands_text : ℕ → ℕ → ℕ → List ℕ
commands_text number side flights = text_of_lines (command_lines number side flights)

-- the commands, in order
abbrev pub asked_commands : ℕ → ℕ → ℕ → List Command
asked_commands number side flights = map (λ f. asked_command side f (drawn_flight number side (draws_before side f))) (numbers_below flights)
