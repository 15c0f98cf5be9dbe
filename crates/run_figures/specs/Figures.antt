-- Which text tells the figures of a run?
use Rattle.std.specs.Prelude.{ℕ, ◌≡◌, ◌-◌, List, [], ◌∷◌, ◌++◌, length, flat_map, filter, codes, decimal}
use Rattle.std.specs.List.{range_with_len}
use Rattle.taxi_base.specs.declared.numbers.Segment.{Segment}
use Rattle.taxi_base.specs.declared.rows.FlightKind.{FlightKind}
use Rattle.taxi_base.specs.declared.rows.FlightKind.TheVariants.{Filed, Arrival, Departure}
use Rattle.taxi_base.specs.Airport.{Airport}
use Rattle.taxi_base.specs.State.{State}
use Rattle.airport_file.specs.Words.{class_word, segment_word}
use Rattle.replies.specs.declared.block.Block.{Block}
use Rattle.replies.specs.Texts.{kind_word}
use Rattle.run_figures.specs.declared.counting.Count.{Count}
use Rattle.run_figures.specs.declared.counting.ReplyCounts.{ReplyCounts}
use Rattle.run_figures.specs.declared.flights.Sums.{Sums}
use Rattle.run_figures.specs.Counts.{replies_tallied, entries_tallied, refusals_tallied}
use Rattle.run_figures.specs.Flights.{is_of, sums_of}
use Rattle.run_figures.specs.Busy.{busy_seconds, busy_flights, AreBusiest}

-- words and one number
unfoldable pub line : List ℕ → List ℕ → ℕ → List ℕ
line what subject number = what ++ (subject ++ 32 ∷ (decimal number ++ 10 ∷ []))

-- ---- what was answered

abbrev pub count_line : List ℕ → Count → List ℕ
count_line what count = line what count.kind count.number

abbrev pub counts_text : List ℕ → List Count → List ℕ
counts_text what counts = flat_map (count_line what) counts

abbrev pub answers_text_of : (commands : ℕ) → (replies entries refusals : List Count) → List ℕ
answers_text_of commands replies entries refusals =
    line (codes "commands") [] commands
    ++ (counts_text (codes "reply ") replies ++ (counts_text (codes "entry ") entries ++ counts_text (codes "refused ") refusals))

-- how often each kind of reply, of entry and of refusal is among some blocks
abbrev pub answers_text : Airport → List Block → List ℕ
answers_text airport blocks = answers_text_of (length blocks) (replies_tallied airport blocks) (entries_tallied blocks) (refusals_tallied blocks)

abbrev pub tallies_text : ReplyCounts → List ℕ
tallies_text counts = answers_text_of counts.commands counts.replies.items counts.entries.items counts.refusals.items

-- ---- who is in force

-- how long arrivals are held, and how early departures are
abbrev pub shift_line : FlightKind → List ℕ → ℕ → List ℕ
shift_line Filed subject number = []
shift_line Arrival subject number = line (codes "held ") subject number
shift_line Departure subject number = line (codes "early ") subject number

-- the sums over flights of a kind; they wait for as long as they taxi for more than the least seconds
abbrev pub sums_text : FlightKind → List ℕ → Sums → List ℕ
sums_text kind subject sums =
    line (codes "flights ") subject sums.flights
    ++ (line (codes "taxied ") subject sums.taxied
    ++ (line (codes "least ") subject sums.least
    ++ (line (codes "waited ") subject (sums.taxied - sums.least) ++ shift_line kind subject sums.shifted)))

-- the flights in force of a kind and a class
abbrev pub class_text : Airport → State → FlightKind → ℕ → List ℕ
class_text airport state kind number =
    sums_text kind (kind_word kind ++ 32 ∷ class_word airport (record { 0 = number }))
    (sums_of airport (filter (is_of kind (record { 0 = number })) state.flights))

abbrev pub kind_text : Airport → State → FlightKind → List ℕ
kind_text airport state kind = flat_map (class_text airport state kind) (range_with_len 0 (length airport.classes))

abbrev pub holders_text : Airport → State → List ℕ
holders_text airport state =
    line (codes "parties") [] (length state.parties)
    ++ (kind_text airport state Filed ++ (kind_text airport state Arrival ++ kind_text airport state Departure))

-- ---- what is busy

abbrev pub busy_text : Airport → State → Segment → List ℕ
busy_text airport state segment =
    line (codes "busy-seconds ") (segment_word airport segment) (busy_seconds airport state segment)
    ++ line (codes "busy-flights ") (segment_word airport segment) (busy_flights state segment)

-- ---- the figures

-- The figures of a run that gave these replies and left this state: how often each kind of reply came, what the holders in force at the end
-- come to, and which segments flights hold the longest.
pub record IsFigures (airport : Airport) (blocks : List Block) (state : State) (text : List ℕ) : Type 0 where
  pub busiest : List Segment
  pub are : AreBusiest airport state busiest
  pub whole : text ≡ answers_text airport blocks ++ (holders_text airport state ++ flat_map (busy_text airport state) busiest)
