-- How a block is written.
use Rattle.std.specs.Prelude.{ℕ, List, [], ◌∷◌, ◌++◌, length, map, flat_map, codes, decimal}
use Rattle.taxi_base.specs.declared.numbers.Segment.{Segment}
use Rattle.taxi_base.specs.declared.rows.Step.{Step}
use Rattle.taxi_base.specs.declared.rows.Span.{Span}
use Rattle.taxi_base.specs.declared.rows.LabelRow.{LabelRow}
use Rattle.taxi_base.specs.declared.rows.HeldRow.{HeldRow}
use Rattle.taxi_base.specs.declared.rows.FlightKind.{FlightKind}
use Rattle.taxi_base.specs.declared.rows.FlightKind.TheVariants as kind
use Rattle.taxi_base.specs.declared.rows.FlightRow.{FlightRow}
use Rattle.taxi_base.specs.declared.answers.StepCause.{StepCause}
use Rattle.taxi_base.specs.declared.answers.StepCause.TheVariants.{ClassBarred, BadTurn, TooFast, PastHorizon, Taken}
use Rattle.taxi_base.specs.declared.answers.Refusal.{Refusal}
use Rattle.taxi_base.specs.declared.answers.Refusal.TheVariants as refusal
use Rattle.taxi_base.specs.Airport.{Airport}
use Rattle.airport_file.specs.Words.{class_word, segment_word, word_of_arc}
use Rattle.replies.specs.declared.block.Block.{Block}
use Rattle.replies.specs.declared.block.Block.TheVariants.{Refused, Filed, Cancelled, Route, NoRoute, Windows, Occupancy, Timetable, Batch, Late}
use Rattle.replies.specs.declared.entries.Entry.{Entry}
use Rattle.replies.specs.declared.entries.Entry.TheVariants as entry

-- words with one blank between two, and a line feed
abbrev pub line_text : List (List ℕ) → List ℕ
line_text [] = 10 ∷ []
line_text (word ∷ []) = word ++ 10 ∷ []
line_text (word ∷ next ∷ words) = word ++ 32 ∷ line_text (next ∷ words)

-- lines, each of words
abbrev pub lines_text : List (List (List ℕ)) → List ℕ
lines_text lines = flat_map line_text lines

-- ---- refusals

abbrev pub cause_words : StepCause → List (List ℕ)
cause_words ClassBarred = codes "class-barred" ∷ []
cause_words BadTurn = codes "bad-turn" ∷ []
cause_words TooFast = codes "too-fast" ∷ []
cause_words PastHorizon = codes "past-horizon" ∷ []
cause_words (Taken at by) = codes "taken" ∷ decimal at ∷ by ∷ []

abbrev pub refusal_words : Refusal → List (List ℕ)
refusal_words refusal.BadLine = codes "bad-line" ∷ []
refusal_words refusal.InForce = codes "in-force" ∷ []
refusal_words refusal.UnknownClass = codes "unknown-class" ∷ []
refusal_words refusal.UnknownNode = codes "unknown-node" ∷ []
refusal_words refusal.WrongKind = codes "wrong-kind" ∷ []
refusal_words refusal.UnknownSegment = codes "unknown-segment" ∷ []
refusal_words refusal.NotInForce = codes "not-in-force" ∷ []
refusal_words refusal.NotRouted = codes "not-routed" ∷ []
refusal_words refusal.NotArrival = codes "not-arrival" ∷ []
refusal_words (refusal.AlreadyDone end) = codes "already-done" ∷ decimal end ∷ []
refusal_words (refusal.AlreadyMoving start) = codes "already-moving" ∷ decimal start ∷ []
refusal_words refusal.Full = codes "full" ∷ []
refusal_words (refusal.Step fault) = codes "step" ∷ decimal fault.number ∷ cause_words fault.cause
refusal_words (refusal.NotMoving start) = codes "not-moving" ∷ decimal start ∷ []
refusal_words (refusal.NotLate leave) = codes "not-late" ∷ decimal leave ∷ []
refusal_words (refusal.PastEnd horizon) = codes "past-end" ∷ decimal horizon ∷ []
refusal_words refusal.Memory = codes "memory" ∷ []

-- ---- rows

abbrev pub step_words : Airport → Step → List (List ℕ)
step_words airport step = codes "step" ∷ word_of_arc airport step.arc ∷ decimal step.enter ∷ decimal step.leave ∷ []

abbrev pub label_words : Airport → LabelRow → List (List ℕ)
label_words airport label =
    codes "label" ∷ word_of_arc airport label.arc ∷ decimal label.from ∷ decimal label.until ∷ decimal label.value ∷ []

abbrev pub window_words : Span → List (List ℕ)
window_words window = codes "window" ∷ decimal window.from ∷ decimal window.until ∷ []

abbrev pub held_words : Airport → HeldRow → List (List ℕ)
held_words airport row = codes "held" ∷ decimal row.from ∷ decimal row.until ∷ row.flight ∷ segment_word airport row.segment ∷ []

abbrev pub kind_word : FlightKind → List ℕ
kind_word kind.Filed = codes "filed"
kind_word kind.Arrival = codes "arrival"
kind_word kind.Departure = codes "departure"

abbrev pub flight_words : Airport → FlightRow → List (List ℕ)
flight_words airport row =
    codes "flight" ∷ row.flight ∷ kind_word row.kind ∷ class_word airport row.class ∷ decimal row.start ∷ decimal row.end ∷ []

-- the lines of the windows of a segment
abbrev pub segment_lines : Airport → Segment → List Span → List (List (List ℕ))
segment_lines airport segment windows =
    (codes "windows" ∷ segment_word airport segment ∷ decimal (length windows) ∷ []) ∷ map window_words windows

abbrev pub route_lines : Airport → List ℕ → ℕ → List Step → List LabelRow → List (List (List ℕ))
route_lines airport flight second steps labels =
    (codes "route" ∷ flight ∷ decimal second ∷ decimal (length steps) ∷ decimal (length labels) ∷ [])
    ∷ (map (step_words airport) steps ++ map (label_words airport) labels)

abbrev pub no_route_lines : Airport → List LabelRow → List (List (List ℕ))
no_route_lines airport labels = (codes "no-route" ∷ decimal (length labels) ∷ []) ∷ map (label_words airport) labels

-- the lines of an entry: of which flight, and what is told of it; or the one line that it is dropped
abbrev pub entry_lines : Airport → List ℕ × Entry → List (List (List ℕ))
entry_lines airport (name, entry.Route second steps labels) = (codes "next" ∷ name ∷ []) ∷ route_lines airport name second steps labels
entry_lines airport (name, entry.NoRoute labels) = (codes "next" ∷ name ∷ []) ∷ no_route_lines airport labels
entry_lines airport (name, entry.Dropped) = (codes "dropped" ∷ name ∷ []) ∷ []

-- ---- blocks

-- the lines of a block, each of its words
abbrev pub block_lines : Airport → Block → List (List (List ℕ))
block_lines airport (Refused why) = (codes "refused" ∷ refusal_words why) ∷ []
block_lines airport (Filed flight start end) = (codes "filed" ∷ flight ∷ decimal start ∷ decimal end ∷ []) ∷ []
block_lines airport (Cancelled flight) = (codes "cancelled" ∷ flight ∷ []) ∷ []
block_lines airport (Route flight second steps labels) = route_lines airport flight second steps labels
block_lines airport (NoRoute labels) = no_route_lines airport labels
block_lines airport (Windows segment windows) = segment_lines airport segment windows
block_lines airport (Occupancy segment held) =
    (codes "occupancy" ∷ segment_word airport segment ∷ decimal (length held) ∷ []) ∷ map (held_words airport) held
block_lines airport (Timetable flights) = (codes "timetable" ∷ decimal (length flights) ∷ []) ∷ map (flight_words airport) flights
block_lines airport (Batch total entries) = (codes "batch" ∷ decimal (length entries) ∷ decimal total ∷ []) ∷ flat_map (entry_lines airport) entries
block_lines airport (Late flight entries) = (codes "late" ∷ flight ∷ decimal (length entries) ∷ []) ∷ flat_map (entry_lines airport) entries

-- the text of a block
unfoldable pub block_text : Airport → Block → List ℕ
block_text airport block = lines_text (block_lines airport block)

-- ---- short blocks

-- a line of words as it grows: what stands, then a blank and one more word
abbrev pub and_word : List ℕ → List ℕ → List ℕ
and_word text word = text ++ 32 ∷ word

-- the same with several words
abbrev pub and_words : List ℕ → List (List ℕ) → List ℕ
and_words text [] = text
and_words text (word ∷ words) = and_words (and_word text word) words
