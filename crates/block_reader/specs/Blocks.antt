-- How each kind of block is read.
use Rattle.std.specs.Prelude.{ℕ, List, Option, Some, None, option_map, codes, bytes_eq, if◌then◌else◌}
use Rattle.std.specs.List.{list_all}
use Rattle.taxi_base.specs.declared.rows.Step.{Step}
use Rattle.taxi_base.specs.declared.rows.Span.{Span}
use Rattle.taxi_base.specs.declared.rows.LabelRow.{LabelRow}
use Rattle.taxi_base.specs.declared.rows.HeldRow.{HeldRow}
use Rattle.taxi_base.specs.declared.rows.FlightRow.{FlightRow}
use Rattle.taxi_base.specs.declared.numbers.Segment.{Segment}
use Rattle.taxi_base.specs.declared.answers.StepCause.{StepCause}
use Rattle.taxi_base.specs.declared.answers.StepCause.TheVariants.{ClassBarred, BadTurn, TooFast, PastHorizon, Taken}
use Rattle.taxi_base.specs.declared.answers.StepFault.{StepFault}
use Rattle.taxi_base.specs.declared.answers.Refusal.{Refusal}
use Rattle.taxi_base.specs.declared.answers.Refusal.TheVariants as refusal
use Rattle.taxi_base.specs.Airport.{Airport}
use Rattle.taxi_text.specs.Commands.{◌>>=◌}
use Rattle.taxi_text.specs.Fields.{name_of}
use Rattle.replies.specs.declared.block.Block.{Block}
use Rattle.replies.specs.declared.block.Block.TheVariants.{Refused, Filed, Cancelled, Route, NoRoute, Windows, Occupancy, Timetable, Batch, Late}
use Rattle.replies.specs.declared.entries.Entry.{Entry}
use Rattle.replies.specs.declared.entries.Entry.TheVariants as entry
use Rattle.replies.specs.Printable.{is_told}
use Rattle.block_reader.specs.Fields.{number_of, count_of, some_count_of, batch_count_of, total_of, step_number_of, kind_of, class_of_word, segment_of_word, arc_of_word}
use Rattle.block_reader.specs.Reading.{after, word_then, word_last, made, either, rows_at}

-- ---- rows

unfoldable pub step_at : Airport → List ℕ → Option (Step × List ℕ)
step_at airport =
    after (codes "step ") (made (λ p. record { arc = p.0; enter = p.1.0; leave = p.1.1 })
    (word_then (arc_of_word airport) (word_then number_of (word_last number_of))))

unfoldable pub label_at : Airport → List ℕ → Option (LabelRow × List ℕ)
label_at airport =
    after (codes "label ") (made (λ p. record { arc = p.0; from = p.1.0; until = p.1.1.0; value = p.1.1.1 })
    (word_then (arc_of_word airport) (word_then number_of (word_then number_of (word_last number_of)))))

unfoldable pub window_at : Airport → List ℕ → Option (Span × List ℕ)
window_at airport =
    after (codes "window ") (made (λ p. record { from = p.0; until = p.1 }) (word_then number_of (word_last number_of)))

unfoldable pub held_at : Airport → List ℕ → Option (HeldRow × List ℕ)
held_at airport =
    after (codes "held ") (made (λ p. record { from = p.0; until = p.1.0; flight = p.1.1.0; segment = p.1.1.1 })
    (word_then number_of (word_then number_of (word_then name_of (word_last (segment_of_word airport))))))

unfoldable pub flight_at : Airport → List ℕ → Option (FlightRow × List ℕ)
flight_at airport =
    after (codes "flight ") (made (λ p. record { flight = p.0; kind = p.1.0; class = p.1.1.0; start = p.1.1.1.0; end = p.1.1.1.1 })
    (word_then name_of (word_then kind_of (word_then (class_of_word airport) (word_then number_of (word_last number_of))))))

-- ---- refusals

unfoldable pub plain_cause_of : List ℕ → Option StepCause
plain_cause_of word =
    if bytes_eq word (codes "class-barred") then Some ClassBarred
    else (if bytes_eq word (codes "bad-turn") then Some BadTurn
    else (if bytes_eq word (codes "too-fast") then Some TooFast
    else (if bytes_eq word (codes "past-horizon") then Some PastHorizon
    else None)))

unfoldable pub cause_at : List ℕ → Option (StepCause × List ℕ)
cause_at = either (codes "taken ") (made (λ p. Taken p.0 p.1) (word_then number_of (word_last name_of))) (word_last plain_cause_of)

unfoldable pub fault_at : List ℕ → Option (StepFault × List ℕ)
fault_at = made (λ p. record { number = p.0; cause = p.1 }) (word_then step_number_of cause_at)

unfoldable pub plain_refusal_of : List ℕ → Option Refusal
plain_refusal_of word =
    if bytes_eq word (codes "bad-line") then Some refusal.BadLine
    else (if bytes_eq word (codes "in-force") then Some refusal.InForce
    else (if bytes_eq word (codes "unknown-class") then Some refusal.UnknownClass
    else (if bytes_eq word (codes "unknown-node") then Some refusal.UnknownNode
    else (if bytes_eq word (codes "wrong-kind") then Some refusal.WrongKind
    else (if bytes_eq word (codes "unknown-segment") then Some refusal.UnknownSegment
    else (if bytes_eq word (codes "not-in-force") then Some refusal.NotInForce
    else (if bytes_eq word (codes "not-routed") then Some refusal.NotRouted
    else (if bytes_eq word (codes "not-arrival") then Some refusal.NotArrival
    else (if bytes_eq word (codes "full") then Some refusal.Full
    else (if bytes_eq word (codes "memory") then Some refusal.Memory
    else None))))))))))

unfoldable pub refusal_at : List ℕ → Option (Refusal × List ℕ)
refusal_at =
    either (codes "already-done ") (made refusal.AlreadyDone (word_last number_of))
    (either (codes "already-moving ") (made refusal.AlreadyMoving (word_last number_of))
    (either (codes "not-moving ") (made refusal.NotMoving (word_last number_of))
    (either (codes "not-late ") (made refusal.NotLate (word_last number_of))
    (either (codes "past-end ") (made refusal.PastEnd (word_last number_of))
    (either (codes "step ") (made refusal.Step fault_at) (word_last plain_refusal_of))))))

-- ---- blocks, behind their first word

unfoldable pub refused_at : List ℕ → Option (Block × List ℕ)
refused_at = made Refused refusal_at

unfoldable pub filed_at : List ℕ → Option (Block × List ℕ)
filed_at = made (λ p. Filed p.0 p.1.0 p.1.1) (word_then name_of (word_then number_of (word_last number_of)))

unfoldable pub cancelled_at : List ℕ → Option (Block × List ℕ)
cancelled_at = made Cancelled (word_last name_of)

-- a flight, a second, how many steps and how many labels
unfoldable pub route_head_at : List ℕ → Option ((List ℕ × (ℕ × (ℕ × ℕ))) × List ℕ)
route_head_at = word_then name_of (word_then number_of (word_then some_count_of (word_last count_of)))

unfoldable pub route_at : Airport → List ℕ → Option (Block × List ℕ)
route_at airport bytes =
    route_head_at bytes >>= (λ head.
    rows_at (step_at airport) head.0.1.1.0 head.1 >>= (λ steps.
    option_map (λ labels. (Route head.0.0 head.0.1.0 steps.0 labels.0, labels.1)) (rows_at (label_at airport) head.0.1.1.1 steps.1)))

-- a count, and so many rows
abbrev pub counted_at : {X : Type 0} → (List X → Block) → (List ℕ → Option (X × List ℕ)) → List ℕ → Option (Block × List ℕ)
counted_at make row bytes = word_last count_of bytes >>= (λ count. option_map (λ rows. (make rows.0, rows.1)) (rows_at row count.0 count.1))

-- a segment, a count, and so many rows
abbrev pub of_segment_at : {X : Type 0} → Airport → (Segment → List X → Block) → (List ℕ → Option (X × List ℕ)) → List ℕ → Option (Block × List ℕ)
of_segment_at airport make row bytes =
    word_then (segment_of_word airport) (word_last count_of) bytes >>= (λ head.
    option_map (λ rows. (make head.0.0 rows.0, rows.1)) (rows_at row head.0.1 head.1))

unfoldable pub no_route_at : Airport → List ℕ → Option (Block × List ℕ)
no_route_at airport = counted_at NoRoute (label_at airport)

unfoldable pub windows_at : Airport → List ℕ → Option (Block × List ℕ)
windows_at airport = of_segment_at airport Windows (window_at airport)

unfoldable pub occupancy_at : Airport → List ℕ → Option (Block × List ℕ)
occupancy_at airport = of_segment_at airport Occupancy (held_at airport)

unfoldable pub timetable_at : Airport → List ℕ → Option (Block × List ℕ)
timetable_at airport = counted_at Timetable (flight_at airport)

-- ---- what is found

-- a route, or that there is none
unfoldable pub found_at : Airport → List ℕ → Option (Block × List ℕ)
found_at airport = either (codes "route ") (route_at airport) (after (codes "no-route ") (no_route_at airport))

-- ---- entries

-- the entry of a flight that a block tells of, where a route is its own
abbrev pub entry_of : List ℕ → Block → Option (List ℕ × Entry)
entry_of name (Route flight second steps labels) = if bytes_eq flight name then Some (name, entry.Route second steps labels) else None
entry_of name (NoRoute labels) = Some (name, entry.NoRoute labels)
entry_of name _ = None

-- the name of a flight, and what is told of it
unfoldable pub told_at : Airport → List ℕ → Option ((List ℕ × Entry) × List ℕ)
told_at airport bytes =
    word_last name_of bytes >>= (λ name.
    found_at airport name.1 >>= (λ told.
    option_map (λ of_flight. (of_flight, told.1)) (entry_of name.0 told.0)))

-- a line that names a flight, and what is told of it; or the one line that it is dropped
unfoldable pub entry_at : Airport → List ℕ → Option ((List ℕ × Entry) × List ℕ)
entry_at airport =
    either (codes "next ") (told_at airport) (after (codes "dropped ") (made (λ name. (name, entry.Dropped)) (word_last name_of)))

-- ---- blocks with entries, behind their first word

-- the batch of a total and of entries, of which none is dropped
abbrev pub batch_of : ℕ → List (List ℕ × Entry) → Option Block
batch_of total entries = if list_all is_told entries then Some (Batch total entries) else None

-- how many entries, their total, and so many entries
unfoldable pub batch_at : Airport → List ℕ → Option (Block × List ℕ)
batch_at airport bytes =
    word_then batch_count_of (word_last total_of) bytes >>= (λ head.
    rows_at (entry_at airport) head.0.0 head.1 >>= (λ entries.
    option_map (λ batch. (batch, entries.1)) (batch_of head.0.1 entries.0)))

-- the flight that is late, how many entries, and so many entries
unfoldable pub late_at : Airport → List ℕ → Option (Block × List ℕ)
late_at airport bytes =
    word_then name_of (word_last some_count_of) bytes >>= (λ head.
    option_map (λ entries. (Late head.0.0 entries.0, entries.1)) (rows_at (entry_at airport) head.0.1 head.1))

-- ---- any block

unfoldable pub block_at : Airport → List ℕ → Option (Block × List ℕ)
block_at airport =
    either (codes "refused ") refused_at
    (either (codes "filed ") filed_at
    (either (codes "cancelled ") cancelled_at
    (either (codes "windows ") (windows_at airport)
    (either (codes "occupancy ") (occupancy_at airport)
    (either (codes "timetable ") (timetable_at airport)
    (either (codes "batch ") (batch_at airport)
    (either (codes "late ") (late_at airport) (found_at airport))))))))
