-- Which blocks have a text in the grammar.
use Rattle.std.specs.Prelude.{ℕ, ◌<◌, ◌≤◌, ◌^◌, Bool, true, false, List, length, All, IsTrue, ⊤}
use Rattle.taxi_base.specs.Words.{is_name}
use Rattle.taxi_text.specs.Commands.{is_batch_count}
use Rattle.taxi_base.specs.Airport.{Airport, arc_exists, layout_of}
use Rattle.taxi_base.specs.declared.numbers.Arc.{Arc}
use Rattle.taxi_base.specs.declared.numbers.Class.{Class}
use Rattle.taxi_base.specs.declared.numbers.Segment.{Segment}
use Rattle.taxi_base.specs.declared.rows.Step.{Step}
use Rattle.taxi_base.specs.declared.rows.Span.{Span}
use Rattle.taxi_base.specs.declared.rows.LabelRow.{LabelRow}
use Rattle.taxi_base.specs.declared.rows.HeldRow.{HeldRow}
use Rattle.taxi_base.specs.declared.rows.FlightRow.{FlightRow}
use Rattle.taxi_base.specs.declared.answers.StepCause.{StepCause}
use Rattle.taxi_base.specs.declared.answers.StepCause.TheVariants.{Taken}
use Rattle.taxi_base.specs.declared.answers.StepFault.{StepFault}
use Rattle.taxi_base.specs.declared.answers.Refusal.{Refusal}
use Rattle.taxi_base.specs.declared.answers.Refusal.TheVariants as refusal
use Rattle.replies.specs.declared.block.Block.{Block}
use Rattle.replies.specs.declared.block.Block.TheVariants.{Refused, Filed, Cancelled, Route, NoRoute, Windows, Occupancy, Timetable, Batch, Late}
use Rattle.replies.specs.declared.entries.Entry.{Entry}
use Rattle.replies.specs.declared.entries.Entry.TheVariants as entry

-- ---- numbers and names in a block

-- a number of at most 7 digits
abbrev pub IsShort : ℕ → Type 0
IsShort number = number < 10 ^ 7

-- a count of at most 10 digits
abbrev pub IsCount : ℕ → Type 0
IsCount count = count < 10 ^ 10

abbrev pub IsName : List ℕ → Type 0
IsName name = IsTrue (is_name name)

abbrev pub HasArc : Airport → Arc → Type 0
HasArc airport arc = IsTrue (arc_exists (layout_of airport) arc)

abbrev pub HasSegment : Airport → Segment → Type 0
HasSegment airport segment = segment.0 < length airport.segments

abbrev pub HasClass : Airport → Class → Type 0
HasClass airport class = class.0 < length airport.classes

-- ---- printable parts

abbrev pub IsPrintableStep : Airport → Step → Type 0
IsPrintableStep airport step = HasArc airport step.arc × (IsShort step.enter × IsShort step.leave)

abbrev pub IsPrintableLabel : Airport → LabelRow → Type 0
IsPrintableLabel airport label = HasArc airport label.arc × (IsShort label.from × (IsShort label.until × IsShort label.value))

abbrev pub IsPrintableWindow : Span → Type 0
IsPrintableWindow window = IsShort window.from × IsShort window.until

abbrev pub IsPrintableHeld : Airport → HeldRow → Type 0
IsPrintableHeld airport row = IsShort row.from × (IsShort row.until × (IsName row.flight × HasSegment airport row.segment))

abbrev pub IsPrintableFlight : Airport → FlightRow → Type 0
IsPrintableFlight airport row = IsName row.flight × (HasClass airport row.class × (IsShort row.start × IsShort row.end))

abbrev pub IsPrintableCause : StepCause → Type 0
IsPrintableCause (Taken at by) = IsShort at × IsName by
IsPrintableCause _ = ⊤

-- the first step that fails is one of 256
abbrev pub IsPrintableFault : StepFault → Type 0
IsPrintableFault fault = ((1 ≤ fault.number) × (fault.number ≤ 256)) × IsPrintableCause fault.cause

abbrev pub IsPrintableRefusal : Refusal → Type 0
IsPrintableRefusal (refusal.AlreadyDone end) = IsShort end
IsPrintableRefusal (refusal.AlreadyMoving start) = IsShort start
IsPrintableRefusal (refusal.Step fault) = IsPrintableFault fault
IsPrintableRefusal (refusal.NotMoving start) = IsShort start
IsPrintableRefusal (refusal.NotLate leave) = IsShort leave
IsPrintableRefusal (refusal.PastEnd horizon) = IsShort horizon
IsPrintableRefusal _ = ⊤

abbrev pub IsPrintableRoute : Airport → List ℕ → ℕ → List Step → List LabelRow → Type 0
IsPrintableRoute airport flight second steps labels =
    (IsName flight × (IsShort second × (((0 < length steps) × IsCount (length steps)) × IsCount (length labels))))
    × (All (IsPrintableStep airport) steps × All (IsPrintableLabel airport) labels)

abbrev pub IsPrintableNoRoute : Airport → List LabelRow → Type 0
IsPrintableNoRoute airport labels = IsCount (length labels) × All (IsPrintableLabel airport) labels

abbrev pub IsPrintableEntry : Airport → List ℕ × Entry → Type 0
IsPrintableEntry airport (name, entry.Route second steps labels) = IsPrintableRoute airport name second steps labels
IsPrintableEntry airport (name, entry.NoRoute labels) = IsName name × IsPrintableNoRoute airport labels
IsPrintableEntry airport (name, entry.Dropped) = IsName name

-- something is told of the flight: it is not dropped
abbrev pub IsTold : List ℕ × Entry → Type 0
IsTold (name, entry.Dropped) = ⊥
IsTold (name, told) = ⊤

abbrev pub is_told : List ℕ × Entry → Bool
is_told (name, entry.Dropped) = false
is_told (name, told) = true

-- A block that has a text in the grammar: its arcs, segments and classes are the airport's, its names are names, its numbers have
-- at most 7 digits and its counts at most 10, and a route has at least one step. A batch has 2 to 6 entries, of which none is
-- dropped, and its total fits 32 bits. Where a flight is late there is at least one entry.
abbrev pub IsPrintable : Airport → Block → Type 0
IsPrintable airport (Refused why) = IsPrintableRefusal why
IsPrintable airport (Filed flight start end) = IsName flight × (IsShort start × IsShort end)
IsPrintable airport (Cancelled flight) = IsName flight
IsPrintable airport (Route flight second steps labels) = IsPrintableRoute airport flight second steps labels
IsPrintable airport (NoRoute labels) = IsPrintableNoRoute airport labels
IsPrintable airport (Windows segment windows) = (HasSegment airport segment × IsCount (length windows)) × All IsPrintableWindow windows
IsPrintable airport (Occupancy segment held) = (HasSegment airport segment × IsCount (length held)) × All (IsPrintableHeld airport) held
IsPrintable airport (Timetable flights) = IsCount (length flights) × All (IsPrintableFlight airport) flights
IsPrintable airport (Batch total entries) =
    (IsTrue (is_batch_count (length entries)) × (total < 2 ^ 32)) × (All IsTold entries × All (IsPrintableEntry airport) entries)
IsPrintable airport (Late flight entries) =
    IsName flight × (((0 < length entries) × IsCount (length entries)) × All (IsPrintableEntry airport) entries)
