-- Which rows tell what is held of a segment, row by row?
use Rattle.std.specs.Prelude.{ℕ, ◌&&◌, ◌||◌, ◌==◌, Bool, nat_lt, bytes_eq, IsTrue, List, All, AllPairs, Contains}
use Rattle.taxi_base.specs.declared.numbers.Segment.{Segment}
use Rattle.taxi_base.specs.declared.rows.HeldRow.{HeldRow}
use Rattle.taxi_base.specs.declared.rows.Span.{Span}
use Rattle.taxi_base.specs.Airport.{Airport, conflict}
use Rattle.taxi_base.specs.State.{name_precedes}
use Rattle.taxi_base.specs.Reports.{held_row, row_precedes}
use Rattle.held_spans.specs.declared.spans.HeldSpans.{HeldSpans}
use Rattle.held_spans.specs.Spans.{rows_at}

abbrev pub AreRowsInOrder : List HeldRow → Type 0
AreRowsInOrder rows = AllPairs (λ a b. IsTrue (row_precedes a b)) rows

-- the order of rows that begin at one second, and of those that end at one second too
abbrev pub name_precedes_then_segment : HeldRow → HeldRow → Bool
name_precedes_then_segment a b = name_precedes a.flight b.flight || (bytes_eq a.flight b.flight && nat_lt a.segment.0 b.segment.0)

abbrev pub end_precedes : HeldRow → HeldRow → Bool
end_precedes a b = nat_lt a.until b.until || (a.until == b.until && name_precedes_then_segment a b)

-- ---- what the lists of the segments have

-- the row that tells of a span in a segment's list
abbrev pub row_on : Segment → Span × List ℕ → HeldRow
row_on segment listed = held_row listed.1 (record { segment = segment; span = listed.0 })

-- what the row tells stands in the list of its segment
abbrev pub IsListed : HeldSpans → HeldRow → Type 0
IsListed spans row = Contains (rows_at spans row.segment) (record { from = row.from; until = row.until }, row.flight)

-- it does, and its segment is in conflict with a segment
abbrev pub IsRowDue : Airport → HeldSpans → Segment → HeldRow → Type 0
IsRowDue airport spans segment row = IsListed spans row × IsTrue (conflict airport.conflicts segment row.segment)

-- rows tell all that stands in the list of a segment
abbrev pub IsTold : HeldSpans → List HeldRow → Segment → Type 0
IsTold spans rows segment = All (λ listed. Contains rows (row_on segment listed)) (rows_at spans segment)
