-- What is left of the lists of windows where a span is cut out of them? No public clause cites these.
use Rattle.std.specs.Prelude.{◌≡◌, Bool, true, ◌==◌, List, Some, length, slice_get, IsTrue}
use Rattle.std.specs.List.{list_any}
use Rattle.taxi_base.specs.declared.numbers.Segment.{Segment}
use Rattle.taxi_base.specs.declared.rows.Span.{Span}
use Rattle.taxi_base.specs.Windows.{AreApart}
use Rattle.segment_windows.specs.Cuts.{AreCut}
use Rattle.check_rows.specs.declared.known.SegmentWindows.{SegmentWindows}

-- the windows that were made lie apart
abbrev pub IsApart : SegmentWindows → Type 0
IsApart list = IsTrue list.is_made → AreApart 0 list.windows.items

-- a span is cut out of a list of windows that is still there
abbrev pub IsListCut : Span → SegmentWindows → SegmentWindows → Type 0
IsListCut span old new = IsTrue new.is_made → IsTrue old.is_made × AreCut true span old.windows.items new.windows.items

-- whether a segment is one of these
abbrev pub is_among : List Segment → Segment → Bool
is_among segments s = list_any (λ (r : Segment). r.0 == s.0) segments

-- each list that is still there was there before, and the span is cut out of those of these segments
pub record AreListsCut (segments : List Segment) (span : Span) (old new : List SegmentWindows) : Type 0 where
  pub count : length new ≡ length old
  pub each : (s : Segment) (list : SegmentWindows) → slice_get new s.0 ≡ Some list → IsTrue list.is_made
      → (was : SegmentWindows) × (slice_get old s.0 ≡ Some was) × IsTrue was.is_made × AreCut (is_among segments s) span was.windows.items list.windows.items
