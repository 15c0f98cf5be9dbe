-- What becomes of the lists of windows where the seconds of a span are given back to them? No public clause cites these.
use Rattle.std.specs.Prelude.{ℕ, ◌≡◌, Bool, ◌&&◌, not, if◌then◌else◌, List, Some, length, slice_get, IsTrue, IsFalse}
use Rattle.std.specs.List.{list_any}
use Rattle.taxi_base.specs.declared.numbers.Segment.{Segment}
use Rattle.taxi_base.specs.declared.rows.Span.{Span}
use Rattle.taxi_base.specs.Airport.{Airport}
use Rattle.taxi_base.specs.Windows.{Hold, blocks, span_has, covers, AreApart}
use Rattle.taxi_base.specs.Walks.{free_among}
use Rattle.segment_windows.specs.Joins.{AreGivenBack}
use Rattle.check_rows.specs.declared.known.KnownWindows.{KnownWindows}
use Rattle.check_rows.specs.declared.known.SegmentWindows.{SegmentWindows}
use Rattle.check_rows.specs.Cuts.{is_among}

-- a list that is still there was there before, and was given back what no hold in conflict has of a span
abbrev pub IsListBack : List (List Segment) → List Hold → Segment → Span → SegmentWindows → SegmentWindows → Type 0
IsListBack sets holds segment span old new = IsTrue new.is_made → IsTrue old.is_made × AreGivenBack sets holds segment span old.windows.items new.windows.items

-- the same of windows of a segment, where it is given back
pub record AreBack (is_back : Bool) (sets : List (List Segment)) (holds : List Hold) (segment : Segment) (span : Span) (old new : List Span) : Type 0 where
  pub apart : AreApart 0 new
  pub seconds : (t : ℕ) → covers new t ≡ (if is_back && span_has span t then not (list_any (blocks sets segment t) holds) else covers old t)

-- each list that is still there was there before, and those of these segments were given back what no hold in conflict has
pub record AreListsBack (sets : List (List Segment)) (holds : List Hold) (segments : List Segment) (span : Span) (old new : List SegmentWindows) : Type 0 where
  pub count : length new ≡ length old
  pub each : (s : Segment) (list : SegmentWindows) → slice_get new s.0 ≡ Some list → IsTrue list.is_made
      → (was : SegmentWindows) × (slice_get old s.0 ≡ Some was) × IsTrue was.is_made × AreBack (is_among segments s) sets holds s span was.windows.items list.windows.items

-- ---- while some holds are still to be given back

-- windows have no second that is held, and each free second that none of those has that are still to be given back
pub record AreWindowsBut (airport : Airport) (holds left : List Hold) (s : Segment) (windows : List Span) : Type 0 where
  pub apart : AreApart 0 windows
  pub sound : (t : ℕ) → IsTrue (covers windows t) → IsTrue (free_among airport holds s t)
  pub whole : (t : ℕ) → IsTrue (free_among airport holds s t) → IsFalse (list_any (blocks airport.conflicts s t) left) → IsTrue (covers windows t)

pub record AreKnownBut (airport : Airport) (holds left : List Hold) (known : KnownWindows) : Type 0 where
  pub count : length known.lists.items ≡ length airport.segments
  pub each : (s : Segment) (list : SegmentWindows) → slice_get known.lists.items s.0 ≡ Some list → IsTrue list.is_made → AreWindowsBut airport holds left s list.windows.items
