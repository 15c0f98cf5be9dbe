-- Which windows are known, and what is still known where some holds have changed?
use Rattle.std.specs.Prelude.{ℕ, ◌≡◌, ◌≢◌, Bool, false, IsTrue, IsFalse, List, ◌++◌, length, map, Some, slice_get, All, Contains}
use Rattle.std.specs.Option.{option_map_or}
use Rattle.taxi_base.specs.declared.numbers.Segment.{Segment}
use Rattle.taxi_base.specs.declared.rows.Step.{Step}
use Rattle.taxi_base.specs.Airport.{segment_of, conflict}
use Rattle.taxi_base.specs.Windows.{Hold, AreWindows}
use Rattle.check_rows.specs.declared.known.KnownWindows.{KnownWindows}
use Rattle.check_rows.specs.declared.known.SegmentWindows.{SegmentWindows}
use Rattle.held_spans.specs.Holds.{held_at}

-- there is a list a segment, and each list that was made has all windows of its segment
pub record AreKnown (segments : ℕ) (free : Segment → ℕ → Bool) (known : KnownWindows) : Type 0 where
  pub count : length known.lists.items ≡ segments
  pub each : (s : Segment) (list : SegmentWindows) → slice_get known.lists.items s.0 ≡ Some list → IsTrue list.is_made → AreWindows (free s) list.windows.items

-- whether a segment's windows are known
abbrev pub is_known : KnownWindows → Segment → Bool
is_known known s = option_map_or (λ (list : SegmentWindows). list.is_made) (slice_get known.lists.items s.0) false

-- the holds differ on the segments of the steps alone
abbrev pub DifferOn : List Step → List Hold → List Hold → Type 0
DifferOn steps holds others = (s : Segment) (t : ℕ) → (Contains (map (λ step. segment_of step.arc) steps) s → ⊥) → held_at holds s t ≡ held_at others s t

-- the holds differ on a segment alone
abbrev pub DifferAt : Segment → List Hold → List Hold → Type 0
DifferAt segment holds others = (s : Segment) (t : ℕ) → s ≢ segment → held_at holds s t ≡ held_at others s t

-- the others hold what the holds do, and more
abbrev pub HaveMore : List Hold → List Hold → List Hold → Type 0
HaveMore more holds others = (s : Segment) (t : ℕ) → held_at others s t ≡ held_at (holds ++ more) s t

-- ---- what is forgotten; no public clause cites these

-- each list that is still there was there before, and its segment is in conflict with no segment of the steps
pub record AreStill (sets : List (List Segment)) (steps : List Step) (old new : List SegmentWindows) : Type 0 where
  pub count : length new ≡ length old
  pub each : (s : Segment) (list : SegmentWindows) → slice_get new s.0 ≡ Some list → IsTrue list.is_made
      → (slice_get old s.0 ≡ Some list) × All (λ step. IsFalse (conflict sets (segment_of step.arc) s)) steps

-- each list that is still there was there before, and its segment is none of these
pub record AreLeft (segments : List Segment) (old new : List SegmentWindows) : Type 0 where
  pub count : length new ≡ length old
  pub each : (s : Segment) (list : SegmentWindows) → slice_get new s.0 ≡ Some list → IsTrue list.is_made
      → (slice_get old s.0 ≡ Some list) × (Contains segments s → ⊥)
