-- Which segments conflict by the sets of an airport.
use Rattle.std.specs.Prelude.{ℕ, ◌<◌, List, [], length, IsTrue, slice_index_or}
use Rattle.taxi_base.specs.Lists.{AreAll}
use Rattle.taxi_base.specs.declared.numbers.Segment.{Segment}
use Rattle.taxi_base.specs.Airport.{conflict}

-- how many segments there are, and the sets of those that conflict
pub record ConflictSets : Type 0 where
  pub segments : ℕ
  pub sets : List (List Segment)

-- exactly the segments in conflict with one, in order of number
abbrev pub AreConflicts : List (List Segment) → Segment → List Segment → Type 0
AreConflicts sets segment found = AreAll (λ t. t.0) (λ t. IsTrue (conflict sets segment t)) found

-- a row a segment: those in conflict with it
abbrev pub AreConflictRows : List (List Segment) → List (List Segment) → Type 0
AreConflictRows sets rows = (s : Segment) → s.0 < length rows → AreConflicts sets s (slice_index_or rows s.0 [])
