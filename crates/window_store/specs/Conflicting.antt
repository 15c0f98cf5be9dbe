-- The spans of the holds in conflict with a segment.
use Rattle.std.specs.Prelude.{ℕ, ◌<◌, ◌≤◌, List, map, filter, IsTrue}
use Rattle.taxi_base.specs.declared.numbers.Segment.{Segment}
use Rattle.taxi_base.specs.declared.rows.Span.{Span}
use Rattle.taxi_base.specs.Airport.{conflict}
use Rattle.taxi_base.specs.Windows.{Hold, covers}

abbrev pub spans_in_conflict : List (List Segment) → Segment → List Hold → List Span
spans_in_conflict sets segment holds = map (λ h. h.span) (filter (λ h. conflict sets segment h.segment) holds)

-- each second from one on and before another is in one of the spans, and there is such a second where the first one is
pub record ReachesUpTo (spans : List Span) (from until : ℕ) : Type 0 where
  pub held : (t : ℕ) → from ≤ t → t < until → IsTrue (covers spans t)
  pub later : IsTrue (covers spans from) → from < until
