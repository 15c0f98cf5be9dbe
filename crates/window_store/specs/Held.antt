-- When a segment is held next, and until when.
use Rattle.std.specs.Prelude.{ℕ, ◌≤◌, ◌<◌, IsTrue, IsFalse, List}
use Rattle.taxi_base.specs.declared.rows.Span.{Span}
use Rattle.taxi_base.specs.Windows.{covers}

-- the first second from one on, and before another, that is in one of the spans; the other where none is
pub record IsFirstHeld (spans : List Span) (from until found : ℕ) : Type 0 where
  pub not_before : from ≤ found
  pub not_after : found ≤ until
  pub none_before : (t : ℕ) → from ≤ t → t < found → IsFalse (covers spans t)
  pub held : found < until → IsTrue (covers spans found)

-- a later second, and each second from one on and before it is in one of the spans
pub record IsHeldUntil (spans : List Span) (from until : ℕ) : Type 0 where
  pub later : from < until
  pub held : (t : ℕ) → from ≤ t → t < until → IsTrue (covers spans t)
