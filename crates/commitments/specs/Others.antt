-- Up to when is a segment free among all holders but one?
use Rattle.std.specs.Prelude.{ℕ, ◌<◌, ◌≤◌, Bool, not, IsTrue, IsFalse, List, filter, bytes_eq}
use Rattle.taxi_base.specs.declared.numbers.Segment.{Segment}
use Rattle.taxi_base.specs.Airport.{Airport}
use Rattle.commitments.specs.declared.segment_holds.HeldStep.{HeldStep}
use Rattle.commitments.specs.Taken.{is_taken}

-- Each second from one on and before another is free, and that one is not, unless it is the limit.
pub record IsFreeUntil (free : ℕ → Bool) (from limit until : ℕ) : Type 0 where
  pub not_before : from ≤ until
  pub not_after : until ≤ limit
  pub free_before : (t : ℕ) → from ≤ t → t < until → IsTrue (free t)
  pub taken : until < limit → IsFalse (free until)

-- ---- by steps. No public clause cites these.

-- whether a step is of another holder than that of a name, and those steps that are
abbrev pub is_of_others : List ℕ → HeldStep → Bool
is_of_others name held = not (bytes_eq held.holder.name name)

abbrev pub steps_of_others : List ℕ → List HeldStep → List HeldStep
steps_of_others name steps = filter (is_of_others name) steps

-- whether none of them takes a second of a segment
abbrev pub is_left : Airport → List ℕ → Segment → List HeldStep → ℕ → Bool
is_left airport name segment steps t = not (is_taken airport segment (steps_of_others name steps) t)
