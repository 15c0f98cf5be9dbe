use Rattle.std.proofs.Common.{ℕ, Bool, All, take}
use Rattle.taxi_base.specs.declared.numbers.Class.{Class}
use Rattle.taxi_base.specs.declared.numbers.Segment.{Segment}
use Rattle.check_rows.specs.Comes.{conditions_at, FallsShort}
use Rattle.check_rows.proofs.target.all_fall_short.Given as goal

abbrev pub invariant-loop-row : goal.invariant-loop-row
invariant-loop-row l =
    (class : Class) (free : Segment → ℕ → Bool) → All (FallsShort l.way (conditions_at l.airport class free) l.nodes l.table.bound) (take l.row-index l.table.rows.now)
