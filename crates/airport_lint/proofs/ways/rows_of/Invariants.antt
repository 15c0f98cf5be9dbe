use Rattle.std.proofs.Common.{◌≡◌, ◌<◌, Bool, Vec, Global, length, get_or}
use Rattle.taxi_base.specs.declared.numbers.Class.{Class}
use Rattle.class_ways.specs.Ways.{AreMet}
use Rattle.airport_lint.proofs.ways.rows_of.Given as goal

abbrev pub invariant-loop-number : goal.invariant-loop-number
invariant-loop-number l = (length l.rows.items ≡ l.number) × ((class : Class) (none : Vec Bool Global) → class.0 < l.number → AreMet l.course l.kind l.airport class (get_or l.rows.items class.0 none).items)
