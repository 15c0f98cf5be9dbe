use Rattle.std.proofs.Common.{◌≡◌, ◌&&◌, false, get_or, take, is_some, None}
use Rattle.std.specs.List.{list_any}
use Rattle.taxi_base.specs.Airport.{times_of}
use Rattle.airport_lint.proofs.seconds.is_shared.Given as goal

abbrev pub invariant-loop-number : goal.invariant-loop-number
invariant-loop-number l = list_any (λ times. is_some (get_or times l.one.0 None) && is_some (get_or times l.other.0 None)) (take l.number (times_of l.airport)) ≡ false
