use Rattle.std.proofs.Common.{◌≡◌, ℕ, ◌<◌, false, [], get_or}
use Rattle.airport_lint.specs.Sets.{are_same}
use Rattle.airport_lint.proofs.sets.first_like.Given as goal

abbrev pub invariant-loop-place : goal.invariant-loop-place
invariant-loop-place l = (j : ℕ) → j < l.place → are_same (get_or l.sets l.at []) (get_or l.sets j []) ≡ false
