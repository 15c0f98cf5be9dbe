use Rattle.std.proofs.Common.{◌≡◌, length}
use Rattle.place_cells.proofs.numbers.no_guesses.Given as goal

abbrev pub invariant-loop : goal.invariant-loop
invariant-loop l = length l.found.items ≡ l.counter
