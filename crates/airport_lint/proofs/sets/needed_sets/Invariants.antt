use Rattle.std.proofs.Common.{◌≡◌, ◌-◌, length}
use Rattle.airport_lint.proofs.SetLaws.{marks_from}
use Rattle.airport_lint.proofs.sets.needed_sets.Given as goal

abbrev pub invariant-loop-judged : goal.invariant-loop-judged
invariant-loop-judged l = l.marks.items ≡ marks_from l.sets (length l.sets - l.judged)
