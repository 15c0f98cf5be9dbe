use Rattle.std.proofs.Common.{◌≡◌, ◌++◌, take}
use Rattle.std.specs.Prelude.{flat_map}
use Rattle.airport_lint.specs.Text.{line_of}
use Rattle.airport_lint.proofs.text.write_lines.Given as goal

abbrev pub invariant-loop-advice : goal.invariant-loop-advice
invariant-loop-advice l = l.out.items ≡ l.initial.out.items ++ flat_map (line_of l.airport) (take l.advice-index l.told)
