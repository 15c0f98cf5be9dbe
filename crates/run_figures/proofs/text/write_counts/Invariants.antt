use Rattle.std.proofs.Common.{◌≡◌, ◌++◌, take}
use Rattle.run_figures.specs.Figures.{counts_text}
use Rattle.run_figures.proofs.text.write_counts.Given as goal

abbrev pub invariant-loop-count : goal.invariant-loop-count
invariant-loop-count l = l.out.items ≡ l.initial.out.items ++ counts_text l.what (take l.count-index l.counts)
