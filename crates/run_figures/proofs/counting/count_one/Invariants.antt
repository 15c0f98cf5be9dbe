use Rattle.std.proofs.Common.{◌≡◌, ◌++◌, map, take, drop}
use Rattle.run_figures.specs.Tallies.{with_one}
use Rattle.run_figures.proofs.counting.count_one.Given as goal

abbrev pub invariant-loop-place : goal.invariant-loop-place
invariant-loop-place l = l.counts.items ≡ map (with_one l.words) (take l.place l.initial.counts.items) ++ drop l.place l.initial.counts.items
