use Rattle.std.proofs.Common.{◌≡◌, ◌++◌, drop}
use Rattle.segment_windows.specs.Gaps.{gaps}
use Rattle.segment_windows.proofs.making.fill_gaps.Given as goal

abbrev pub invariant-loop-span : goal.invariant-loop-span
invariant-loop-span l = l.windows.items ++ gaps l.low l.horizon (drop l.span-index l.busy) ≡ gaps 0 l.horizon l.busy
