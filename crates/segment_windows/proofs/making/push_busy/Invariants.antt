use Rattle.std.proofs.Common.{◌≡◌, ◌++◌, take}
use Rattle.std.specs.Prelude.{filter}
use Rattle.segment_windows.specs.Gaps.{is_some_time}
use Rattle.segment_windows.proofs.making.push_busy.Given as goal

abbrev pub invariant-loop-span : goal.invariant-loop-span
invariant-loop-span l = l.busy.items ≡ l.fn.busy.items ++ filter is_some_time (take l.span-index l.spans)
