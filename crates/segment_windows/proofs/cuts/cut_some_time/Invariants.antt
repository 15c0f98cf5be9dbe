use Rattle.std.proofs.Common.{◌≡◌, ◌-◌, ◌++◌, take, drop}
use Rattle.segment_windows.specs.Cuts.{cut_out}
use Rattle.segment_windows.proofs.cuts.cut_some_time.Given as goal

abbrev pub invariant-loop-past : goal.invariant-loop-past
invariant-loop-past l = l.windows.items ≡ take (l.begun - l.past) l.fn.windows.items ++ cut_out l.span (drop (l.begun - l.past) l.fn.windows.items)
