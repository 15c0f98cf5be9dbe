use Rattle.std.proofs.Common.{◌≡◌, ◌++◌, take}
use Rattle.forward_search.proofs.joining.push_steps.Given as goal

abbrev pub invariant-loop-step : goal.invariant-loop-step
invariant-loop-step l = l.steps ≡ l.initial.steps ++ take l.step-index l.more
