use Rattle.std.proofs.Common.{◌≡◌, drop, []}
use Rattle.due_refusals.proofs.FiledLaws.{steps_and}
use Rattle.due_refusals.proofs.filed.filed_steps.Given as goal

abbrev pub invariant-loop-filed : goal.invariant-loop-filed
invariant-loop-filed l = steps_and l.fn.airport [] l.start l.fn.filed ≡ steps_and l.fn.airport l.steps l.enter (drop l.filed-index l.filed)
