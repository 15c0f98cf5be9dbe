use Rattle.replies.proofs.RequestTests.{AreTried}
use Rattle.checked_state.specs.Flights.{state_of}
use Rattle.due_refusals.proofs.batch.named_batch.Given as goal

-- the requests before the place were tried, and none was refused
abbrev pub invariant-loop-place : goal.invariant-loop-place
invariant-loop-place l = AreTried l.airport (state_of l.held) l.requests l.place l.wishes
