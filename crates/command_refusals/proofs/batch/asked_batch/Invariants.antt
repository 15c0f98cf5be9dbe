use Rattle.replies.proofs.RequestTests.{AreTried}
use Rattle.command_refusals.proofs.batch.asked_batch.Given as goal

-- the requests before the place were tried, and none was refused
abbrev pub invariant-loop-place : goal.invariant-loop-place
invariant-loop-place l = AreTried l.airport l.ledger.state l.requests l.place l.wishes
