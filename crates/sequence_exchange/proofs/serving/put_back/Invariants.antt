use Rattle.sequence_exchange.proofs.ServingLaws.{IsPuttingBack}
use Rattle.sequence_exchange.proofs.serving.put_back.Given as goal

-- the first flights are back, and what was served after them may be served again
abbrev pub invariant-loop-place : goal.invariant-loop-place
invariant-loop-place l = IsPuttingBack l.airport l.wishes l.entries l.place l.fn.ledger.state l.ledger
