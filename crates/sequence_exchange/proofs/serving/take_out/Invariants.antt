use Rattle.sequence_exchange.proofs.UndoneLaws.{IsUndoing}
use Rattle.sequence_exchange.proofs.serving.take_out.Given as goal

-- what was served before the entries that are taken out is in force
abbrev pub invariant-loop-left : goal.invariant-loop-left
invariant-loop-left l = IsUndoing l.airport l.entries l.left l.fn.ledger.state l.ledger

abbrev pub decreases-loop-left : goal.decreases-loop-left
decreases-loop-left l = l.left
