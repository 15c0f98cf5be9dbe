use Rattle.std.proofs.Common.{◌+◌, ◌-◌, ◌*◌, length}
use Rattle.sequence_exchange.proofs.SequenceLaws.{IsSequencing}
use Rattle.sequence_exchange.proofs.sequencing.sequence.Given as goal

-- the exchange has come to the order, and the pairs before the place were tried
abbrev pub invariant-loop-place : goal.invariant-loop-place
invariant-loop-place l = IsSequencing l.airport l.fn.ledger.state l.wishes l.order l.place l.ledger

-- an exchange lowers the total, and else the place rises
abbrev pub decreases-loop-place : goal.decreases-loop-place
decreases-loop-place l = l.order.total * 7 + (length l.wishes - l.place)
