use Rattle.std.specs.Prelude.{vec_len}
use Rattle.late_repair.specs.TakenOut.{with_holders}
use Rattle.late_repair.proofs.BackLaws.{IsPuttingBack}
use Rattle.late_repair.proofs.taken_out.put_back.Given as goal

-- those that are left are out, and the others are in force as they were
abbrev pub invariant-loop-holder : goal.invariant-loop-holder
invariant-loop-holder l = IsPuttingBack l.airport (with_holders l.fn.holders.items l.fn.ledger.state) l.left.items l.ledger

abbrev pub decreases-loop-holder : goal.decreases-loop-holder
decreases-loop-holder l = vec_len l.left
