use Rattle.late_repair.proofs.BackLaws.{IsMakingWay}
use Rattle.late_repair.proofs.taken_out.make_way.Given as goal

-- who has the names of the holders so far is out
abbrev pub invariant-loop-holder : goal.invariant-loop-holder
invariant-loop-holder l = IsMakingWay l.airport l.holders l.fn.ledger l.holder-index l.ledger
