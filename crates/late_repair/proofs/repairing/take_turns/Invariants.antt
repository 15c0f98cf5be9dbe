use Rattle.late_repair.specs.TakenOut.{taken_back}
use Rattle.late_repair.proofs.TurnsLaws.{IsTurning}
use Rattle.late_repair.proofs.repairing.take_turns.Given as goal

-- the holders so far have had their turns, and the others wait
abbrev pub invariant-loop-holder : goal.invariant-loop-holder
invariant-loop-holder l = IsTurning l.airport l.delay (taken_back l.before l.fn.ledger.state) l.before l.holder-index l.fn.ledger l.entries l.ledger
