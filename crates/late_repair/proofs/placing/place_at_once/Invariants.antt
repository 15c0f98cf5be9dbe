use Rattle.late_repair.specs.TakenOut.{taken_back}
use Rattle.late_repair.proofs.PlacingLaws.{IsPlacing}
use Rattle.late_repair.proofs.placing.place_at_once.Given as goal

-- the holders so far are placed, and the others are out
abbrev pub invariant-loop-holder : goal.invariant-loop-holder
invariant-loop-holder l = IsPlacing l.airport (taken_back l.before l.fn.ledger.state) l.delay l.before l.fn.ledger l.holder-index l.ledger
