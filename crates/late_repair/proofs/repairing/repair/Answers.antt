use Rattle.std.proofs.lemmas.Result.{IfOk-weaker}
use Rattle.late_repair.proofs.RepairSteps.{delay-is}
use Rattle.late_repair.proofs.repairing.repair.Goals as goal

pub repair_delay-requires-clause-delay : goal.repair_delay-requires-clause-delay
repair_delay-requires-clause-delay c =
    let late = c.args.late.now in
    delay-is c.args.airport.now c.args.ledger.now.state late.flight late.time late.until c.in_ok-delay.delay c.requires.delay.0 c.in_ok-delay.ensures c.requires.delay.1 c.requires.delay.2

pub returns-clause-repaired : goal.returns-clause-repaired
returns-clause-repaired c = IfOk-weaker c.repair_delay.result _ _ (λ done is. (c.in_ok-delay.delay, c.in_ok-delay.ensures, is)) c.repair_delay.ensures.repaired
