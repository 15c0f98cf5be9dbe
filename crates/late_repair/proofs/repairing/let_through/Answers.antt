use Rattle.late_repair.specs.TakenOut.{taken_back}
use Rattle.late_repair.proofs.RepairSteps.{repaired-so}
use Rattle.late_repair.proofs.repairing.let_through.Goals as goal

pub returns-clause-repaired : goal.returns-clause-repaired
returns-clause-repaired c =
    let way = c.requires.in_turn in
    repaired-so c.args.airport.now (taken_back c.args.before.now c.args.ledger.now.state) c.args.delay.now way.0 way.1 c.args.before.now way.2 (taken_back c.args.before.now c.place_at_once.new.ledger.state)
    c.place_at_once.new.ledger.state c.take_turns.new.ledger.state c.in_ok-place_at_once.ensures.theirs.back c.in_ok-place_at_once.ensures.state c.take_turns.result c.take_turns.ensures.turns
