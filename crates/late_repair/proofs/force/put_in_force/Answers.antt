use Rattle.taxi_base.specs.declared.answers.Flight.{Flight}
use Rattle.taxi_base.specs.Faults.{conditions_in}
use Rattle.late_repair.specs.declared.holder.Holder.TheVariants.{Flight as InForce}
use Rattle.late_repair.proofs.ChangeLaws.{only-room, only-in, only-both}
use Rattle.late_repair.proofs.RoomSteps.{no_loss-made, no_loss-flight_in}
use Rattle.late_repair.proofs.WalkSteps.{walk-arcs, walk-short}
use Rattle.late_repair.proofs.force.put_in_force.Goals as goal

pub prepare-requires-clause-arcs : goal.prepare-requires-clause-arcs
prepare-requires-clause-arcs c = rw c.as_slice.ensures (walk-arcs (conditions_in c.args.airport.now c.args.flight.now.class c.args.ledger.now.state) c.args.steps c.requires.walk)

pub prepare-requires-clause-few : goal.prepare-requires-clause-few
prepare-requires-clause-few c =
    rw c.as_slice.ensures (walk-short (conditions_in c.args.airport.now c.args.flight.now.class c.args.ledger.now.state) c.args.steps c.requires.walk c.horizon-horizon.ensures.rules)

pub returns-clause-only : goal.returns-clause-only
returns-clause-only c =
    let old = c.args.ledger.now in
    let mid = c.prepare.new.self in
    let flight : Flight = record c.args.flight.now { request = c.args.request; steps = c.args.steps } in
    let made = no_loss-made old mid c.prepare.ensures.state c.prepare.ensures.kept c.prepare.ensures.party_room c.prepare.ensures.windows in
    only-both flight.name old mid c.commit.new.self (only-room flight.name old mid c.prepare.ensures.state made)
    (only-in (InForce flight) mid c.commit.new.self c.commit.ensures.state (no_loss-flight_in mid c.commit.new.self c.commit.ensures.nodes flight c.commit.ensures.state c.commit.ensures.room c.commit.ensures.party_room))
