use Rattle.std.proofs.Common.{◌∙◌, IsTrue, IsFalse, sym, subst}
use Rattle.std.specs.Prelude.{All, AllPairs, bytes_eq}
use Rattle.taxi_base.specs.State.{State, has_holder}
use Rattle.taxi_base.specs.Late.{IsDelay, AreInTheWay}
use Rattle.taxi_base.proofs.LateLaws.{names-once}
use Rattle.commitments.specs.Room.{HasRoomForAll}
use Rattle.commitments.proofs.RoomLaws.{room-own, room-kept}
use Rattle.late_repair.specs.Repairing.{IsRepairedAs}
use Rattle.late_repair.proofs.RoomSteps.{no_loss-both}
use Rattle.late_repair.proofs.RepairSteps.{way-in_force}
use Rattle.late_repair.proofs.repairing.repair_delay.Goals as goal

pub take_out-requires-clause-in_force : goal.take_out-requires-clause-in_force
take_out-requires-clause-in_force c =
    let state = c.args.ledger.now.state in
    let plan = c.in_ok-names.ensures in
    subst (All (λ n. IsTrue (has_holder n state))) (sym (c.as_slice.ensures.value ∙ plan.2))
    (way-in_force c.args.airport.now state c.args.delay.now c.requires.sound.feasible c.requires.delay plan.0 plan.1)

pub take_out-requires-clause-once : goal.take_out-requires-clause-once
take_out-requires-clause-once c =
    let plan = c.in_ok-names.ensures in
    subst (AllPairs (λ a b. IsFalse (bytes_eq b a))) (sym (c.as_slice.ensures.value ∙ plan.2))
    (names-once c.args.airport.now c.args.ledger.now.state c.args.delay.now c.requires.sound.feasible c.requires.delay plan.0 plan.1)

pub let_through-requires-clause-delay : goal.let_through-requires-clause-delay
let_through-requires-clause-delay c = subst (λ (s : State). IsDelay c.args.airport.now s c.args.delay.now) (sym c.in_ok-before.ensures.back) c.requires.delay

pub let_through-requires-clause-in_turn : goal.let_through-requires-clause-in_turn
let_through-requires-clause-in_turn c =
    let plan = c.in_ok-names.ensures in (
      plan.0,
      subst (λ (s : State). AreInTheWay c.args.airport.now s c.args.delay.now plan.0) (sym c.in_ok-before.ensures.back) plan.1,
      c.in_ok-before.ensures.names ∙ c.as_slice.ensures.value ∙ plan.2,
    )

pub returns-in-Ok-clause-repaired : goal.returns-in-Ok-clause-repaired
returns-in-Ok-clause-repaired c =
    subst (λ (s : State). IsRepairedAs c.args.airport.now s c.args.delay.now c.in-Ok.entries c.let_through.new.ledger.state) c.in_ok-before.ensures.back c.in-Ok.ensures.repaired

pub returns-in-Ok-clause-room : goal.returns-in-Ok-clause-room
returns-in-Ok-clause-room c =
    room-kept c.args.airport.now c.args.ledger.now.state c.args.ledger.now c.let_through.new.ledger (room-own c.args.airport.now c.args.ledger.now c.requires.fits c.requires.unlifted)
    (no_loss-both c.args.ledger.now c.take_out.new.ledger c.let_through.new.ledger c.take_out.ensures.room c.let_through.ensures.theirs.room)

pub take_back-requires-clause-room : goal.take_back-requires-clause-room
take_back-requires-clause-room c =
    subst (λ (s : State). HasRoomForAll c.args.airport.now s c.let_through.new.ledger) (sym (c.let_through.ensures.theirs.back ∙ c.in_ok-before.ensures.back))
    (room-kept c.args.airport.now c.args.ledger.now.state c.args.ledger.now c.let_through.new.ledger (room-own c.args.airport.now c.args.ledger.now c.requires.fits c.requires.unlifted)
    (no_loss-both c.args.ledger.now c.take_out.new.ledger c.let_through.new.ledger c.take_out.ensures.room c.let_through.ensures.theirs.room))
