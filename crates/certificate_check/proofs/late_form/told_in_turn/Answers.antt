use Rattle.checked_state.specs.Flights.{state_of}
use Rattle.certificate_check.specs.Late.{delay_in}
use Rattle.certificate_check.proofs.LateSteps.{delay-arc}
use Rattle.certificate_check.proofs.LateForm.{nobody-tells}
use Rattle.certificate_check.proofs.late_form.told_in_turn.Goals as goal

pub returns-in_err-late : goal.returns-in_err-late
returns-in_err-late c =
    let none = rw c.in_err-late.was at c.late_flight.ensures in
    rw c.from_residual.ensures (nobody-tells c.args.airport.now (state_of c.args.before.now) c.args.line.now.flight.now c.args.line.now.time c.args.line.now.until none c.args.block)

pub tell_in_turn-requires-clause-arc : goal.tell_in_turn-requires-clause-arc
tell_in_turn-requires-clause-arc c =
    delay-arc c.args.airport.now (state_of c.args.before.now) c.requires.sound c.args.line.now.flight.now c.args.line.now.time c.args.line.now.until (delay_in c.in_ok-late.late) (rw c.in_ok-late.was at c.late_flight.ensures)
