use Rattle.std.proofs.Common.{◌∙◌, sym, ap}
use Rattle.std.specs.Prelude.{option_copied}
use Rattle.checked_state.specs.Flights.{state_of}
use Rattle.checked_state.proofs.FlightLaws.{copied-flight}
use Rattle.certificate_check.specs.Late.{delay_in}
use Rattle.certificate_check.proofs.LateWay.{party-from, nobody-from, late-from, flight-from}
use Rattle.certificate_check.proofs.late_order.second_of.Goals as goal

pub returns-in-Some : goal.returns-in-Some
returns-in-Some c =
    let found = sym c.party.ensures ∙ copied-flight c.party.result c.in-Some.party c.in-Some.is in
    party-from c.args.airport.now (state_of c.args.before.now) (delay_in c.args.late.now) c.requires.sound.feasible c.args.name.now c.in-Some.party.now found c.party_second.result c.party_second.ensures

pub returns-in_err-flight : goal.returns-in_err-flight
returns-in_err-flight c =
    let alone = sym c.party.ensures ∙ ap option_copied c.in_default.is in
    let none = sym c.flight.ensures ∙ ap option_copied c.in_err-flight.was in
    rw c.from_residual.ensures
    (nobody-from c.args.airport.now (state_of c.args.before.now) (delay_in c.args.late.now) c.requires.sound.feasible c.args.name.now alone none)

pub returns-then-is_late : goal.returns-then-is_late
returns-then-is_late c =
    let alone = sym c.party.ensures ∙ ap option_copied c.in_default.is in
    let found = sym c.flight.ensures ∙ copied-flight c.flight.result c.in_ok-flight.flight c.in_ok-flight.was in
    late-from c.args.airport.now (state_of c.args.before.now) (delay_in c.args.late.now) c.requires.sound.feasible c.args.name.now alone c.in_ok-flight.flight.now found
    (sym c.is_late.ensures ∙ c.if-is_late.true)

pub returns : goal.returns
returns c =
    let alone = sym c.party.ensures ∙ ap option_copied c.in_default.is in
    let found = sym c.flight.ensures ∙ copied-flight c.flight.result c.in_ok-flight.flight c.in_ok-flight.was in
    flight-from c.args.airport.now (state_of c.args.before.now) (delay_in c.args.late.now) c.requires.sound.feasible c.args.name.now alone c.in_ok-flight.flight.now found
    (sym c.is_late.ensures ∙ c.if-is_late.false) c.flight_second.result c.flight_second.ensures
