use Rattle.std.proofs.Common.{◌≡◌, Some, sym, subst}
use Rattle.taxi_base.specs.State.{State, holds_in, without, flight_named}
use Rattle.checked_state.specs.Flights.{state_of}
use Rattle.due_refusals.proofs.HeldLaws.{more-without}
use Rattle.certificate_check.proofs.AgainLaws.{some-there, force-arcs, force-alone}
use Rattle.certificate_check.proofs.again.lower.Goals as goal

pub lower-requires-clause-alone : goal.lower-requires-clause-alone
lower-requires-clause-alone c = force-alone c.args.airport.now (state_of c.args.held.now) c.requires.sound c.args.name.now c.requires.in_force

pub lower-requires-clause-arcs : goal.lower-requires-clause-arcs
lower-requires-clause-arcs c = force-arcs c.args.airport.now (state_of c.args.held.now) c.requires.sound c.args.name.now

pub returns-clause-known : goal.returns-clause-known
returns-clause-known c =
    let airport = c.args.airport.now in
    let state = state_of c.args.held.now in
    let name = c.args.name.now in
    let flight = some-there (flight_named name state.flights) c.requires.in_force in
    let there = subst (λ (s : State). flight_named name s.flights ≡ Some flight.0) (sym c.lower.ensures.state) flight.1 in
    c.cut_out.ensures flight.0 there (holds_in airport (without name state)) (holds_in airport state)
    (more-without airport flight.0 state name c.requires.sound.feasible.ordered (force-alone airport state c.requires.sound name c.requires.in_force) flight.1) c.requires.known
