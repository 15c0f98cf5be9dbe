use Rattle.std.proofs.Common.{◌≡◌, Some, refl, sym, subst}
use Rattle.std.specs.Prelude.{IsSome}
use Rattle.taxi_base.specs.State.{State, flight_named, holds_in, with_flight, IsSound}
use Rattle.taxi_base.specs.Faults.{conditions_in}
use Rattle.taxi_base.proofs.StateLaws.{IsSound-with_flight}
use Rattle.taxi_base.proofs.WalkLaws.{Meets-IsFeasibleWalk}
use Rattle.checked_state.specs.Flights.{state_of}
use Rattle.due_refusals.proofs.HeldLaws.{more-with}
use Rattle.certificate_check.proofs.AgainLaws.{with-there}
use Rattle.certificate_check.proofs.GoOnLaws.{go_on-with}
use Rattle.certificate_check.proofs.RoutedLaws.{walk-arcs, ready-by}
use Rattle.certificate_check.proofs.routed.put_in_force.Goals as goal

pub put_in-requires-clause-arcs : goal.put_in-requires-clause-arcs
put_in-requires-clause-arcs c =
    let flight = c.args.flight in
    let conditions = conditions_in c.args.airport.now flight.class (state_of c.args.held.now) in
    walk-arcs conditions flight.steps (Meets-IsFeasibleWalk conditions flight.request flight.steps c.requires.met)

pub returns-in_err-put_in-clause-ready : goal.returns-in_err-put_in-clause-ready
returns-in_err-put_in-clause-ready c =
    ready-by c.args.airport.now c.put_in.new.self c.args.known.now (state_of c.args.held.now) c.in_err-put_in.ensures.err c.requires.ready.is_sound c.requires.ready.can_go_on c.requires.ready.are_known c.put_in.ensures.spans

pub cut_out-requires-clause-sound : goal.cut_out-requires-clause-sound
cut_out-requires-clause-sound c =
    let airport = c.args.airport.now in
    subst (IsSound airport) (sym c.in_ok-put_in.ensures.ok) (IsSound-with_flight airport c.args.flight (state_of c.args.held.now) c.requires.ready.is_sound c.requires.few c.requires.absent c.requires.met)

pub cut_out-requires-clause-in_force : goal.cut_out-requires-clause-in_force
cut_out-requires-clause-in_force c =
    let flight = c.args.flight in
    let there = with-there (state_of c.args.held.now) flight c.requires.absent in
    subst (λ (s : State). IsSome (flight_named flight.name s.flights)) (sym c.in_ok-put_in.ensures.ok) (rw there refl)

pub returns-clause-ready : goal.returns-clause-ready
returns-clause-ready c =
    let airport = c.args.airport.now in
    let state = state_of c.args.held.now in
    let flight = c.args.flight in
    let is = c.in_ok-put_in.ensures.ok in
    let there = with-there state flight c.requires.absent in
    ready-by airport c.put_in.new.self c.cut_out.new.known (with_flight flight state) is
    (IsSound-with_flight airport flight state c.requires.ready.is_sound c.requires.few c.requires.absent c.requires.met)
    (go_on-with airport flight state.flights c.requires.goes_on c.requires.ready.can_go_on)
    (c.cut_out.ensures flight (subst (λ (s : State). flight_named flight.name s.flights ≡ Some flight) (sym is) there) (holds_in airport state) (holds_in airport (with_flight flight state)) (more-with airport flight state) c.requires.ready.are_known)
    c.put_in.ensures.spans
