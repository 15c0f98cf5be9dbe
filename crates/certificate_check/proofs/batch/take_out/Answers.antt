use Rattle.std.proofs.Common.{◌∙◌, List, sym, ap, subst}
use Rattle.std.specs.Prelude.{option_copied}
use Rattle.taxi_base.specs.declared.rows.Step.{Step}
use Rattle.taxi_base.specs.State.{holds_in, without}
use Rattle.taxi_base.proofs.StateLaws.{IsSound-without}
use Rattle.check_rows.specs.Known.{DifferOn}
use Rattle.checked_state.specs.Flights.{state_of}
use Rattle.checked_state.proofs.FlightLaws.{copied-flight}
use Rattle.due_refusals.proofs.HeldLaws.{differ-without}
use Rattle.certificate_check.proofs.DeskLaws.{flight-arcs, flight-alone}
use Rattle.certificate_check.proofs.GoOnLaws.{go_on-without}
use Rattle.certificate_check.proofs.RoutedLaws.{ready-by}
use Rattle.certificate_check.proofs.BatchState.{without-flight, without-nobody}
use Rattle.certificate_check.proofs.batch.take_out.Goals as goal

pub forget-requires : goal.forget-requires
forget-requires c =
    let found = sym c.flight.ensures ∙ copied-flight c.flight.result c.in-Some.flight c.in-Some.is in
    rw c.as_slice.ensures (flight-arcs c.args.airport.now (state_of c.args.held.now) c.requires.is_sound c.args.name.now c.in-Some.flight.now found)

pub take_out-requires-clause-alone : goal.take_out-requires-clause-alone
take_out-requires-clause-alone c =
    let found = sym c.flight.ensures ∙ copied-flight c.flight.result c.in-Some.flight c.in-Some.is in
    flight-alone c.args.airport.now (state_of c.args.held.now) c.requires.is_sound c.args.name.now c.in-Some.flight.now found

pub returns-in-Some-clause-state : goal.returns-in-Some-clause-state
returns-in-Some-clause-state c =
    let state = state_of c.args.held.now in
    let found = sym c.flight.ensures ∙ copied-flight c.flight.result c.in-Some.flight c.in-Some.is in
    c.take_out.ensures.state ∙ without-flight c.args.name.now state (flight-alone c.args.airport.now state c.requires.is_sound c.args.name.now c.in-Some.flight.now found)

pub returns-in-Some-clause-ready : goal.returns-in-Some-clause-ready
returns-in-Some-clause-ready c =
    let airport = c.args.airport.now in
    let state = state_of c.args.held.now in
    let name = c.args.name.now in
    let flight = c.in-Some.flight.now in
    let found = sym c.flight.ensures ∙ copied-flight c.flight.result c.in-Some.flight c.in-Some.is in
    let differ = subst (λ (steps : List Step). DifferOn steps (holds_in airport state) (holds_in airport (without name state))) (sym c.as_slice.ensures)
    (differ-without airport flight state name c.requires.is_sound.feasible.ordered (flight-alone airport state c.requires.is_sound name flight found) found) in
    ready-by airport c.take_out.new.self c.forget.new.self (without name state) c.take_out.ensures.state (IsSound-without airport name state c.requires.is_sound)
    (go_on-without airport name state.flights c.requires.can_go_on) (c.forget.ensures (holds_in airport state) (holds_in airport (without name state)) differ c.requires.are_known)
    c.take_out.ensures.spans

pub returns-in_default-clause-state : goal.returns-in_default-clause-state
returns-in_default-clause-state c = sym (without-nobody c.args.name.now (state_of c.args.held.now) (sym c.flight.ensures ∙ ap option_copied c.in_default.is))
