use Rattle.std.proofs.Common.{◌≡◌, ◌∙◌, List, sym, subst}
use Rattle.taxi_base.specs.declared.rows.Step.{Step}
use Rattle.taxi_base.specs.declared.answers.Flight.{Flight}
use Rattle.taxi_base.specs.Airport.{clearance_of}
use Rattle.taxi_base.specs.Windows.{holds_of}
use Rattle.taxi_base.specs.State.{flight_holds}
use Rattle.check_rows.specs.Known.{HaveMore}
use Rattle.checked_state.specs.Flights.{state_of}
use Rattle.checked_state.proofs.FlightLaws.{copied-flight}
use Rattle.certificate_check.proofs.DeskLaws.{flight-arcs}
use Rattle.certificate_check.proofs.AgainLaws.{one-flight}
use Rattle.certificate_check.proofs.again.cut_out.Goals as goal

pub cut-requires-clause-arcs : goal.cut-requires-clause-arcs
cut-requires-clause-arcs c =
    let found = sym c.flight.ensures ∙ copied-flight c.flight.result c.unwrap-flight.result c.unwrap-flight.ensures in
    rw c.as_slice.ensures (flight-arcs c.args.airport.now (state_of c.args.held.now) c.requires.sound c.args.name.now c.unwrap-flight.result.now found)

pub returns : goal.returns
returns c flight there holds others more are =
    let f = c.unwrap-flight.result.now in
    let found = sym c.flight.ensures ∙ copied-flight c.flight.result c.unwrap-flight.result c.unwrap-flight.ensures in
    let is : flight ≡ f = one-flight c.args.name.now (state_of c.args.held.now).flights flight f there found in
    let its = subst (λ (g : Flight). HaveMore (flight_holds c.args.airport.now g) holds others) is more in
    let with_steps = subst (λ (l : List Step). HaveMore (holds_of c.args.airport.now.horizon (clearance_of c.args.airport.now f.class) l) holds others) (sym c.as_slice.ensures) its in
    c.cut.ensures holds others (subst (λ n. HaveMore (holds_of c.args.airport.now.horizon n c.as_slice.result.now) holds others) (sym c.clearance-clearance.ensures.clearance) with_steps) are
