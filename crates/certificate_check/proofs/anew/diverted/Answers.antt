use Rattle.std.proofs.Common.{◌∙◌, sym}
use Rattle.taxi_base.specs.State.{conditions_of}
use Rattle.taxi_base.proofs.AirportLaws.{node_named-exists}
use Rattle.checked_state.specs.Flights.{state_of}
use Rattle.check_walks.proofs.StepLaws.{walk-some}
use Rattle.checked_state.proofs.FlightLaws.{copied-flight}
use Rattle.certificate_check.proofs.DeskLaws.{flight-walk}
use Rattle.certificate_check.proofs.GoOnLaws.{go_on-named}
use Rattle.certificate_check.proofs.AnewLaws.{retargeted-sought, routed-first, arrival-second, other-meant, divert-none, divert-sought}
use Rattle.certificate_check.proofs.anew.diverted.Goals as goal

pub is_stand-requires : goal.is_stand-requires
is_stand-requires c = node_named-exists c.args.airport.now c.args.node.now c.in-Some.target (sym c.node_named.ensures ∙ c.in-Some.is)

pub divert_refused-requires : goal.divert_refused-requires
divert_refused-requires c =
    let airport = c.args.airport.now in
    let state = state_of c.args.held.now in
    let name = c.args.name.now in
    let f = c.in-Some-flight.flight.now in
    let found = sym c.flight.ensures ∙ copied-flight c.flight.result c.in-Some-flight.flight c.in-Some-flight.is in
    walk-some (conditions_of airport state f) f.steps (flight-walk airport state c.requires.sound name f found)

pub returns-clause-ok : goal.returns-clause-ok
returns-clause-ok c =
    let airport = c.args.airport.now in
    let state = state_of c.args.held.now in
    let name = c.args.name.now in
    let f = c.in-Some-flight.flight.now in
    let found = sym c.flight.ensures ∙ copied-flight c.flight.result c.in-Some-flight.flight c.in-Some-flight.is in
    let target = c.in-Some.target in
    let named = sym c.node_named.ensures ∙ c.in-Some.is in
    let none = sym c.divert_refused.ensures ∙ c.in_default-divert_refused.is in
    let stand = sym c.is_stand.ensures ∙ c.if-not-is_stand.false in
    rw c.retargeted.ensures
    (record {
      unrefused = divert-none airport state c.requires.sound name f found c.args.time c.args.node.now target named stand none;
      flight = f;
      in_force = found;
      sought = divert-sought airport state c.requires.sound name f found c.args.time c.args.node.now target named;
      can = retargeted-sought airport f.request target (go_on-named airport name state.flights f found c.requires.can_go_on) (routed-first f _ none) (arrival-second f _ none);
      meant = other-meant airport state c.requires.sound name f found c.args.time target;
    })
