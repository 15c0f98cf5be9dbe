use Rattle.std.proofs.Common.{◌∙◌, sym}
use Rattle.taxi_base.specs.State.{conditions_of}
use Rattle.checked_state.specs.Flights.{state_of}
use Rattle.check_walks.proofs.StepLaws.{walk-some}
use Rattle.checked_state.proofs.FlightLaws.{copied-flight}
use Rattle.certificate_check.proofs.DeskLaws.{flight-walk}
use Rattle.certificate_check.proofs.GoOnLaws.{go_on-named}
use Rattle.certificate_check.proofs.AnewLaws.{goes-sought, routed-first, own-meant, reroute-none, reroute-sought}
use Rattle.certificate_check.proofs.anew.rerouted.Goals as goal

pub reroute_refused-requires : goal.reroute_refused-requires
reroute_refused-requires c =
    let airport = c.args.airport.now in
    let state = state_of c.args.held.now in
    let name = c.args.name.now in
    let f = c.in-Some.flight.now in
    let found = sym c.flight.ensures ∙ copied-flight c.flight.result c.in-Some.flight c.in-Some.is in
    walk-some (conditions_of airport state f) f.steps (flight-walk airport state c.requires.sound name f found)

pub returns-clause-ok : goal.returns-clause-ok
returns-clause-ok c =
    let airport = c.args.airport.now in
    let state = state_of c.args.held.now in
    let name = c.args.name.now in
    let f = c.in-Some.flight.now in
    let found = sym c.flight.ensures ∙ copied-flight c.flight.result c.in-Some.flight c.in-Some.is in
    let none = sym c.reroute_refused.ensures ∙ c.in_default-reroute_refused.is in
    record {
      unrefused = reroute-none airport state c.requires.sound name f found c.args.time none;
      flight = f;
      in_force = found;
      sought = reroute-sought airport state c.requires.sound name f found c.args.time;
      can = goes-sought airport f.request (go_on-named airport name state.flights f found c.requires.can_go_on) (routed-first f _ none);
      meant = own-meant airport state c.requires.sound name f found c.args.time;
    }
