use Rattle.std.proofs.Common.{◌≡◌, ◌∙◌, Some, refl, sym, ap, subst}
use Rattle.std.specs.Prelude.{All}
use Rattle.taxi_base.specs.Walks.{Meets}
use Rattle.taxi_base.specs.State.{State, without, with_route, flight_named, flights_without, conditions_of, IsSound}
use Rattle.replies.specs.declared.block.Block.{Block}
use Rattle.replies.specs.declared.block.Block.TheVariants.{Route}
use Rattle.replies.specs.Sought.{sought_again}
use Rattle.checked_state.specs.Flights.{state_of}
use Rattle.due_refusals.specs.KnownIn.{AreKnownIn}
use Rattle.certificate_check.specs.Desk.{CanGoOn}
use Rattle.certificate_check.specs.Again.{IsFoundAmong}
use Rattle.certificate_check.proofs.JudgedLaws.{told-found, told-passed}
use Rattle.certificate_check.proofs.GoOnLaws.{go_on-with, go_on-without, sought-goes_on}
use Rattle.certificate_check.proofs.RoutedLaws.{told-walk}
use Rattle.certificate_check.proofs.AgainLaws.{again-seeks, never-ok, ok-there, some-there, again-sound}
use Rattle.certificate_check.proofs.again.check_other_route.Goals as goal

pub route_among-told-requires-clause-known : goal.route_among-told-requires-clause-known
route_among-told-requires-clause-known c =
    subst (λ (s : State). AreKnownIn c.args.airport.now (without c.args.anew.now.name.now s) c.lift.new.known) (sym c.lift.ensures.state) c.lift.ensures.known

pub returns-then-is_err-clause-told : goal.returns-then-is_err-clause-told
returns-then-is_err-clause-told c flight found =
    let airport = c.args.airport.now in
    let state = state_of c.args.held.now in
    let anew = c.args.anew.now in
    let route = c.args.route in
    let name = anew.name.now in
    let lifted = c.lift.ensures.state in
    let block : Block = Route name route.second route.steps route.labels in
    let s = sought_again airport state name anew.time anew.may_be_none flight anew.request in
    let told = rw (c.as_told.ensures.second, c.as_told.ensures.steps, c.as_told.ensures.labels) at c.route_among-told.ensures.found in
    let here = subst (λ (st : State). IsFoundAmong airport st name anew.time anew.request block c.route_among-told.result) lifted told in
    told-found s block refl state (state_of c.lower.new.held) c.route_among-told.result (here flight found s (again-seeks airport state name anew.time anew.may_be_none flight anew.request))
    (c.lower.ensures.state ∙ lifted) (λ done is. absurd (never-ok c.route_among-told.result (sym c.is_err.ensures.value ∙ c.if-is_err.true) done is))

pub put_on-requires-clause-met : goal.put_on-requires-clause-met
put_on-requires-clause-met c flight there_now =
    let airport = c.args.airport.now in
    let state = state_of c.args.held.now in
    let anew = c.args.anew.now in
    let route = c.args.route in
    let name = anew.name.now in
    let lifted = c.lift.ensures.state in
    let block : Block = Route name route.second route.steps route.labels in
    let found = subst (λ (st : State). flight_named name st.flights ≡ Some flight) lifted there_now in
    let s = sought_again airport state name anew.time anew.may_be_none flight anew.request in
    let told = rw (c.as_told.ensures.second, c.as_told.ensures.steps, c.as_told.ensures.labels) at c.route_among-told.ensures.found in
    let here = subst (λ (st : State). IsFoundAmong airport st name anew.time anew.request block c.route_among-told.result) lifted told in
    let passed = ok-there c.route_among-told.result (sym c.is_err.ensures.value ∙ c.if-is_err.false) in
    let all = rw passed at (here flight found s (again-seeks airport state name anew.time anew.may_be_none flight anew.request)) in
    let walk = told-walk s name route.second route.steps route.labels all in
    subst (λ (st : State). Meets (conditions_of airport st flight) anew.request route.steps) (sym lifted) (c.requires.meant flight found route.steps walk)

pub returns-clause-told : goal.returns-clause-told
returns-clause-told c flight found =
    let airport = c.args.airport.now in
    let state = state_of c.args.held.now in
    let anew = c.args.anew.now in
    let route = c.args.route in
    let name = anew.name.now in
    let lifted = c.lift.ensures.state in
    let block : Block = Route name route.second route.steps route.labels in
    let s = sought_again airport state name anew.time anew.may_be_none flight anew.request in
    let told = rw (c.as_told.ensures.second, c.as_told.ensures.steps, c.as_told.ensures.labels) at c.route_among-told.ensures.found in
    let here = subst (λ (st : State). IsFoundAmong airport st name anew.time anew.request block c.route_among-told.result) lifted told in
    let passed = ok-there c.route_among-told.result (sym c.is_err.ensures.value ∙ c.if-is_err.false) in
    let all = rw passed at (here flight found s (again-seeks airport state name anew.time anew.may_be_none flight anew.request)) in
    let there = subst (λ (st : State). flight_named name st.flights ≡ Some flight) (sym lifted) found in
    told-passed s block refl all state (state_of c.put_on.new.held) (c.in_ok-put_on.ensures.ok flight there ∙ ap (with_route flight anew.request route.steps) lifted)

pub returns-clause-ready : goal.returns-clause-ready
returns-clause-ready c =
    let airport = c.args.airport.now in
    let state = state_of c.args.held.now in
    let anew = c.args.anew.now in
    let route = c.args.route in
    let name = anew.name.now in
    let lifted = c.lift.ensures.state in
    let block : Block = Route name route.second route.steps route.labels in
    let some = some-there (flight_named name state.flights) c.requires.in_force in
    let flight = some.0 in
    let found = some.1 in
    let s = sought_again airport state name anew.time anew.may_be_none flight anew.request in
    let told = rw (c.as_told.ensures.second, c.as_told.ensures.steps, c.as_told.ensures.labels) at c.route_among-told.ensures.found in
    let here = subst (λ (st : State). IsFoundAmong airport st name anew.time anew.request block c.route_among-told.result) lifted told in
    let passed = ok-there c.route_among-told.result (sym c.is_err.ensures.value ∙ c.if-is_err.false) in
    let all = rw passed at (here flight found s (again-seeks airport state name anew.time anew.may_be_none flight anew.request)) in
    let there = subst (λ (st : State). flight_named name st.flights ≡ Some flight) (sym lifted) found in
    let met = c.requires.meant flight found route.steps (told-walk s name route.second route.steps route.labels all) in
    let after = c.in_ok-put_on.ensures.ok flight there ∙ ap (with_route flight anew.request route.steps) lifted in
    record {
      is_sound = subst (IsSound airport) (sym after) (again-sound airport state state refl c.requires.ready.is_sound name flight found anew.request route.steps met);
      has_spans = c.put_on.ensures.spans;
      can_go_on = subst (λ (st : State). All (λ f. CanGoOn airport f.request) st.flights) (sym after)
          (go_on-with airport (record flight { request = anew.request; steps = route.steps }) (flights_without flight.name state.flights) (sought-goes_on airport anew.request c.requires.sought)
          (go_on-without airport flight.name state.flights c.requires.ready.can_go_on));
      are_known = c.put_on.ensures.known;
    }
