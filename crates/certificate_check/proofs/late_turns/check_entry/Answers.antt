use Rattle.std.proofs.Common.{◌≡◌, ◌∙◌, ◌≤◌, All, None, IsTrue, refl, sym, ap, subst}
use Rattle.std.proofs.lemmas.List.Elements.{All-contains}
use Rattle.taxi_base.specs.declared.answers.Flight.{Flight}
use Rattle.taxi_base.specs.Airport.{layout_of, arc_exists}
use Rattle.taxi_base.specs.State.{party_named}
use Rattle.taxi_base.specs.Late.{request_sought, steps_kept}
use Rattle.taxi_base.proofs.OtherHolds.{named-there}
use Rattle.replies.specs.declared.block.Block.TheVariants.{Route, NoRoute}
use Rattle.replies.specs.declared.entries.Entry.{Entry}
use Rattle.replies.specs.Repairs.{IsDroppedAsDue}
use Rattle.checked_state.specs.Flights.{state_of}
use Rattle.check_walks.specs.Told.{CanBeSought}
use Rattle.certificate_check.specs.declared.late_turn.AtTurn.{AtTurn}
use Rattle.certificate_check.specs.Desk.{CanGoOn}
use Rattle.certificate_check.specs.Late.{delay_in, sought_in, IsTurnChecked, IsEntryChecked}
use Rattle.certificate_check.proofs.DeskLaws.{flight-arcs}
use Rattle.certificate_check.proofs.AgainLaws.{flight-early}
use Rattle.certificate_check.proofs.LateSteps.{kept-arcs, kept-early}
use Rattle.certificate_check.proofs.LateTurn.{routed-there, turn-sought}
use Rattle.certificate_check.proofs.LateTurns.{route-checked}
use Rattle.certificate_check.proofs.late_turns.check_entry.Goals as goal

pub find_turn-requires-clause-in_force : goal.find_turn-requires-clause-in_force
find_turn-requires-clause-in_force c =
    let before = state_of c.args.before.now in
    let there = routed-there before c.args.told.0 (subst (λ (e : Entry). IsDroppedAsDue before (c.args.told.0, e)) c.in-Route.is c.requires.due) in
    rw there.1 refl

pub check_turn_route-requires-clause-sought : goal.check_turn_route-requires-clause-sought
check_turn_route-requires-clause-sought c =
    let airport = c.args.airport.now in
    let before = state_of c.args.before.now in
    let delay = delay_in c.args.late.now in
    let there = routed-there before c.args.told.0 (subst (λ (e : Entry). IsDroppedAsDue before (c.args.told.0, e)) c.in-Route.is c.requires.due) in
    let x = there.0 in
    let in_force = (named-there (λ (f : Flight). f.name) c.args.told.0 before.flights x there.1).0 in
    subst (λ (t : AtTurn). CanBeSought airport (request_sought t.request t.kept)) (sym (c.in_ok-turn-in-Route.ensures x there.1))
    (turn-sought airport before c.horizon.ensures.rules c.requires.sound x in_force (All-contains (λ f. CanGoOn airport f.request) before.flights x c.requires.can_go_on in_force) there.2 (steps_kept airport delay x))

pub check_turn_route-requires-clause-goes_on : goal.check_turn_route-requires-clause-goes_on
check_turn_route-requires-clause-goes_on c =
    let airport = c.args.airport.now in
    let before = state_of c.args.before.now in
    let there = routed-there before c.args.told.0 (subst (λ (e : Entry). IsDroppedAsDue before (c.args.told.0, e)) c.in-Route.is c.requires.due) in
    let x = there.0 in
    let in_force = (named-there (λ (f : Flight). f.name) c.args.told.0 before.flights x there.1).0 in
    subst (λ (t : AtTurn). CanGoOn airport t.request) (sym (c.in_ok-turn-in-Route.ensures x there.1)) (All-contains (λ f. CanGoOn airport f.request) before.flights x c.requires.can_go_on in_force)

pub check_turn_route-requires-clause-early : goal.check_turn_route-requires-clause-early
check_turn_route-requires-clause-early c =
    let airport = c.args.airport.now in
    let before = state_of c.args.before.now in
    let there = routed-there before c.args.told.0 (subst (λ (e : Entry). IsDroppedAsDue before (c.args.told.0, e)) c.in-Route.is c.requires.due) in
    let x = there.0 in
    subst (λ (t : AtTurn). All (λ step. step.enter ≤ 9999999) t.kept) (sym (c.in_ok-turn-in-Route.ensures x there.1))
    (kept-early airport (delay_in c.args.late.now) x (flight-early airport before c.horizon.ensures.rules c.requires.sound c.args.told.0 x there.1))

pub check_turn_route-requires-clause-alone : goal.check_turn_route-requires-clause-alone
check_turn_route-requires-clause-alone c =
    let before = state_of c.args.before.now in
    let there = routed-there before c.args.told.0 (subst (λ (e : Entry). IsDroppedAsDue before (c.args.told.0, e)) c.in-Route.is c.requires.due) in
    let x = there.0 in
    let in_force = (named-there (λ (f : Flight). f.name) c.args.told.0 before.flights x there.1).0 in
    subst (λ (t : AtTurn). party_named t.name (state_of c.args.held.now).parties ≡ None) (sym (c.in_ok-turn-in-Route.ensures x there.1))
    (All-contains (λ f. party_named f.name (state_of c.args.held.now).parties ≡ None) before.flights x c.requires.alone in_force)

pub returns-in_ok-turn-in-Route-clause-checked : goal.returns-in_ok-turn-in-Route-clause-checked
returns-in_ok-turn-in-Route-clause-checked c =
    let airport = c.args.airport.now in
    let before = state_of c.args.before.now in
    let delay = delay_in c.args.late.now in
    let now = state_of c.args.held.now in
    let new = state_of c.check_turn_route.new.held in
    let there = routed-there before c.args.told.0 (subst (λ (e : Entry). IsDroppedAsDue before (c.args.told.0, e)) c.in-Route.is c.requires.due) in
    let x = there.0 in
    let is = c.in_ok-turn-in-Route.ensures x there.1 in
    let named = ap (λ (t : AtTurn). t.name) is ∙ (named-there (λ (f : Flight). f.name) c.args.told.0 before.flights x there.1).1 in
    let checked = subst (λ n. IsTurnChecked (sought_in airport now c.in_ok-turn-in-Route.turn) (Route n c.in-Route.second c.in-Route.steps c.in-Route.labels) c.check_turn_route.result new) named
    c.check_turn_route.ensures.checked in
    subst (λ (e : Entry). IsEntryChecked airport before delay (c.args.told.0, e) now c.check_turn_route.result new) (sym c.in-Route.is)
    (route-checked airport before delay c.args.told.0 x now there.1 there.2 (Route c.args.told.0 c.in-Route.second c.in-Route.steps c.in-Route.labels) c.check_turn_route.result new
    (subst (λ (t : AtTurn). IsTurnChecked (sought_in airport now t) (Route c.args.told.0 c.in-Route.second c.in-Route.steps c.in-Route.labels) c.check_turn_route.result new) is checked))

pub find_turn-requires-in-NoRoute-clause-in_force : goal.find_turn-requires-in-NoRoute-clause-in_force
find_turn-requires-in-NoRoute-clause-in_force c =
    let before = state_of c.args.before.now in
    let there = routed-there before c.args.told.0 (subst (λ (e : Entry). IsDroppedAsDue before (c.args.told.0, e)) c.in-NoRoute.is c.requires.due) in
    rw there.1 refl

pub check_turn_without-requires-clause-sought : goal.check_turn_without-requires-clause-sought
check_turn_without-requires-clause-sought c =
    let airport = c.args.airport.now in
    let before = state_of c.args.before.now in
    let delay = delay_in c.args.late.now in
    let there = routed-there before c.args.told.0 (subst (λ (e : Entry). IsDroppedAsDue before (c.args.told.0, e)) c.in-NoRoute.is c.requires.due) in
    let x = there.0 in
    let in_force = (named-there (λ (f : Flight). f.name) c.args.told.0 before.flights x there.1).0 in
    subst (λ (t : AtTurn). CanBeSought airport (request_sought t.request t.kept)) (sym (c.in_ok-turn-in-NoRoute.ensures x there.1))
    (turn-sought airport before c.horizon.ensures.rules c.requires.sound x in_force (All-contains (λ f. CanGoOn airport f.request) before.flights x c.requires.can_go_on in_force) there.2 (steps_kept airport delay x))

pub check_turn_without-requires-clause-early : goal.check_turn_without-requires-clause-early
check_turn_without-requires-clause-early c =
    let airport = c.args.airport.now in
    let before = state_of c.args.before.now in
    let there = routed-there before c.args.told.0 (subst (λ (e : Entry). IsDroppedAsDue before (c.args.told.0, e)) c.in-NoRoute.is c.requires.due) in
    let x = there.0 in
    subst (λ (t : AtTurn). All (λ step. step.enter ≤ 9999999) t.kept) (sym (c.in_ok-turn-in-NoRoute.ensures x there.1))
    (kept-early airport (delay_in c.args.late.now) x (flight-early airport before c.horizon.ensures.rules c.requires.sound c.args.told.0 x there.1))

pub check_turn_without-requires-clause-arcs : goal.check_turn_without-requires-clause-arcs
check_turn_without-requires-clause-arcs c =
    let airport = c.args.airport.now in
    let before = state_of c.args.before.now in
    let there = routed-there before c.args.told.0 (subst (λ (e : Entry). IsDroppedAsDue before (c.args.told.0, e)) c.in-NoRoute.is c.requires.due) in
    let x = there.0 in
    subst (λ (t : AtTurn). All (λ step. IsTrue (arc_exists (layout_of airport) step.arc)) t.kept) (sym (c.in_ok-turn-in-NoRoute.ensures x there.1))
    (kept-arcs airport (delay_in c.args.late.now) x (flight-arcs airport before c.requires.sound c.args.told.0 x there.1))

pub check_turn_without-requires-clause-alone : goal.check_turn_without-requires-clause-alone
check_turn_without-requires-clause-alone c =
    let before = state_of c.args.before.now in
    let there = routed-there before c.args.told.0 (subst (λ (e : Entry). IsDroppedAsDue before (c.args.told.0, e)) c.in-NoRoute.is c.requires.due) in
    let x = there.0 in
    let in_force = (named-there (λ (f : Flight). f.name) c.args.told.0 before.flights x there.1).0 in
    subst (λ (t : AtTurn). party_named t.name (state_of c.args.held.now).parties ≡ None) (sym (c.in_ok-turn-in-NoRoute.ensures x there.1))
    (All-contains (λ f. party_named f.name (state_of c.args.held.now).parties ≡ None) before.flights x c.requires.alone in_force)

pub returns-in_ok-turn-in-NoRoute-clause-checked : goal.returns-in_ok-turn-in-NoRoute-clause-checked
returns-in_ok-turn-in-NoRoute-clause-checked c =
    let airport = c.args.airport.now in
    let before = state_of c.args.before.now in
    let delay = delay_in c.args.late.now in
    let now = state_of c.args.held.now in
    let new = state_of c.check_turn_without.new.held in
    let there = routed-there before c.args.told.0 (subst (λ (e : Entry). IsDroppedAsDue before (c.args.told.0, e)) c.in-NoRoute.is c.requires.due) in
    let x = there.0 in
    let is = c.in_ok-turn-in-NoRoute.ensures x there.1 in
    subst (λ (e : Entry). IsEntryChecked airport before delay (c.args.told.0, e) now c.check_turn_without.result new) (sym c.in-NoRoute.is)
    (route-checked airport before delay c.args.told.0 x now there.1 there.2 (NoRoute c.in-NoRoute.labels) c.check_turn_without.result new
    (subst (λ (t : AtTurn). IsTurnChecked (sought_in airport now t) (NoRoute c.in-NoRoute.labels) c.check_turn_without.result new) is
    (rw c.as_slice.ensures at c.check_turn_without.ensures.checked)))
