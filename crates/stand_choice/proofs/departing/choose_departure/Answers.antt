use Rattle.std.proofs.Common.{ℕ, get_or, refl, sym, ◌∙◌, ap, subst}
use Rattle.taxi_base.specs.declared.answers.Found.TheVariants.{Route}
use Rattle.taxi_base.specs.Airport.{layout_of}
use Rattle.taxi_base.specs.Walks.{Conditions, conditions_of_class, begin_of}
use Rattle.taxi_base.specs.Labels.{AnswersDeparture}
use Rattle.taxi_base.specs.Choices.{ReachesOneOfWithin}
use Rattle.place_cells.specs.Laid.{windows_of}
use Rattle.stand_choice.specs.Ways.{IsFirstByName, IsLeftForAt}
use Rattle.stand_choice.proofs.FirstNames.{alone}
use Rattle.stand_choice.proofs.EndNodes.{within-one}
use Rattle.stand_choice.proofs.DepartureWays.{found-read, left-among, left-for, left-chosen, alone-chosen}
use Rattle.stand_choice.proofs.departing.choose_departure.Goals as goal

pub returns-then-to-eq1 : goal.returns-then-to-eq1
returns-then-to-eq1 c =
    let k : Conditions = conditions_of_class c.args.airport.now c.args.departure.class (windows_of c.args.store.now) in
    let any : AnswersDeparture k c.args.departure.from (ReachesOneOfWithin (layout_of k.airport) c.args.to.now c.args.departure.earliest_out c.args.departure.latest_out) (Route c.in-Route.steps c.in-Route.labels) =
    found-read k c.args.departure.from c.args.departure.earliest_out c.args.departure.latest_out c.args.to.now c.args.to.now c.in_ok-found.found (Route c.in-Route.steps c.in-Route.labels) refl c.in-Route.is c.in_ok-found.ensures in
    alone-chosen k c.args.departure.from c.args.departure.earliest_out c.args.departure.latest_out c.args.to.now (get_or c.args.to.now 0 (record { 0 = 0 })) c.in-Route.steps c.in-Route.labels (alone c.args.to.now (record { 0 = 0 }) c.if-to-eq1.true) any

pub node_at_end-node-requires : goal.node_at_end-node-requires
node_at_end-node-requires c =
    let k : Conditions = conditions_of_class c.args.airport.now c.args.departure.class (windows_of c.args.store.now) in
    let any : AnswersDeparture k c.args.departure.from (ReachesOneOfWithin (layout_of k.airport) c.args.to.now c.args.departure.earliest_out c.args.departure.latest_out) (Route c.in-Route.steps c.in-Route.labels) =
    found-read k c.args.departure.from c.args.departure.earliest_out c.args.departure.latest_out c.args.to.now c.args.to.now c.in_ok-found.found (Route c.in-Route.steps c.in-Route.labels) refl c.in-Route.is c.in_ok-found.ensures in
    rw c.as_slice-in-Route.ensures (within-one (layout_of k.airport) c.args.to.now c.args.departure.earliest_out c.args.departure.latest_out c.in-Route.steps any.0.one.ends)

pub first_by_name-requires-clause-named : goal.first_by_name-requires-clause-named
first_by_name-requires-clause-named c =
    let k : Conditions = conditions_of_class c.args.airport.now c.args.departure.class (windows_of c.args.store.now) in
    let any : AnswersDeparture k c.args.departure.from (ReachesOneOfWithin (layout_of k.airport) c.args.to.now c.args.departure.earliest_out c.args.departure.latest_out) (Route c.in-Route.steps c.in-Route.labels) =
    found-read k c.args.departure.from c.args.departure.earliest_out c.args.departure.latest_out c.args.to.now c.args.to.now c.in_ok-found.found (Route c.in-Route.steps c.in-Route.labels) refl c.in-Route.is c.in_ok-found.ensures in
    left-among k c.args.departure.from c.args.departure.earliest_out c.args.departure.latest_out c.args.to.now c.in-Route.steps c.in-Route.labels any c.node_at_end-node.result (rw c.as_slice-in-Route.ensures at c.node_at_end-node.ensures.reached)

pub first_by_name-requires-clause-left : goal.first_by_name-requires-clause-left
first_by_name-requires-clause-left c =
    let k : Conditions = conditions_of_class c.args.airport.now c.args.departure.class (windows_of c.args.store.now) in
    let any : AnswersDeparture k c.args.departure.from (ReachesOneOfWithin (layout_of k.airport) c.args.to.now c.args.departure.earliest_out c.args.departure.latest_out) (Route c.in-Route.steps c.in-Route.labels) =
    found-read k c.args.departure.from c.args.departure.earliest_out c.args.departure.latest_out c.args.to.now c.args.to.now c.in_ok-found.found (Route c.in-Route.steps c.in-Route.labels) refl c.in-Route.is c.in_ok-found.ensures in
    subst (λ (n : ℕ). IsLeftForAt k c.args.departure.from c.args.departure.earliest_out c.args.departure.latest_out n c.node_at_end-node.result) (sym (c.begin_of-begin.ensures ∙ ap begin_of c.as_slice.ensures))
    (left-for k c.args.departure.from c.args.departure.earliest_out c.args.departure.latest_out c.args.to.now c.in-Route.steps c.in-Route.labels any c.node_at_end-node.result (rw c.as_slice-in-Route.ensures at c.node_at_end-node.ensures.reached))

pub returns-in_ok-steps-in-Route : goal.returns-in_ok-steps-in-Route
returns-in_ok-steps-in-Route c =
    let k : Conditions = conditions_of_class c.args.airport.now c.args.departure.class (windows_of c.args.store.now) in
    let any : AnswersDeparture k c.args.departure.from (ReachesOneOfWithin (layout_of k.airport) c.args.to.now c.args.departure.earliest_out c.args.departure.latest_out) (Route c.in-Route.steps c.in-Route.labels) =
    found-read k c.args.departure.from c.args.departure.earliest_out c.args.departure.latest_out c.args.to.now c.args.to.now c.in_ok-found.found (Route c.in-Route.steps c.in-Route.labels) refl c.in-Route.is c.in_ok-found.ensures in
    left-chosen k c.args.departure.from c.args.departure.earliest_out c.args.departure.latest_out c.args.to.now c.in-Route.steps c.in_ok-steps-in-Route.steps c.in-Route.labels c.in_ok-to-in-Route.to any
    (subst (λ (n : ℕ). IsFirstByName c.args.airport.now c.args.to.now (IsLeftForAt k c.args.departure.from c.args.departure.earliest_out c.args.departure.latest_out n) c.in_ok-to-in-Route.to) (c.begin_of-begin.ensures ∙ ap begin_of c.as_slice.ensures) c.in_ok-to-in-Route.ensures)
    c.in_ok-steps-in-Route.ensures.best c.in_ok-steps-in-Route.ensures.picked
