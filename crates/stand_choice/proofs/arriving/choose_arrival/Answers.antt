use Rattle.std.proofs.Common.{◌≡◌, ℕ, ◌∙◌, ap, subst}
use Rattle.std.specs.Prelude.{Contains}
use Rattle.taxi_base.specs.declared.numbers.Node.{Node}
use Rattle.taxi_base.specs.declared.answers.Found.{Found}
use Rattle.taxi_base.specs.declared.answers.Found.TheVariants.{Route}
use Rattle.taxi_base.specs.Airport.{layout_of}
use Rattle.taxi_base.specs.Walks.{Conditions, conditions_of_class, end_of}
use Rattle.taxi_base.specs.Labels.{AnswersArrival}
use Rattle.taxi_base.specs.Choices.{AnswersArrivalToOneOf}
use Rattle.walk_labels.specs.Requests.{BeginsBy}
use Rattle.place_cells.specs.Laid.{windows_of}
use Rattle.forward_search.specs.Arrivals.{beginning_of}
use Rattle.forward_search.specs.Reached.{LeadsTo}
use Rattle.stand_choice.specs.Ways.{IsFirstByName, IsReachedAt}
use Rattle.stand_choice.proofs.EndNodes.{end-exists}
use Rattle.stand_choice.proofs.ArrivalWays.{way-among, way-is, way-none_earlier, way-chosen}
use Rattle.stand_choice.proofs.arriving.choose_arrival.Goals as goal

pub way_of-best-requires : goal.way_of-best-requires
way_of-best-requires c =
    let k : Conditions = conditions_of_class c.args.airport.now c.args.class (windows_of c.args.store.now) in
    let any = subst (AnswersArrivalToOneOf k (BeginsBy (layout_of c.args.airport.now) (beginning_of c.args.start 0)) c.args.to.now) c.in-Route.is (c.in_ok-found.ensures.any 0) in
    end-exists (layout_of k.airport) c.args.to.now c.in-Route.steps any.0.one.ends

pub first_by_name-requires-clause-named : goal.first_by_name-requires-clause-named
first_by_name-requires-clause-named c =
    let k : Conditions = conditions_of_class c.args.airport.now c.args.class (windows_of c.args.store.now) in
    let Begins = BeginsBy (layout_of c.args.airport.now) (beginning_of c.args.start 0) in
    let any = subst (AnswersArrivalToOneOf k Begins c.args.to.now) c.in-Route.is (c.in_ok-found.ensures.any 0) in
    let last : (node : Node) → Contains c.args.to.now node → LeadsTo (layout_of k.airport) node (Route c.in-Route.steps c.in-Route.labels) → AnswersArrival k Begins node (Route c.in-Route.steps c.in-Route.labels) =
    λ node there. subst (λ (f : Found). LeadsTo (layout_of k.airport) node f → AnswersArrival k Begins node f) c.in-Route.is (c.in_ok-found.ensures.last 0 node there) in
    way-among k Begins c.args.to.now c.in-Route.steps c.in-Route.labels any last c.way_of-best.result c.way_of-best.ensures.steps c.way_of-best.ensures.reached

pub first_by_name-requires-clause-way : goal.first_by_name-requires-clause-way
first_by_name-requires-clause-way c =
    let k : Conditions = conditions_of_class c.args.airport.now c.args.class (windows_of c.args.store.now) in
    let Begins = BeginsBy (layout_of c.args.airport.now) (beginning_of c.args.start 0) in
    let any = subst (AnswersArrivalToOneOf k Begins c.args.to.now) c.in-Route.is (c.in_ok-found.ensures.any 0) in
    let last : (node : Node) → Contains c.args.to.now node → LeadsTo (layout_of k.airport) node (Route c.in-Route.steps c.in-Route.labels) → AnswersArrival k Begins node (Route c.in-Route.steps c.in-Route.labels) =
    λ node there. subst (λ (f : Found). LeadsTo (layout_of k.airport) node f → AnswersArrival k Begins node f) c.in-Route.is (c.in_ok-found.ensures.last 0 node there) in
    way-is k Begins c.args.to.now c.in-Route.steps c.in-Route.labels any last c.way_of-best.result c.way_of-best.ensures.steps c.way_of-best.ensures.reached

pub first_by_name-requires-clause-none_earlier : goal.first_by_name-requires-clause-none_earlier
first_by_name-requires-clause-none_earlier c =
    let k : Conditions = conditions_of_class c.args.airport.now c.args.class (windows_of c.args.store.now) in
    let Begins = BeginsBy (layout_of c.args.airport.now) (beginning_of c.args.start 0) in
    let any = subst (AnswersArrivalToOneOf k Begins c.args.to.now) c.in-Route.is (c.in_ok-found.ensures.any 0) in
    let last : (node : Node) → Contains c.args.to.now node → LeadsTo (layout_of k.airport) node (Route c.in-Route.steps c.in-Route.labels) → AnswersArrival k Begins node (Route c.in-Route.steps c.in-Route.labels) =
    λ node there. subst (λ (f : Found). LeadsTo (layout_of k.airport) node f → AnswersArrival k Begins node f) c.in-Route.is (c.in_ok-found.ensures.last 0 node there) in
    way-none_earlier k Begins c.args.to.now c.in-Route.steps c.in-Route.labels any last c.way_of-best.result c.way_of-best.ensures.steps c.way_of-best.ensures.reached

pub returns-in-NoRoute : goal.returns-in-NoRoute
returns-in-NoRoute c =
    let k : Conditions = conditions_of_class c.args.airport.now c.args.class (windows_of c.args.store.now) in
    subst (AnswersArrivalToOneOf k (BeginsBy (layout_of c.args.airport.now) (beginning_of c.args.start 0)) c.args.to.now) c.in-NoRoute.is (c.in_ok-found.ensures.any 0)

pub returns-in_ok-way-in-Route : goal.returns-in_ok-way-in-Route
returns-in_ok-way-in-Route c =
    let k : Conditions = conditions_of_class c.args.airport.now c.args.class (windows_of c.args.store.now) in
    let Begins = BeginsBy (layout_of c.args.airport.now) (beginning_of c.args.start 0) in
    let any : AnswersArrivalToOneOf k Begins c.args.to.now (Route c.in-Route.steps c.in-Route.labels) = subst (AnswersArrivalToOneOf k Begins c.args.to.now) c.in-Route.is (c.in_ok-found.ensures.any 0) in
    let same : end_of c.way_of-best.result.steps ≡ end_of c.in-Route.steps = ap end_of c.way_of-best.ensures.steps in
    way-chosen k Begins c.args.to.now c.in-Route.steps c.in-Route.labels c.in_ok-way-in-Route.way any
    (subst (λ (n : ℕ). IsFirstByName c.args.airport.now c.args.to.now (IsReachedAt k Begins n) c.in_ok-way-in-Route.way.to) same c.in_ok-way-in-Route.ensures.first)
    c.in_ok-way-in-Route.ensures.way (c.in_ok-way-in-Route.ensures.as_early ∙ same)
