use Rattle.std.proofs.Common.{◌≡◌, ℕ, ◌<◌, ◌≤◌, [], List, length, sym, ◌∙◌, ap, subst, arith}
use Rattle.std.specs.Prelude.{Contains}
use Rattle.std.proofs.lemmas.Bool.{eqb-true}
use Rattle.std.proofs.lemmas.Result.{IfOk-weaker}
use Rattle.taxi_base.specs.declared.numbers.Node.{Node}
use Rattle.taxi_base.specs.declared.answers.Found.{Found}
use Rattle.taxi_base.specs.declared.answers.Found.TheVariants.{Route, NoRoute}
use Rattle.taxi_base.specs.Airport.{layout_of}
use Rattle.taxi_base.specs.Walks.{Conditions, conditions_of_class, IsRoute, end_of}
use Rattle.taxi_base.specs.Labels.{AnswersArrival}
use Rattle.taxi_base.specs.Choices.{ReachesOneOf, AnswersArrivalToOneOf}
use Rattle.walk_labels.specs.Requests.{BeginsBy}
use Rattle.place_cells.specs.Laid.{windows_of}
use Rattle.forward_search.specs.Arrivals.{beginning_of}
use Rattle.forward_search.specs.Reached.{LeadsTo}
use Rattle.stand_choice.specs.declared.arriving.Way.{Way}
use Rattle.stand_choice.specs.Ways.{AreNodes, IsFirstByName, IsReachedAt, NoneEarlier}
use Rattle.stand_choice.proofs.FirstNames.{before-fewer, before-nodes, empty}
use Rattle.stand_choice.proofs.EndNodes.{end-exists}
use Rattle.stand_choice.proofs.ArrivalWays.{found-read, none-empty, way-is_first, way-before, as-early, way-among, way-is, way-none_earlier}
use Rattle.taxi_base.proofs.WalkLaws.{AtLast-some}
use Rattle.stand_choice.proofs.arriving.+first_by_name.Goals as goal

pub returns-then-is_empty-clause-first : goal.returns-then-is_empty-clause-first
returns-then-is_empty-clause-first t c =
    let k : Conditions = conditions_of_class c.args.airport.now c.args.class (windows_of c.args.store.now) in
    let Begins = BeginsBy (layout_of c.args.airport.now) (beginning_of c.args.start 0) in
    let before : List Node = c.in_ok-before.before.items in
    let long = eqb-true _ 0 (sym c.is_empty.ensures ∙ c.if-is_empty.true) in
    let none : before ≡ [] = empty before (omega (arith, long, c.in_ok-before.before.ok)) in
    way-is_first k Begins c.args.nodes.now before c.args.way c.in_ok-before.ensures c.requires.named c.requires.way
    (λ steps route _. none-empty k Begins steps (subst (λ (ns : List Node). IsRoute k Begins (ReachesOneOf (layout_of k.airport) ns) steps) none route))

pub returns-in_default-clause-first : goal.returns-in_default-clause-first
returns-in_default-clause-first t c =
    let k : Conditions = conditions_of_class c.args.airport.now c.args.class (windows_of c.args.store.now) in
    let Begins = BeginsBy (layout_of c.args.airport.now) (beginning_of c.args.start 0) in
    let before : List Node = c.in_ok-before.before.items in
    let any : AnswersArrivalToOneOf k Begins before (NoRoute c.in_default.field-0) =
    found-read k Begins c.deref.result.now before c.in_ok-found.found (NoRoute c.in_default.field-0) c.deref.ensures.value c.in_default.is (c.in_ok-found.ensures.any 0) in
    way-is_first k Begins c.args.nodes.now before c.args.way c.in_ok-before.ensures c.requires.named c.requires.way (λ steps route _. any.0 steps route)

pub end_of-requires-2 : goal.end_of-requires-2
end_of-requires-2 t c =
    let k : Conditions = conditions_of_class c.args.airport.now c.args.class (windows_of c.args.store.now) in
    let Begins = BeginsBy (layout_of c.args.airport.now) (beginning_of c.args.start 0) in
    let before : List Node = c.in_ok-before.before.items in
    let any : AnswersArrivalToOneOf k Begins before (Route c.in-Route.steps c.in-Route.labels) =
    found-read k Begins c.deref.result.now before c.in_ok-found.found (Route c.in-Route.steps c.in-Route.labels) c.deref.ensures.value c.in-Route.is (c.in_ok-found.ensures.any 0) in
    rw c.as_slice-2.ensures (AtLast-some (ReachesOneOf (layout_of k.airport) before) c.in-Route.steps any.0.one.ends)

pub returns-then-end_of-clause-first : goal.returns-then-end_of-clause-first
returns-then-end_of-clause-first t c =
    let k : Conditions = conditions_of_class c.args.airport.now c.args.class (windows_of c.args.store.now) in
    let Begins = BeginsBy (layout_of c.args.airport.now) (beginning_of c.args.start 0) in
    let before : List Node = c.in_ok-before.before.items in
    let any : AnswersArrivalToOneOf k Begins before (Route c.in-Route.steps c.in-Route.labels) =
    found-read k Begins c.deref.result.now before c.in_ok-found.found (Route c.in-Route.steps c.in-Route.labels) c.deref.ensures.value c.in-Route.is (c.in_ok-found.ensures.any 0) in
    let later : end_of c.args.way.steps < end_of c.in-Route.steps = rw (c.end_of.ensures, c.end_of-2.ensures, c.as_slice.ensures, c.as_slice-2.ensures) at c.if-end_of.true in
    way-is_first k Begins c.args.nodes.now before c.args.way c.in_ok-before.ensures c.requires.named c.requires.way
    (λ steps route at_end. absurd (omega (arith, later, at_end, any.0.earliest steps route)))

pub way_of-other-requires : goal.way_of-other-requires
way_of-other-requires t c =
    let k : Conditions = conditions_of_class c.args.airport.now c.args.class (windows_of c.args.store.now) in
    let Begins = BeginsBy (layout_of c.args.airport.now) (beginning_of c.args.start 0) in
    let before : List Node = c.in_ok-before.before.items in
    let any : AnswersArrivalToOneOf k Begins before (Route c.in-Route.steps c.in-Route.labels) =
    found-read k Begins c.deref.result.now before c.in_ok-found.found (Route c.in-Route.steps c.in-Route.labels) c.deref.ensures.value c.in-Route.is (c.in_ok-found.ensures.any 0) in
    end-exists (layout_of k.airport) before c.in-Route.steps any.0.one.ends

pub first_by_name-requires : goal.first_by_name-requires
first_by_name-requires t c =
    let k : Conditions = conditions_of_class c.args.airport.now c.args.class (windows_of c.args.store.now) in
    let Begins = BeginsBy (layout_of c.args.airport.now) (beginning_of c.args.start 0) in
    let before : List Node = c.in_ok-before.before.items in
    let any : AnswersArrivalToOneOf k Begins before (Route c.in-Route.steps c.in-Route.labels) =
    found-read k Begins c.deref.result.now before c.in_ok-found.found (Route c.in-Route.steps c.in-Route.labels) c.deref.ensures.value c.in-Route.is (c.in_ok-found.ensures.any 0) in
    let last : (node : Node) → Contains before node → LeadsTo (layout_of k.airport) node (Route c.in-Route.steps c.in-Route.labels) → AnswersArrival k Begins node (Route c.in-Route.steps c.in-Route.labels) =
    λ node there. subst (λ (f : Found). LeadsTo (layout_of k.airport) node f → AnswersArrival k Begins node f) c.in-Route.is
    (c.in_ok-found.ensures.last 0 node (subst (λ (ns : List Node). Contains ns node) (sym c.deref.ensures.value) there)) in
    let other : Way = c.way_of-other.result in
    let among = way-among k Begins before c.in-Route.steps c.in-Route.labels any last other c.way_of-other.ensures.steps c.way_of-other.ensures.reached in
    let is_way = way-is k Begins before c.in-Route.steps c.in-Route.labels any last other c.way_of-other.ensures.steps c.way_of-other.ensures.reached in
    let none_earlier = way-none_earlier k Begins before c.in-Route.steps c.in-Route.labels any last other c.way_of-other.ensures.steps c.way_of-other.ensures.reached in
    let same : c.deref-2.result.now ≡ before = c.deref-2.ensures.value in
    let are : before ≡ _ = c.in_ok-before.ensures in
    let fewer : length c.deref-2.result.now < length c.args.nodes.now = rw (same, are) (before-fewer c.args.airport.now c.args.nodes.now c.args.way.to c.requires.named) in (
      omega (arith, fewer, c.decreases),
      (
        c.requires.segments,
        (
          c.requires.horizon,
          (
            subst (AreNodes c.args.airport.now) (sym (same ∙ are)) (before-nodes c.args.airport.now c.args.nodes.now c.args.way.to c.requires.nodes),
            (
              subst (λ (ns : List Node). Contains ns other.to) (sym same) among,
              (
                is_way,
                subst (λ (ns : List Node). NoneEarlier k Begins ns (end_of other.steps)) (sym same) none_earlier,
              ),
            ),
          ),
        ),
      ),
    )

pub returns-clause-first : goal.returns-clause-first
returns-clause-first t c =
    let k : Conditions = conditions_of_class c.args.airport.now c.args.class (windows_of c.args.store.now) in
    let Begins = BeginsBy (layout_of c.args.airport.now) (beginning_of c.args.start 0) in
    let before : List Node = c.in_ok-before.before.items in
    let any : AnswersArrivalToOneOf k Begins before (Route c.in-Route.steps c.in-Route.labels) =
    found-read k Begins c.deref.result.now before c.in_ok-found.found (Route c.in-Route.steps c.in-Route.labels) c.deref.ensures.value c.in-Route.is (c.in_ok-found.ensures.any 0) in
    let by : end_of c.in-Route.steps ≤ end_of c.args.way.steps = rw (c.end_of.ensures, c.end_of-2.ensures, c.as_slice.ensures, c.as_slice-2.ensures) at c.if-end_of.false in
    let as_early : end_of c.way_of-other.result.steps ≡ end_of c.args.way.steps =
    ap end_of c.way_of-other.ensures.steps
    ∙ as-early k Begins c.args.nodes.now before c.args.way c.in_ok-before.ensures c.requires.named c.requires.way c.requires.none_earlier c.in-Route.steps any.0.one by in
    IfOk-weaker c.first_by_name.result
    (λ w. IsFirstByName c.args.airport.now c.deref-2.result.now (IsReachedAt k Begins (end_of c.way_of-other.result.steps)) w.to)
    (λ w. IsFirstByName c.args.airport.now c.args.nodes.now (IsReachedAt k Begins (end_of c.args.way.steps)) w.to)
    (λ w first. way-before k Begins c.args.nodes.now before c.args.way c.in_ok-before.ensures c.requires.named c.requires.way w.to
    (subst (λ (ns : List Node). IsFirstByName c.args.airport.now ns (IsReachedAt k Begins (end_of c.args.way.steps)) w.to) c.deref-2.ensures.value
    (subst (λ (n : ℕ). IsFirstByName c.args.airport.now c.deref-2.result.now (IsReachedAt k Begins n) w.to) as_early first))) c.first_by_name.ensures.first

pub returns-clause-as_early : goal.returns-clause-as_early
returns-clause-as_early t c =
    let k : Conditions = conditions_of_class c.args.airport.now c.args.class (windows_of c.args.store.now) in
    let Begins = BeginsBy (layout_of c.args.airport.now) (beginning_of c.args.start 0) in
    let before : List Node = c.in_ok-before.before.items in
    let any : AnswersArrivalToOneOf k Begins before (Route c.in-Route.steps c.in-Route.labels) =
    found-read k Begins c.deref.result.now before c.in_ok-found.found (Route c.in-Route.steps c.in-Route.labels) c.deref.ensures.value c.in-Route.is (c.in_ok-found.ensures.any 0) in
    let by : end_of c.in-Route.steps ≤ end_of c.args.way.steps = rw (c.end_of.ensures, c.end_of-2.ensures, c.as_slice.ensures, c.as_slice-2.ensures) at c.if-end_of.false in
    let as_early : end_of c.way_of-other.result.steps ≡ end_of c.args.way.steps =
    ap end_of c.way_of-other.ensures.steps
    ∙ as-early k Begins c.args.nodes.now before c.args.way c.in_ok-before.ensures c.requires.named c.requires.way c.requires.none_earlier c.in-Route.steps any.0.one by in
    IfOk-weaker c.first_by_name.result (λ w. end_of w.steps ≡ end_of c.way_of-other.result.steps) (λ w. end_of w.steps ≡ end_of c.args.way.steps)
    (λ w ends. ends ∙ as_early) c.first_by_name.ensures.as_early
