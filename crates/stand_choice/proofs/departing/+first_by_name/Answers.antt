use Rattle.std.proofs.Common.{◌≡◌, ℕ, ◌<◌, ◌≤◌, [], List, length, sym, ◌∙◌, subst, arith}
use Rattle.std.specs.Prelude.{Contains}
use Rattle.std.proofs.lemmas.Bool.{eqb-true}
use Rattle.std.proofs.lemmas.Result.{IfOk-weaker}
use Rattle.taxi_base.specs.declared.numbers.Node.{Node}
use Rattle.taxi_base.specs.declared.answers.Found.TheVariants.{Route, NoRoute}
use Rattle.taxi_base.specs.Airport.{layout_of}
use Rattle.taxi_base.specs.Walks.{Conditions, conditions_of_class, IsRoute, LeavesNode, begin_of}
use Rattle.taxi_base.specs.Labels.{AnswersDeparture}
use Rattle.taxi_base.specs.Choices.{ReachesOneOfWithin}
use Rattle.place_cells.specs.Laid.{windows_of}
use Rattle.stand_choice.specs.Ways.{AreNodes, IsFirstByName, IsLeftForAt, NoneLater}
use Rattle.stand_choice.proofs.FirstNames.{before-fewer, before-nodes, empty}
use Rattle.stand_choice.proofs.EndNodes.{within-one}
use Rattle.stand_choice.proofs.DepartureWays.{found-read, none-empty, left-is_first, left-before, as-late, left-among, left-for}
use Rattle.stand_choice.proofs.departing.+first_by_name.Goals as goal

pub returns-then-is_empty : goal.returns-then-is_empty
returns-then-is_empty t c =
    let k : Conditions = conditions_of_class c.args.airport.now c.args.departure.class (windows_of c.args.store.now) in
    let before : List Node = c.in_ok-before.before.items in
    let long = eqb-true _ 0 (sym c.is_empty.ensures ∙ c.if-is_empty.true) in
    let none : before ≡ [] = empty before (omega (arith, long, c.in_ok-before.before.ok)) in
    left-is_first k c.args.departure.from c.args.departure.earliest_out c.args.departure.latest_out c.args.nodes.now before c.args.node c.args.begin c.in_ok-before.ensures c.requires.named c.requires.left
    (λ steps route _. none-empty k c.args.departure.from c.args.departure.earliest_out c.args.departure.latest_out steps (subst (λ (ns : List Node). IsRoute k (LeavesNode (layout_of k.airport) c.args.departure.from) (ReachesOneOfWithin (layout_of k.airport) ns c.args.departure.earliest_out c.args.departure.latest_out) steps) none route))

pub returns-in_default : goal.returns-in_default
returns-in_default t c =
    let k : Conditions = conditions_of_class c.args.airport.now c.args.departure.class (windows_of c.args.store.now) in
    let before : List Node = c.in_ok-before.before.items in
    let any : AnswersDeparture k c.args.departure.from (ReachesOneOfWithin (layout_of k.airport) before c.args.departure.earliest_out c.args.departure.latest_out) (NoRoute c.in_default.field-0) =
    found-read k c.args.departure.from c.args.departure.earliest_out c.args.departure.latest_out c.deref.result.now before c.in_ok-found.found (NoRoute c.in_default.field-0) c.deref.ensures.value c.in_default.is c.in_ok-found.ensures in
    left-is_first k c.args.departure.from c.args.departure.earliest_out c.args.departure.latest_out c.args.nodes.now before c.args.node c.args.begin c.in_ok-before.ensures c.requires.named c.requires.left (λ steps route _. any.0 steps route)

pub returns-then-begin_of-begin : goal.returns-then-begin_of-begin
returns-then-begin_of-begin t c =
    let k : Conditions = conditions_of_class c.args.airport.now c.args.departure.class (windows_of c.args.store.now) in
    let before : List Node = c.in_ok-before.before.items in
    let any : AnswersDeparture k c.args.departure.from (ReachesOneOfWithin (layout_of k.airport) before c.args.departure.earliest_out c.args.departure.latest_out) (Route c.in-Route.steps c.in-Route.labels) =
    found-read k c.args.departure.from c.args.departure.earliest_out c.args.departure.latest_out c.deref.result.now before c.in_ok-found.found (Route c.in-Route.steps c.in-Route.labels) c.deref.ensures.value c.in-Route.is c.in_ok-found.ensures in
    let sooner : begin_of c.in-Route.steps < c.args.begin = rw (c.begin_of.ensures, c.as_slice.ensures) at c.if-begin_of-begin.true in
    left-is_first k c.args.departure.from c.args.departure.earliest_out c.args.departure.latest_out c.args.nodes.now before c.args.node c.args.begin c.in_ok-before.ensures c.requires.named c.requires.left (λ steps walk at_begin. absurd (omega (arith, sooner, at_begin, any.0.latest steps walk)))

pub node_at_end-other-requires : goal.node_at_end-other-requires
node_at_end-other-requires t c =
    let k : Conditions = conditions_of_class c.args.airport.now c.args.departure.class (windows_of c.args.store.now) in
    let before : List Node = c.in_ok-before.before.items in
    let any : AnswersDeparture k c.args.departure.from (ReachesOneOfWithin (layout_of k.airport) before c.args.departure.earliest_out c.args.departure.latest_out) (Route c.in-Route.steps c.in-Route.labels) =
    found-read k c.args.departure.from c.args.departure.earliest_out c.args.departure.latest_out c.deref.result.now before c.in_ok-found.found (Route c.in-Route.steps c.in-Route.labels) c.deref.ensures.value c.in-Route.is c.in_ok-found.ensures in
    rw c.as_slice-2.ensures (within-one (layout_of k.airport) before c.args.departure.earliest_out c.args.departure.latest_out c.in-Route.steps any.0.one.ends)

pub first_by_name-requires : goal.first_by_name-requires
first_by_name-requires t c =
    let k : Conditions = conditions_of_class c.args.airport.now c.args.departure.class (windows_of c.args.store.now) in
    let before : List Node = c.in_ok-before.before.items in
    let any : AnswersDeparture k c.args.departure.from (ReachesOneOfWithin (layout_of k.airport) before c.args.departure.earliest_out c.args.departure.latest_out) (Route c.in-Route.steps c.in-Route.labels) =
    found-read k c.args.departure.from c.args.departure.earliest_out c.args.departure.latest_out c.deref.result.now before c.in_ok-found.found (Route c.in-Route.steps c.in-Route.labels) c.deref.ensures.value c.in-Route.is c.in_ok-found.ensures in
    let as_late : c.args.begin ≤ begin_of c.in-Route.steps = rw (c.begin_of.ensures, c.as_slice.ensures) at c.if-begin_of-begin.false in
    let then_too : begin_of c.in-Route.steps ≡ c.args.begin = as-late k c.args.departure.from c.args.departure.earliest_out c.args.departure.latest_out c.args.nodes.now before c.args.node c.args.begin c.in_ok-before.ensures c.requires.named c.requires.left c.requires.none_later c.in-Route.steps any.0.one as_late in
    let other : Node = c.node_at_end-other.result in
    let reached = rw c.as_slice-2.ensures at c.node_at_end-other.ensures.reached in
    let among = left-among k c.args.departure.from c.args.departure.earliest_out c.args.departure.latest_out before c.in-Route.steps c.in-Route.labels any other reached in
    let left = left-for k c.args.departure.from c.args.departure.earliest_out c.args.departure.latest_out before c.in-Route.steps c.in-Route.labels any other reached in
    let same : c.deref-2.result.now ≡ before = c.deref-2.ensures.value in
    let are : before ≡ _ = c.in_ok-before.ensures in
    let fewer : length c.deref-2.result.now < length c.args.nodes.now = rw (same, are) (before-fewer c.args.airport.now c.args.nodes.now c.args.node c.requires.named) in (
      omega (arith, fewer, c.decreases),
      (
        c.requires.segments,
        (
          c.requires.horizon,
          (
            c.requires.times,
            (
              subst (AreNodes c.args.airport.now) (sym (same ∙ are)) (before-nodes c.args.airport.now c.args.nodes.now c.args.node c.requires.nodes),
              (
                subst (λ (ns : List Node). Contains ns other) (sym same) among,
                (
                  subst (λ (n : ℕ). IsLeftForAt k c.args.departure.from c.args.departure.earliest_out c.args.departure.latest_out n other) then_too left,
                  subst (λ (ns : List Node). NoneLater k c.args.departure.from ns c.args.departure.earliest_out c.args.departure.latest_out c.args.begin) (sym same) (λ steps walk. omega (arith, then_too, any.0.latest steps walk)),
                ),
              ),
            ),
          ),
        ),
      ),
    )

pub returns : goal.returns
returns t c =
    let k : Conditions = conditions_of_class c.args.airport.now c.args.departure.class (windows_of c.args.store.now) in
    let before : List Node = c.in_ok-before.before.items in
    IfOk-weaker c.first_by_name.result
    (IsFirstByName c.args.airport.now c.deref-2.result.now (IsLeftForAt k c.args.departure.from c.args.departure.earliest_out c.args.departure.latest_out c.args.begin))
    (IsFirstByName c.args.airport.now c.args.nodes.now (IsLeftForAt k c.args.departure.from c.args.departure.earliest_out c.args.departure.latest_out c.args.begin))
    (λ n first. left-before k c.args.departure.from c.args.departure.earliest_out c.args.departure.latest_out c.args.nodes.now before c.args.node c.args.begin c.in_ok-before.ensures c.requires.named c.requires.left n
    (subst (λ (ns : List Node). IsFirstByName c.args.airport.now ns (IsLeftForAt k c.args.departure.from c.args.departure.earliest_out c.args.departure.latest_out c.args.begin) n) c.deref-2.ensures.value first)) c.first_by_name.ensures
