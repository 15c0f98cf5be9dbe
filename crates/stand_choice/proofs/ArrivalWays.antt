-- Ways to one of several nodes: what a search finds is one, and where none before it by name is as early it is the first.
use Rattle.std.proofs.Common.{◌≡◌, ℕ, ◌≤◌, List, [], refl, sym, subst, arith}
use Rattle.std.proofs.Math.Nat.{le_antisymm}
use Rattle.std.specs.Prelude.{Contains, Some}
use Rattle.taxi_base.specs.declared.numbers.Node.{Node}
use Rattle.taxi_base.specs.declared.rows.Step.{Step}
use Rattle.taxi_base.specs.declared.rows.LabelRow.{LabelRow}
use Rattle.taxi_base.specs.declared.answers.Found.{Found}
use Rattle.taxi_base.specs.declared.answers.Found.TheVariants as found
use Rattle.taxi_base.specs.declared.answers.Chosen.TheVariants as chosen
use Rattle.taxi_base.specs.Airport.{layout_of}
use Rattle.taxi_base.specs.Walks.{Conditions, AtLast, IsRoute, ReachesNode, EndsEarliest, end_of}
use Rattle.taxi_base.specs.Labels.{IsTable, IsExitBefore, AnswersArrival}
use Rattle.taxi_base.specs.Choices.{ReachesOneOf, AnswersArrivalToOneOf, AnswersArrivalChoice}
use Rattle.taxi_base.proofs.ChoiceLaws.{IsRoute-OneOf, IsRoute-of_one}
use Rattle.forward_search.specs.Reached.{LeadsTo}
use Rattle.stand_choice.specs.declared.arriving.Way.{Way}
use Rattle.stand_choice.specs.Ways.{nodes_before, IsFirstByName, IsReachedAt, NoneEarlier, IsWay}
use Rattle.stand_choice.proofs.FirstNames.{first-here, first-before, before-among}
use Rattle.stand_choice.proofs.EndNodes.{end-among}

module _ (c : Conditions) (Begins : Step → Type 0) where
  -- what is found, by other words for the nodes and for itself
  pub found-read : (nodes others : List Node) (f g : Found) → nodes ≡ others → f ≡ g → AnswersArrivalToOneOf c Begins nodes f → AnswersArrivalToOneOf c Begins others g
  found-read nodes others f g same is answers = subst (AnswersArrivalToOneOf c Begins others) is (subst (λ (ns : List Node). AnswersArrivalToOneOf c Begins ns f) same answers)

  -- no walk reaches one of no nodes
  pub none-empty : (steps : List Step) → IsRoute c Begins (ReachesOneOf (layout_of c.airport) []) steps → ⊥
  none-empty steps route =
      let found = IsRoute-of_one c Begins (ReachesNode (layout_of c.airport)) [] steps route in absurd (omega (arith, found.1.1))

  module _ (nodes before : List Node) (way : Way) (are : before ≡ nodes_before c.airport way.to nodes) (among : Contains nodes way.to) (is_way : IsWay c Begins way) where
    abbrev end : ℕ
    end = end_of way.steps

    -- where no walk to those before ends as early, it is the first
    pub way-is_first : ((steps : List Step) → IsRoute c Begins (ReachesOneOf (layout_of c.airport) before) steps → end_of steps ≡ end → ⊥)
        → IsFirstByName c.airport nodes (IsReachedAt c Begins end) way.to
    way-is_first none =
        first-here c.airport nodes (IsReachedAt c Begins end) way.to among (way.steps, is_way.earliest.one, refl)
        (λ n there reached. none reached.0 (IsRoute-OneOf c Begins (ReachesNode (layout_of c.airport)) before n (subst (λ (ns : List Node). Contains ns n) (sym are) there) reached.0 reached.1) reached.2)

    -- and where one does, the first of those before is the first
    pub way-before : (to : Node) → IsFirstByName c.airport before (IsReachedAt c Begins end) to → IsFirstByName c.airport nodes (IsReachedAt c Begins end) to
    way-before to is = first-before c.airport nodes (IsReachedAt c Begins end) way.to to (subst (λ (ns : List Node). IsFirstByName c.airport ns (IsReachedAt c Begins end) to) are is)

    -- a walk to one of those before that ends no later ends then
    pub as-early : NoneEarlier c Begins nodes end → (steps : List Step) → IsRoute c Begins (ReachesOneOf (layout_of c.airport) before) steps → end_of steps ≤ end → end_of steps ≡ end
    as-early none steps route by =
        let one = IsRoute-of_one c Begins (ReachesNode (layout_of c.airport)) before steps route in
        le_antisymm by (none steps (IsRoute-OneOf c Begins (ReachesNode (layout_of c.airport)) nodes one.0 (before-among c.airport nodes way.to one.0 (subst (λ (ns : List Node). Contains ns one.0) are one.1)) steps one.2))

  -- what a search finds is a way to the node at its end
  module _ (nodes : List Node) (steps : List Step) (labels : List LabelRow) (answers : AnswersArrivalToOneOf c Begins nodes (found.Route steps labels))
      (picked : (node : Node) → Contains nodes node → LeadsTo (layout_of c.airport) node (found.Route steps labels) → AnswersArrival c Begins node (found.Route steps labels))
      (way : Way) (same : way.steps ≡ steps) (reached : AtLast (ReachesNode (layout_of c.airport) way.to) way.steps) where
    pub way-among : Contains nodes way.to
    way-among = end-among (layout_of c.airport) nodes way.to steps answers.0.one.ends (subst (AtLast (ReachesNode (layout_of c.airport) way.to)) same reached)

    pub way-is : IsWay c Begins way
    way-is =
        let answer = picked way.to way-among (subst (AtLast (ReachesNode (layout_of c.airport) way.to)) same reached) in
        record {
          earliest = subst (EndsEarliest (IsRoute c Begins (ReachesNode (layout_of c.airport) way.to))) (sym same) answer.0;
          picked = rw same answer.1;
        }

    pub way-none_earlier : NoneEarlier c Begins nodes (end_of way.steps)
    way-none_earlier others route = rw same (answers.0.earliest others route)

  -- the first way is the choice
  pub way-chosen : (nodes : List Node) (steps : List Step) (labels : List LabelRow) (way : Way) → AnswersArrivalToOneOf c Begins nodes (found.Route steps labels)
      → IsFirstByName c.airport nodes (IsReachedAt c Begins (end_of steps)) way.to → IsWay c Begins way → end_of way.steps ≡ end_of steps
      → AnswersArrivalChoice c Begins nodes (chosen.Route way.to way.steps labels)
  way-chosen nodes steps labels way answers first is_way ends = (
    record {
      named = first.named;
      end = end_of steps;
      best = (way.steps, is_way.earliest, ends);
      least = λ node there others route. answers.0.earliest others (IsRoute-OneOf c Begins (ReachesNode (layout_of c.airport)) nodes node there others route);
      first = λ node there others route at_end. first.first node there (others, route, at_end);
    },
    (is_way.earliest, is_way.picked, subst (λ (n : ℕ). IsTable (IsExitBefore c Begins (Some n)) labels) (sym ends) answers.1),
  )
