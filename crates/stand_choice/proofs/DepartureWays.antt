-- Walks to one of several nodes: where none for a node before it by name begins as late, a node is the first.
use Rattle.std.proofs.Common.{◌≡◌, ℕ, ◌≤◌, List, [], ◌∷◌, refl, sym, subst, arith}
use Rattle.std.proofs.Math.Nat.{le_antisymm}
use Rattle.std.specs.Prelude.{Contains, Some}
use Rattle.taxi_base.specs.declared.numbers.Node.{Node}
use Rattle.taxi_base.specs.declared.rows.Step.{Step}
use Rattle.taxi_base.specs.declared.rows.LabelRow.{LabelRow}
use Rattle.taxi_base.specs.declared.answers.Found.{Found}
use Rattle.taxi_base.specs.declared.answers.Found.TheVariants as found
use Rattle.taxi_base.specs.declared.answers.Chosen.TheVariants as chosen
use Rattle.taxi_base.specs.Airport.{layout_of}
use Rattle.taxi_base.specs.Walks.{Conditions, AtLast, IsRoute, LeavesNode, ReachesNode, ReachesNodeWithin, BeginsLatest, begin_of}
use Rattle.taxi_base.specs.Labels.{IsTable, IsEntryAfter, IsPickedDeparture, AnswersDeparture}
use Rattle.taxi_base.specs.Choices.{ReachesOneOfWithin, AnswersDepartureChoice}
use Rattle.taxi_base.proofs.ChoiceLaws.{IsRoute-OneOf, IsRoute-of_one}
use Rattle.taxi_base.proofs.ListLaws.{Contains-first}
use Rattle.stand_choice.specs.Ways.{nodes_before, IsFirstByName, IsLeftForAt, NoneLater}
use Rattle.stand_choice.proofs.FirstNames.{first-here, first-before, before-among, none_alone}
use Rattle.stand_choice.proofs.EndNodes.{within-among, within-node}

module _ (c : Conditions) (from : Node) (earliest latest : ℕ) where
  abbrev Leaves : Step → Type 0
  Leaves = LeavesNode (layout_of c.airport) from

  abbrev Ends : Node → Step → Type 0
  Ends node = ReachesNodeWithin (layout_of c.airport) node earliest latest

  abbrev EndsAtOne : List Node → Step → Type 0
  EndsAtOne nodes = ReachesOneOfWithin (layout_of c.airport) nodes earliest latest

  -- what is found, by other words for the nodes and for itself
  pub found-read : (nodes others : List Node) (f g : Found) → nodes ≡ others → f ≡ g → AnswersDeparture c from (EndsAtOne nodes) f → AnswersDeparture c from (EndsAtOne others) g
  found-read nodes others f g same is answers =
      subst (AnswersDeparture c from (EndsAtOne others)) is (subst (λ (ns : List Node). AnswersDeparture c from (EndsAtOne ns) f) same answers)

  -- no walk ends at one of no nodes
  pub none-empty : (steps : List Step) → IsRoute c Leaves (EndsAtOne []) steps → ⊥
  none-empty steps route = let found = IsRoute-of_one c Leaves Ends [] steps route in absurd (omega (arith, found.1.1))

  module _ (nodes before : List Node) (node : Node) (begin : ℕ) (are : before ≡ nodes_before c.airport node nodes) (among : Contains nodes node) (left : IsLeftForAt c from earliest latest begin node) where
    -- where no walk for those before begins as late, it is the first
    pub left-is_first : ((steps : List Step) → IsRoute c Leaves (EndsAtOne before) steps → begin_of steps ≡ begin → ⊥)
        → IsFirstByName c.airport nodes (IsLeftForAt c from earliest latest begin) node
    left-is_first none =
        first-here c.airport nodes (IsLeftForAt c from earliest latest begin) node among left
        (λ n there other. none other.0 (IsRoute-OneOf c Leaves Ends before n (subst (λ (ns : List Node). Contains ns n) (sym are) there) other.0 other.1) other.2)

    -- and where one does, the first of those before is the first
    pub left-before : (to : Node) → IsFirstByName c.airport before (IsLeftForAt c from earliest latest begin) to → IsFirstByName c.airport nodes (IsLeftForAt c from earliest latest begin) to
    left-before to is =
        first-before c.airport nodes (IsLeftForAt c from earliest latest begin) node to
        (subst (λ (ns : List Node). IsFirstByName c.airport ns (IsLeftForAt c from earliest latest begin) to) are is)

    -- a walk for one of those before that begins no sooner begins then
    pub as-late : NoneLater c from nodes earliest latest begin → (steps : List Step) → IsRoute c Leaves (EndsAtOne before) steps → begin ≤ begin_of steps → begin_of steps ≡ begin
    as-late none steps route by =
        let one = IsRoute-of_one c Leaves Ends before steps route in
        le_antisymm (none steps (IsRoute-OneOf c Leaves Ends nodes one.0 (before-among c.airport nodes node one.0 (subst (λ (ns : List Node). Contains ns one.0) are one.1)) steps one.2)) by

  -- what a search finds is a walk for the node at its end
  module _ (nodes : List Node) (steps : List Step) (labels : List LabelRow) (answers : AnswersDeparture c from (EndsAtOne nodes) (found.Route steps labels))
      (node : Node) (reached : AtLast (ReachesNode (layout_of c.airport) node) steps) where
    pub left-among : Contains nodes node
    left-among = within-among (layout_of c.airport) nodes earliest latest node steps answers.0.one.ends reached

    pub left-for : IsLeftForAt c from earliest latest (begin_of steps) node
    left-for = (
      steps,
      record { walk = answers.0.one.walk; begins = answers.0.one.begins; ends = within-node (layout_of c.airport) nodes earliest latest node steps answers.0.one.ends reached },
      refl,
    )

  -- the picked route to the first node is the choice
  pub left-chosen : (nodes : List Node) (steps others : List Step) (labels : List LabelRow) (to : Node) → AnswersDeparture c from (EndsAtOne nodes) (found.Route steps labels)
      → IsFirstByName c.airport nodes (IsLeftForAt c from earliest latest (begin_of steps)) to → BeginsLatest (IsRoute c Leaves (Ends to)) others → IsPickedDeparture c (Ends to) from others
      → AnswersDepartureChoice c from nodes earliest latest (chosen.Route to others labels)
  left-chosen nodes steps others labels to answers first best picked =
      let begins : begin_of others ≡ begin_of steps =
      le_antisymm (answers.0.latest others (IsRoute-OneOf c Leaves Ends nodes to first.named others best.one))
      (let as_late = best.latest first.as_good.0 first.as_good.1 in omega (arith, as_late, first.as_good.2)) in (
        record {
          named = first.named;
          begin = begin_of steps;
          best = (others, best, begins);
          greatest = λ n there walk route. answers.0.latest walk (IsRoute-OneOf c Leaves Ends nodes n there walk route);
          first = λ n there walk route at_begin. first.first n there (walk, route, at_begin);
        },
        best,
        picked,
        subst (λ (n : ℕ). IsTable (IsEntryAfter c (EndsAtOne nodes) (Some n)) labels) (sym begins) answers.2,
      )

  -- a node that is named alone is the first
  pub alone-chosen : (nodes : List Node) (node : Node) (steps : List Step) (labels : List LabelRow) → nodes ≡ node ∷ [] → AnswersDeparture c from (EndsAtOne nodes) (found.Route steps labels)
      → AnswersDepartureChoice c from nodes earliest latest (chosen.Route node steps labels)
  alone-chosen nodes node steps labels alone answers =
      subst (λ (ns : List Node). AnswersDepartureChoice c from ns earliest latest (chosen.Route node steps labels)) (sym alone)
      (one (subst (λ (ns : List Node). AnswersDeparture c from (EndsAtOne ns) (found.Route steps labels)) alone answers))
    where
      one : AnswersDeparture c from (Ends node) (found.Route steps labels) → AnswersDepartureChoice c from (node ∷ []) earliest latest (chosen.Route node steps labels)
      one answers =
          left-chosen (node ∷ []) steps steps labels node answers
          (first-here c.airport (node ∷ []) (IsLeftForAt c from earliest latest (begin_of steps)) node (Contains-first node []) (steps, answers.0.one, refl)
          (λ n there _. none_alone c.airport node n there)) answers.0 answers.1
