-- A choice of nodes has one answer.
use Rattle.std.proofs.Common.{◌≡◌, ℕ, zero, suc, ◌<◌, ◌≤◌, List, [], ◌∷◌, length, get_or, map, IsFalse, Some, None, refl, sym, ◌∙◌, ap, subst, arith, inl, inr}
use Rattle.std.proofs.Math.Nat.{le_antisymm}
use Rattle.std.specs.Prelude.{All, Contains, bytes_eq, slice_get, option_map, unwrap_or}
use Rattle.std.specs.Cmp.Lexicographic.{bytes_decides}
use Rattle.std.proofs.lemmas.Bool.{cases_lt, cases_Bool, both_ways}
use Rattle.std.proofs.lemmas.List.{length-map}
use Rattle.std.proofs.lemmas.List.Elements.{All-contains}
use Rattle.taxi_base.specs.declared.numbers.Node.{Node}
use Rattle.taxi_base.specs.declared.rows.Step.{Step}
use Rattle.taxi_base.specs.declared.rows.LabelRow.{LabelRow}
use Rattle.taxi_base.specs.declared.answers.Found.{Found}
use Rattle.taxi_base.specs.declared.answers.Found.TheVariants as found
use Rattle.taxi_base.specs.declared.answers.Chosen.{Chosen}
use Rattle.taxi_base.specs.declared.answers.Chosen.TheVariants as chosen
use Rattle.taxi_base.specs.Airport.{Airport, NodeRow, IsWellFormed, node_word, layout_of}
use Rattle.taxi_base.specs.Walks.{Conditions, EndsEarliest, BeginsLatest, AtLast, IsRoute, LeavesNode, ReachesNode, ReachesNodeWithin, begin_of, end_of}
use Rattle.taxi_base.specs.Labels.{IsTable, IsExitBefore, IsEntryAfter, IsPickedDeparture, AnswersArrival}
use Rattle.taxi_base.specs.Choices.{node_precedes, ReachesOneOf, ReachesOneOfWithin, OneOf, IsChosenArrival, IsChosenDeparture, AnswersArrivalChoice, AnswersDepartureChoice}
use Rattle.taxi_base.proofs.NameLaws.{name_precedes-turned}
use Rattle.taxi_base.proofs.OneOfLaws.{OneOf-found, OneOf-member}
use Rattle.taxi_base.proofs.WalkLaws.{AtLast-weaker}
use Rattle.taxi_base.proofs.LabelLaws.{HasOneFirstStep, IsEarliestEnd-same, IsLatestBegin-same, IsPickedDeparture-same, IsTable-same}
use Rattle.taxi_base.proofs.AnswerLaws.{AnswersArrival-same}

-- ---- nodes by their names

-- each node is one of the airport's
abbrev pub AreNodes : Airport → List Node → Type 0
AreNodes airport nodes = All (λ node. node.0 < length airport.nodes) nodes

word-at : (rows : List NodeRow) (k : ℕ) → unwrap_or (option_map (λ n. n.name) (slice_get rows k)) [] ≡ get_or (map (λ n. n.name) rows) k []
word-at [] k = refl
word-at (row ∷ rows) zero = refl
word-at (row ∷ rows) (suc k) = word-at rows k

module _ (airport : Airport) (well : IsWellFormed airport) where
  differ : (a b : Node) → a.0 < b.0 → b.0 < length airport.nodes → node_word airport a ≡ node_word airport b → ⊥
  differ a b before low same =
      well.nodes.differ a.0 b.0 [] before (omega (arith, length-map airport.nodes (λ (n : NodeRow). n.name)))
      (sym (word-at airport.nodes a.0) ∙ same ∙ word-at airport.nodes b.0)

  same_number : (a b : Node) → a.0 < length airport.nodes → b.0 < length airport.nodes → node_word airport a ≡ node_word airport b → a.0 ≡ b.0
  same_number a b low also same =
      elim (cases_lt a.0 b.0) [
        | inl before ↦ absurd (differ a b before also same)
        | inr by ↦ elim (cases_lt b.0 a.0) [
          | inl before ↦ absurd (differ b a before low (sym same))
          | inr other ↦ le_antisymm other by
        ]
      ]

  -- two nodes of which neither has a name before the other's are one
  pub node_precedes-neither : (a b : Node) → a.0 < length airport.nodes → b.0 < length airport.nodes → IsFalse (node_precedes airport a b) → IsFalse (node_precedes airport b a) → a ≡ b
  node_precedes-neither a b low also not_before not_after =
      let number = same_number a b low also (elim (cases_Bool (bytes_eq (node_word airport b) (node_word airport a))) [
        | inl same ↦ sym ((bytes_decides (node_word airport b) (node_word airport a)).0 same)
        | inr other ↦ absurd (both_ways _ not_after (name_precedes-turned (node_word airport a) (node_word airport b) not_before other))
      ]) in
      λ i. record { 0 = number i }

-- ---- one node is chosen

module _ (c : Conditions) (well : IsWellFormed c.airport) (nodes : List Node) (are : AreNodes c.airport nodes) where
  one_first : (a b : Node) → Contains nodes a → Contains nodes b → IsFalse (node_precedes c.airport a b) → IsFalse (node_precedes c.airport b a) → a ≡ b
  one_first a b in_a in_b =
      node_precedes-neither c.airport well a b (All-contains (λ n. n.0 < length c.airport.nodes) nodes a are in_a) (All-contains (λ n. n.0 < length c.airport.nodes) nodes b are in_b)

  pub IsChosenArrival-same : (Begins : Step → Type 0) (a b : Node) → IsChosenArrival c Begins nodes a → IsChosenArrival c Begins nodes b → a ≡ b
  IsChosenArrival-same Begins a b p q =
      let to_a = p.best in
      let to_b = q.best in
      let by_a : q.end ≤ end_of to_a.0 = q.least a p.named to_a.0 to_a.1.one in
      let by_b : p.end ≤ end_of to_b.0 = p.least b q.named to_b.0 to_b.1.one in
      one_first a b p.named q.named (q.first a p.named to_a.0 to_a.1.one (omega (arith, to_a.2, to_b.2))) (p.first b q.named to_b.0 to_b.1.one (omega (arith, to_a.2, to_b.2)))

  pub IsChosenDeparture-same : (from : Node) (earliest latest : ℕ) (a b : Node) → IsChosenDeparture c from nodes earliest latest a → IsChosenDeparture c from nodes earliest latest b → a ≡ b
  IsChosenDeparture-same from earliest latest a b p q =
      let to_a = p.best in
      let to_b = q.best in
      let by_a : begin_of to_a.0 ≤ q.begin = q.greatest a p.named to_a.0 to_a.1.one in
      let by_b : begin_of to_b.0 ≤ p.begin = p.greatest b q.named to_b.0 to_b.1.one in
      one_first a b p.named q.named (q.first a p.named to_a.0 to_a.1.one (omega (arith, to_a.2, to_b.2))) (p.first b q.named to_b.0 to_b.1.one (omega (arith, to_a.2, to_b.2)))

-- ---- a walk to one of the nodes

-- a walk that ends by P is one that ends by one of the list, where P is of one of it
AtLast-OneOf : {A : Type 0} (P : A → Step → Type 0) (xs : List A) (x : A) → Contains xs x → (steps : List Step) → AtLast (P x) steps → AtLast (λ step. OneOf (λ y. P y step) xs) steps
AtLast-OneOf P xs x h = AtLast-weaker (P x) (λ step. OneOf (λ y. P y step) xs) (λ step holds. OneOf-member (λ y. P y step) xs x h holds)

pub IsRoute-OneOf : (c : Conditions) {A : Type 0} (Begins : Step → Type 0) (P : A → Step → Type 0) (xs : List A) (x : A) → Contains xs x → (steps : List Step)
    → IsRoute c Begins (P x) steps → IsRoute c Begins (λ step. OneOf (λ y. P y step) xs) steps
IsRoute-OneOf c Begins P xs x h steps route = record { walk = route.walk; begins = route.begins; ends = AtLast-OneOf P xs x h steps route.ends }

-- and a walk that ends by one of a list ends by one that can be named
pub IsRoute-of_one : (c : Conditions) {A : Type 0} (Begins : Step → Type 0) (P : A → Step → Type 0) (xs : List A) (steps : List Step)
    → IsRoute c Begins (λ step. OneOf (λ y. P y step) xs) steps → (x : A) × Contains xs x × IsRoute c Begins (P x) steps
IsRoute-of_one c Begins P xs steps route =
    let found = AtLast-found P xs steps route.ends in
    (found.0, found.1, record { walk = route.walk; begins = route.begins; ends = found.2 })
  where
    AtLast-found : {A : Type 0} (P : A → Step → Type 0) (xs : List A) (steps : List Step) → AtLast (λ step. OneOf (λ y. P y step) xs) steps → (x : A) × Contains xs x × AtLast (P x) steps
    AtLast-found P xs [] h = absurd h
    AtLast-found P xs (s ∷ []) h = OneOf-found (λ y. P y s) xs h
    AtLast-found P xs (s ∷ t ∷ steps) h = AtLast-found P xs (t ∷ steps) h

-- ---- the best of the walks to any of the nodes

pub chosen-earliest : (c : Conditions) (Begins : Step → Type 0) (nodes : List Node) (to : Node) (steps : List Step) (labels : List LabelRow)
    → AnswersArrivalChoice c Begins nodes (chosen.Route to steps labels) → EndsEarliest (IsRoute c Begins (ReachesOneOf (layout_of c.airport) nodes)) steps
chosen-earliest c Begins nodes to steps labels answers =
    let end = IsEarliestEnd-same (IsRoute c Begins (ReachesNode (layout_of c.airport) to)) answers.0.end (end_of steps) answers.0.best (steps, answers.1.0, refl) in
    record {
      one = IsRoute-OneOf c Begins (ReachesNode (layout_of c.airport)) nodes to answers.0.named steps answers.1.0.one;
      earliest = λ others route.
          (let one = IsRoute-of_one c Begins (ReachesNode (layout_of c.airport)) nodes others route in omega (arith, end, answers.0.least one.0 one.1 others one.2));
    }

pub chosen-latest : (c : Conditions) (from : Node) (nodes : List Node) (earliest latest : ℕ) (to : Node) (steps : List Step) (labels : List LabelRow)
    → AnswersDepartureChoice c from nodes earliest latest (chosen.Route to steps labels)
    → BeginsLatest (IsRoute c (LeavesNode (layout_of c.airport) from) (ReachesOneOfWithin (layout_of c.airport) nodes earliest latest)) steps
chosen-latest c from nodes earliest latest to steps labels answers =
    let Leaves : Step → Type 0 = LeavesNode (layout_of c.airport) from in
    let Ends : Node → Step → Type 0 = λ n. ReachesNodeWithin (layout_of c.airport) n earliest latest in
    let begin = IsLatestBegin-same (IsRoute c Leaves (Ends to)) answers.0.begin (begin_of steps) answers.0.best (steps, answers.1, refl) in
    record {
      one = IsRoute-OneOf c Leaves Ends nodes to answers.0.named steps answers.1.one;
      latest = λ others route. (let one = IsRoute-of_one c Leaves Ends nodes others route in omega (arith, begin, answers.0.greatest one.0 one.1 others one.2));
    }

-- ---- one answer

Route-parts : (steps others : List Step) (labels rows : List LabelRow) → found.Route steps labels ≡ found.Route others rows → (steps ≡ others) × (labels ≡ rows)
Route-parts steps others labels rows e = (ap steps_in e, ap labels_in e) where
  steps_in : Found → List Step
  steps_in (found.Route s l) = s
  steps_in (found.NoRoute l) = []

  labels_in : Found → List LabelRow
  labels_in (found.Route s l) = l
  labels_in (found.NoRoute l) = l

pub AnswersArrivalChoice-same : (c : Conditions) (Begins : Step → Type 0) (nodes : List Node) → IsWellFormed c.airport → AreNodes c.airport nodes → HasOneFirstStep c Begins → (chosen others : Chosen)
    → AnswersArrivalChoice c Begins nodes chosen → AnswersArrivalChoice c Begins nodes others → chosen ≡ others
AnswersArrivalChoice-same c Begins nodes well are one (chosen.Route to steps labels) (chosen.Route node others rows) a b =
    let same : to ≡ node = IsChosenArrival-same c well nodes are Begins to node a.0 b.0 in
    let answers = AnswersArrival-same c Begins to one (found.Route steps labels) (found.Route others rows) a.1
    (subst (λ n. AnswersArrival c Begins n (found.Route others rows)) (sym same) b.1) in
    let parts = Route-parts steps others labels rows answers in
    λ i. chosen.Route (same i) (parts.0 i) (parts.1 i)
AnswersArrivalChoice-same c Begins nodes well are one (chosen.Route to steps labels) (chosen.NoRoute rows) a b =
    absurd (b.0 steps (IsRoute-OneOf c Begins (ReachesNode (layout_of c.airport)) nodes to a.0.named steps a.1.0.one))
AnswersArrivalChoice-same c Begins nodes well are one (chosen.NoRoute labels) (chosen.Route node others rows) a b =
    absurd (a.0 others (IsRoute-OneOf c Begins (ReachesNode (layout_of c.airport)) nodes node b.0.named others b.1.0.one))
AnswersArrivalChoice-same c Begins nodes well are one (chosen.NoRoute labels) (chosen.NoRoute rows) a b =
    ap chosen.NoRoute (IsTable-same (IsExitBefore c Begins None) labels rows a.1 b.1)

pub AnswersDepartureChoice-same : (c : Conditions) (from : Node) (nodes : List Node) (earliest latest : ℕ) → IsWellFormed c.airport → AreNodes c.airport nodes → (chosen others : Chosen)
    → AnswersDepartureChoice c from nodes earliest latest chosen → AnswersDepartureChoice c from nodes earliest latest others → chosen ≡ others
AnswersDepartureChoice-same c from nodes earliest latest well are (chosen.Route to steps labels) (chosen.Route node others rows) a b =
    let Ends : Node → Step → Type 0 = λ n. ReachesNodeWithin (layout_of c.airport) n earliest latest in
    let Table : List Step → Type 0 = λ s. IsTable (IsEntryAfter c (ReachesOneOfWithin (layout_of c.airport) nodes earliest latest) (Some (begin_of s))) rows in
    let same : to ≡ node = IsChosenDeparture-same c well nodes are from earliest latest to node a.0 b.0 in
    let routes : steps ≡ others = IsPickedDeparture-same c (Ends to) from steps others a.2 (subst (λ n. IsPickedDeparture c (Ends n) from others) (sym same) b.2) in
    let tables : labels ≡ rows =
    IsTable-same (IsEntryAfter c (ReachesOneOfWithin (layout_of c.airport) nodes earliest latest) (Some (begin_of steps))) labels rows a.3 (subst Table (sym routes) b.3) in
    λ i. chosen.Route (same i) (routes i) (tables i)
AnswersDepartureChoice-same c from nodes earliest latest well are (chosen.Route to steps labels) (chosen.NoRoute rows) a b =
    absurd (b.0 steps (IsRoute-OneOf c (LeavesNode (layout_of c.airport) from) (λ n. ReachesNodeWithin (layout_of c.airport) n earliest latest) nodes to a.0.named steps a.1.one))
AnswersDepartureChoice-same c from nodes earliest latest well are (chosen.NoRoute labels) (chosen.Route node others rows) a b =
    absurd (a.0 others (IsRoute-OneOf c (LeavesNode (layout_of c.airport) from) (λ n. ReachesNodeWithin (layout_of c.airport) n earliest latest) nodes node b.0.named others b.1.one))
AnswersDepartureChoice-same c from nodes earliest latest well are (chosen.NoRoute labels) (chosen.NoRoute rows) a b =
    ap chosen.NoRoute (IsTable-same (IsEntryAfter c (ReachesOneOfWithin (layout_of c.airport) nodes earliest latest) None) labels rows a.1 b.1)
