-- Walks to one of several nodes, by how they begin and end; and the table of the search to them.
use Rattle.std.proofs.Common.{◌≡◌, ◌↔◌, ℕ, ◌+◌, ◌-◌, ◌<◌, ◌≤◌, true, false, List, [], ◌∷◌, length, get_or, take, map, All, IsTrue, Option, None, refl, sym, ◌∙◌, ap, subst}
use Rattle.std.specs.Prelude.{Contains, Result, Ok, Err, IfOk}
use Rattle.std.proofs.lemmas.Bool.{false≢true}
use Rattle.std.proofs.lemmas.List.{take_all}
use Rattle.std.proofs.lemmas.List.Elements.{All-contains, Contains-get_or}
use Rattle.taxi_base.specs.declared.numbers.Node.{Node}
use Rattle.taxi_base.specs.declared.rows.Step.{Step}
use Rattle.taxi_base.specs.declared.rows.LabelRow.{LabelRow}
use Rattle.taxi_base.specs.declared.answers.Request.{Request}
use Rattle.taxi_base.specs.declared.answers.Request.TheVariants.{Filed, Arrival, Departure}
use Rattle.taxi_base.specs.Airport.{layout_of}
use Rattle.taxi_base.specs.Walks.{Conditions, IsFeasibleWalk, Meets}
use Rattle.taxi_base.specs.Choices.{OneOf}
use Rattle.taxi_base.specs.Again.{retargeted, IsTarget}
use Rattle.taxi_base.proofs.ListLaws.{Contains-map, map-Contains}
use Rattle.taxi_base.proofs.OneOfLaws.{OneOf-found, OneOf-member}
use Rattle.walk_labels.specs.Requests.Beginning.{at_node}
use Rattle.walk_labels.specs.Rules.{IsStartBy}
use Rattle.walk_labels.specs.BackwardRules.{IsFinishAt}
use Rattle.table_rows.specs.declared.reach.Way.TheVariants.{Forward, Backward}
use Rattle.check_rows.specs.declared.verdict.RowRule.{RowRule}
use Rattle.check_rows.specs.Rules.{IsTableVerdict}
use Rattle.replies.specs.Sought.{MeetsOneOf}
use Rattle.check_walks.specs.Choice.{IsAmong, CanBeSoughtAny}
use Rattle.check_walks.specs.Steps.{GoesAsAsked}
use Rattle.check_walks.specs.Told.{IsVerdictOn}
use Rattle.check_walks.proofs.AskedLaws.{asked-walk, walk-asked}

-- the request for its own node
own-request : (r : Request) (to : Node) → IsTarget r to → retargeted r to ≡ r
own-request Filed to asks = absurd asks
own-request (Arrival from node time hold) to asks = λ i. Arrival from (sym asks i) time hold
own-request (Departure from node time queue) to asks = λ i. Departure from (sym asks i) time queue

module _ (request : Request) (nodes others : List Node) (among : IsAmong request nodes others) where
  requests-are : request ∷ map (retargeted request) others ≡ map (retargeted request) nodes
  requests-are = ap (λ r. r ∷ map (retargeted request) others) (sym (own-request request among.to among.asks)) ∙ ap (map (retargeted request)) (sym among.are)

  module _ (c : Conditions) (steps : List Step) where
    pub walk-to-one : IsFeasibleWalk c steps → OneOf (λ n. GoesAsAsked (layout_of c.airport) (retargeted request n) None steps) nodes → CanBeSoughtAny c.airport request nodes → MeetsOneOf c request others steps
    walk-to-one walk goes can =
        let found = OneOf-found (λ n. GoesAsAsked (layout_of c.airport) (retargeted request n) None steps) nodes goes in
        let met = asked-walk c (retargeted request found.0) None steps walk found.2 (can found.0 found.1) in
        subst (OneOf (λ asked. Meets c asked steps)) (sym requests-are)
        (OneOf-member (λ asked. Meets c asked steps) (map (retargeted request) nodes) (retargeted request found.0) (Contains-map (retargeted request) nodes found.0 found.1) met)

    pub one-walk : MeetsOneOf c request others steps → IsFeasibleWalk c steps × OneOf (λ n. GoesAsAsked (layout_of c.airport) (retargeted request n) None steps) nodes
    one-walk meets =
        let found = OneOf-found (λ asked. Meets c asked steps) (map (retargeted request) nodes) (subst (OneOf (λ asked. Meets c asked steps)) requests-are meets) in
        let node = map-Contains (retargeted request) nodes found.0 found.1 in
        let parts = walk-asked c (retargeted request node.0) None steps (subst (λ r. Meets c r steps) (sym node.2) found.2) in
        (parts.0, OneOf-member (λ n. GoesAsAsked (layout_of c.airport) (retargeted request n) None steps) nodes node.0 node.1 parts.1)

-- the first rule that the table breaks is that for the search
pub arrival_any-verdict : (c : Conditions) (from to : Node) (time hold : ℕ) (nodes : List Node) (bound : Option ℕ) (rows : List LabelRow) (verdict : Option RowRule)
    → IsTableVerdict Forward c (IsStartBy c (at_node from time (time + hold))) nodes bound rows verdict
    → (others : List Node) → IsAmong (Arrival from to time hold) nodes others → IsVerdictOn c (Arrival from to time hold) others None bound rows verdict
arrival_any-verdict c from to time hold nodes bound rows verdict told others among =
    subst (λ (ns : List Node). IsTableVerdict Forward c (IsStartBy c (at_node from time (time + hold))) ns bound rows verdict) (among.are ∙ ap (λ n. n ∷ others) (sym among.asks)) told

pub departure_any-verdict : (c : Conditions) (from to : Node) (time queue : ℕ) (nodes : List Node) (bound : Option ℕ) (rows : List LabelRow) (verdict : Option RowRule)
    → IsTableVerdict Backward c (IsFinishAt c nodes (time - queue) time) (from ∷ []) bound rows verdict
    → (others : List Node) → IsAmong (Departure from to time queue) nodes others → IsVerdictOn c (Departure from to time queue) others None bound rows verdict
departure_any-verdict c from to time queue nodes bound rows verdict told others among =
    subst (λ (ns : List Node). IsTableVerdict Backward c (IsFinishAt c ns (time - queue) time) (from ∷ []) bound rows verdict) (among.are ∙ ap (λ n. n ∷ others) (sym among.asks)) told

module _ {E : Type 0} (c : Conditions) (from to : Node) (time spare : ℕ) (nodes : List Node) (bound : Option ℕ) (rows : List LabelRow) where
  pub arrival_any-ok : (r : Result (Option RowRule) E) → IfOk r (IsTableVerdict Forward c (IsStartBy c (at_node from time (time + spare))) nodes bound rows)
      → IfOk r (λ verdict. (others : List Node) → IsAmong (Arrival from to time spare) nodes others → IsVerdictOn c (Arrival from to time spare) others None bound rows verdict)
  arrival_any-ok (Err e) told = tt
  arrival_any-ok (Ok verdict) told = arrival_any-verdict c from to time spare nodes bound rows verdict told

  pub departure_any-ok : (r : Result (Option RowRule) E) → IfOk r (IsTableVerdict Backward c (IsFinishAt c nodes (time - spare) time) (from ∷ []) bound rows)
      → IfOk r (λ verdict. (others : List Node) → IsAmong (Departure from to time spare) nodes others → IsVerdictOn c (Departure from to time spare) others None bound rows verdict)
  departure_any-ok (Err e) told = tt
  departure_any-ok (Ok verdict) told = departure_any-verdict c from to time spare nodes bound rows verdict told

-- a search through the nodes for one with P
module _ (P : Node → Type 0) (nodes : List Node) where
  pub one-found : (i : ℕ) (d : Node) → i < length nodes → P (get_or nodes i d) → IsTrue true ↔ OneOf P nodes
  one-found i d low here = (λ _. OneOf-member P nodes (get_or nodes i d) (Contains-get_or nodes i d low) here, λ _. refl)

  pub none-found : (i : ℕ) → length nodes ≤ i → All (λ n. P n → ⊥) (take i nodes) → IsTrue false ↔ OneOf P nodes
  none-found i past none = (λ e. absurd (false≢true e), λ one. absurd (some (OneOf-found P nodes one))) where
    some : (n : Node) × Contains nodes n × P n → ⊥
    some (n, among, holds) = All-contains (λ n. P n → ⊥) nodes n (subst (All (λ n. P n → ⊥)) (take_all i nodes past) none) among holds

-- what stands for a node that is not there
abbrev pub no_node : Node
no_node = record { 0 = 0 }
