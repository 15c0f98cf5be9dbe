-- The first by name of the nodes that are as good as the best: of a list, and of its nodes that come before one of them.
use Rattle.std.proofs.Common.{◌≡◌, ◌<◌, Bool, List, [], ◌∷◌, length, get_or, IsFalse, refl, sym, subst, arith, inl, inr}
use Rattle.std.specs.Prelude.{Contains, filter}
use Rattle.std.proofs.lemmas.Bool.{cases_Bool, cond_both, both_ways, false_from_ne_true}
use Rattle.std.proofs.lemmas.List.Elements.{All-weaker, All-contains, All-contains_itself}
use Rattle.std.proofs.lemmas.List.Sums.{length-filter, count_by-le-length}
use Rattle.taxi_base.specs.declared.numbers.Node.{Node}
use Rattle.taxi_base.specs.Airport.{Airport, node_word}
use Rattle.taxi_base.specs.Choices.{node_precedes}
use Rattle.taxi_base.proofs.ListLaws.{Contains-first, Contains-cons_cases, Contains-filter, filter-Contains}
use Rattle.taxi_base.proofs.NameLaws.{name_precedes-not_itself, name_precedes-trans}
use Rattle.stand_choice.specs.Ways.{AreNodes, nodes_before, IsFirstByName}

-- without one that fails a test there are fewer
filter-fewer : {X : Type 0} (p : X → Bool) (xs : List X) (x : X) → Contains xs x → IsFalse (p x) → length (filter p xs) < length xs
filter-fewer p [] x there fails = absurd (omega (arith, there.1))
filter-fewer p (y ∷ xs) x there fails =
    elim (Contains-cons_cases y x xs there) [
      | inl e ↦ rw (subst (λ z. IsFalse (p z)) (sym e) fails) (omega (arith, length-filter p xs, count_by-le-length p xs))
      | inr rest ↦ cond_both (p y) (y ∷ filter p xs) (filter p xs) (λ zs. length zs < length (y ∷ xs))
          (λ _. omega (arith, filter-fewer p xs x rest fails)) (λ _. omega (arith, filter-fewer p xs x rest fails))
    ]

-- a list of no length is empty
pub empty : {X : Type 0} (xs : List X) → length xs ≡ 0 → xs ≡ []
empty [] none = refl
empty (x ∷ xs) none = absurd (omega arith)

-- and one of length one has its first alone
pub alone : {X : Type 0} (xs : List X) (d : X) → length xs ≡ 1 → xs ≡ get_or xs 0 d ∷ []
alone [] d one = absurd (omega arith)
alone (x ∷ []) d one = refl
alone (x ∷ y ∷ xs) d one = absurd (omega arith)

-- none comes before a node that is named alone
pub none_alone : (airport : Airport) (node n : Node) → Contains (nodes_before airport node (node ∷ [])) n → ⊥
none_alone airport node n there =
    omega (arith, filter-fewer (λ m. node_precedes airport m node) (node ∷ []) node (Contains-first node []) (name_precedes-not_itself (node_word airport node)), there.1)

module _ (airport : Airport) (nodes : List Node) where
  pub before-fewer : (node : Node) → Contains nodes node → length (nodes_before airport node nodes) < length nodes
  before-fewer node among = filter-fewer (λ n. node_precedes airport n node) nodes node among (name_precedes-not_itself (node_word airport node))

  pub before-among : (node n : Node) → Contains (nodes_before airport node nodes) n → Contains nodes n
  before-among node n there = (filter-Contains (λ m. node_precedes airport m node) nodes n there).0

  pub before-nodes : (node : Node) → AreNodes airport nodes → AreNodes airport (nodes_before airport node nodes)
  before-nodes node are =
      All-weaker (Contains (nodes_before airport node nodes)) (λ n. n.0 < length airport.nodes)
      (λ n there. All-contains (λ m. m.0 < length airport.nodes) nodes n are (before-among node n there))
      (nodes_before airport node nodes) (All-contains_itself (nodes_before airport node nodes))

  module _ (IsAsGood : Node → Type 0) where
    -- none of those before it is as good
    pub first-here : (node : Node) → Contains nodes node → IsAsGood node → ((n : Node) → Contains (nodes_before airport node nodes) n → IsAsGood n → ⊥)
        → IsFirstByName airport nodes IsAsGood node
    first-here node among good none = record {
      named = among;
      as_good = good;
      first = λ n there as_good. false_from_ne_true _ (λ before. none n (Contains-filter (λ m. node_precedes airport m node) nodes n there before) as_good);
    }

    -- the first of those before it
    pub first-before : (node to : Node) → IsFirstByName airport (nodes_before airport node nodes) IsAsGood to → IsFirstByName airport nodes IsAsGood to
    first-before node to is = record {
      named = before-among node to is.named;
      as_good = is.as_good;
      first = λ n there good.
          (elim (cases_Bool (node_precedes airport n node)) [
            | inl before ↦ is.first n (Contains-filter (λ m. node_precedes airport m node) nodes n there before) good
            | inr after ↦ false_from_ne_true _ (λ precedes. both_ways _ after
                (name_precedes-trans (node_word airport n) (node_word airport to) (node_word airport node) precedes
                (filter-Contains (λ m. node_precedes airport m node) nodes to is.named).1))
          ]);
    }
