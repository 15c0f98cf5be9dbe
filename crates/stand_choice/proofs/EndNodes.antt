-- The node at the end of a route.
use Rattle.std.proofs.Common.{◌≡◌, ℕ, List, [], ◌∷◌, IsTrue, Option, Some, None, refl, sym, ◌∙◌, subst}
use Rattle.std.specs.Prelude.{Contains, is_some, option_map}
use Rattle.taxi_base.specs.declared.numbers.Node.{Node}
use Rattle.taxi_base.specs.declared.numbers.Arc.{Arc}
use Rattle.taxi_base.specs.declared.rows.Step.{Step}
use Rattle.taxi_base.specs.Airport.{Layout, Ends, ends, head, arc_exists}
use Rattle.taxi_base.specs.Walks.{AtLast, ReachesNode, ReachesNodeWithin}
use Rattle.taxi_base.specs.Choices.{ReachesOneOf, ReachesOneOfWithin}
use Rattle.taxi_base.proofs.OneOfLaws.{OneOf-found}
use Rattle.taxi_base.proofs.WalkLaws.{AtLast-weaker, AtLast-both}

Some-same : (m n : Node) → ◌≡◌ {A = Option Node} (Some m) (Some n) → m ≡ n
Some-same m n e = cc

-- an arc with a head exists
head-exists : (layout : Layout) (arc : Arc) (node : Node) → head layout arc ≡ Some node → IsTrue (arc_exists layout arc)
head-exists layout arc node e = go (ends layout arc) e where
  go : (o : Option Ends) → option_map (λ (v : Ends). v.head) o ≡ Some node → IsTrue (is_some o)
  go (Some v) e = refl
  go None e = absurd (cc e)

-- the last step of a route to one of some nodes is by an arc that exists
pub end-exists : (layout : Layout) (nodes : List Node) (steps : List Step) → AtLast (ReachesOneOf layout nodes) steps → AtLast (λ s. IsTrue (arc_exists layout s.arc)) steps
end-exists layout nodes steps =
    AtLast-weaker (ReachesOneOf layout nodes) (λ s. IsTrue (arc_exists layout s.arc))
    (λ s reaches. let found = OneOf-found (λ n. ReachesNode layout n s) nodes reaches in head-exists layout s.arc found.0 found.2) steps

-- and where that reaches a node, it is one of them
pub end-among : (layout : Layout) (nodes : List Node) (node : Node) (steps : List Step) → AtLast (ReachesOneOf layout nodes) steps → AtLast (ReachesNode layout node) steps → Contains nodes node
end-among layout nodes node steps =
    AtLast-both (ReachesOneOf layout nodes) (ReachesNode layout node) (Contains nodes node)
    (λ s one here. let found = OneOf-found (λ n. ReachesNode layout n s) nodes one in
    subst (Contains nodes) (Some-same found.0 node (sym found.2 ∙ here)) found.1) steps

-- within a time
pub within-one : (layout : Layout) (nodes : List Node) (earliest latest : ℕ) (steps : List Step) → AtLast (ReachesOneOfWithin layout nodes earliest latest) steps
    → AtLast (λ s. IsTrue (arc_exists layout s.arc)) steps
within-one layout nodes earliest latest steps =
    AtLast-weaker (ReachesOneOfWithin layout nodes earliest latest) (λ s. IsTrue (arc_exists layout s.arc))
    (λ s reaches. let found = OneOf-found (λ n. ReachesNodeWithin layout n earliest latest s) nodes reaches in head-exists layout s.arc found.0 found.2.reaches) steps

pub within-among : (layout : Layout) (nodes : List Node) (earliest latest : ℕ) (node : Node) (steps : List Step) → AtLast (ReachesOneOfWithin layout nodes earliest latest) steps
    → AtLast (ReachesNode layout node) steps → Contains nodes node
within-among layout nodes earliest latest node steps =
    AtLast-both (ReachesOneOfWithin layout nodes earliest latest) (ReachesNode layout node) (Contains nodes node)
    (λ s one here. let found = OneOf-found (λ n. ReachesNodeWithin layout n earliest latest s) nodes one in
    subst (Contains nodes) (Some-same found.0 node (sym found.2.reaches ∙ here)) found.1) steps

pub within-node : (layout : Layout) (nodes : List Node) (earliest latest : ℕ) (node : Node) (steps : List Step) → AtLast (ReachesOneOfWithin layout nodes earliest latest) steps
    → AtLast (ReachesNode layout node) steps → AtLast (ReachesNodeWithin layout node earliest latest) steps
within-node layout nodes earliest latest node steps one here = ends steps one here where
  ends : (steps : List Step) → AtLast (ReachesOneOfWithin layout nodes earliest latest) steps → AtLast (ReachesNode layout node) steps → AtLast (ReachesNodeWithin layout node earliest latest) steps
  ends [] one here = absurd one
  ends (s ∷ []) one here =
      let found = OneOf-found (λ n. ReachesNodeWithin layout n earliest latest s) nodes one in
      record { reaches = here; not_before = found.2.not_before; not_after = found.2.not_after }
  ends (s ∷ t ∷ steps) one here = ends (t ∷ steps) one here
