-- What is known of a graph's ends, turns and degrees holds with one more segment.
use Rattle.std.proofs.Common.{◌≡◌, ℕ, ◌≤◌, ◌/◌, ◌%◌, zero, suc, true, false, List, [], ◌∷◌, ◌++◌, Option, Some, None, refl, subst, arith, inl, inr}
use Rattle.std.specs.Prelude.{◌==◌, not, slice_get, option_map, option_and_then}
use Rattle.std.proofs.lemmas.Bool.{cases_Bool, eqb-true, and_parts}
use Rattle.std.proofs.lemmas.Bool.Decides.{nat_tests}
use Rattle.taxi_base.specs.declared.numbers.Node.{Node}
use Rattle.taxi_base.specs.declared.numbers.Arc.{Arc}
use Rattle.taxi_base.specs.Airport.{Link, Layout, Ends, ends_of_link, head, tail, meet, ends, own_ends, link_ends}
use Rattle.airport_rules.specs.Rules.{is_crowded, goes_on}
use Rattle.airport_rules.proofs.CountLaws.{link_ends-push}

-- arcs depend on the links alone
pub goes_on-links : (a b : Layout) (x y : Arc) → a.links ≡ b.links → goes_on a x y ≡ goes_on b x y
unfolding ends
goes_on-links a b x y e = rw e refl

slice_get-more : {X : Type 0} (xs : List X) (y x : X) (k : ℕ) → slice_get xs k ≡ Some x → slice_get (xs ++ y ∷ []) k ≡ Some x
slice_get-more [] y x k e = absurd (cc e)
slice_get-more (z ∷ xs) y x zero e = e
slice_get-more (z ∷ xs) y x (suc k) e = slice_get-more xs y x k e

-- an arc keeps its ends
ends-more : (links : List Link) (l : Link) (a b : Layout) (arc : Arc) (e : Ends) → a.links ≡ links → b.links ≡ links ++ l ∷ [] → ends a arc ≡ Some e → ends b arc ≡ Some e
unfolding ends
ends-more links l a b arc e old new found = rw new (go (slice_get links (arc.0 / 2)) refl (rw old at found))
  where
    go : (o : Option Link) → slice_get links (arc.0 / 2) ≡ o → option_and_then (ends_of_link (arc.0 % 2)) o ≡ Some e
        → option_and_then (ends_of_link (arc.0 % 2)) (slice_get (links ++ l ∷ []) (arc.0 / 2)) ≡ Some e
    go (Some k) is h = rw (slice_get-more links l k (arc.0 / 2) is) h
    go None is h = absurd (cc h)

meet-more : (a b c d : Option Ends) → ((e : Ends) → a ≡ Some e → c ≡ Some e) → ((e : Ends) → b ≡ Some e → d ≡ Some e)
    → meet (option_map (λ e. e.head) a) (option_map (λ e. e.tail) b) ≡ true → meet (option_map (λ e. e.head) c) (option_map (λ e. e.tail) d) ≡ true
meet-more (Some a) (Some b) c d f g h = rw (f a refl, g b refl) h
meet-more (Some a) None c d f g h = absurd (cc h)
meet-more None b c d f g h = absurd (cc h)

pub goes_on-more : (links : List Link) (l : Link) (a b : Layout) (x y : Arc) → a.links ≡ links → b.links ≡ links ++ l ∷ [] → goes_on a x y ≡ true → goes_on b x y ≡ true
goes_on-more links l a b x y old new h =
    let parts = and_parts (meet (head a x) (tail a y)) (not (x.0 / 2 == y.0 / 2)) h in
    let joined = meet-more (ends a x) (ends a y) (ends b x) (ends b y) (λ e. ends-more links l a b x e old new) (λ e. ends-more links l a b y e old new) parts.0 in
    rw (joined, parts.1) refl

-- elsewhere no end is added
own_ends-other : (k : ℕ) (l : Link) → (l.from.0 == k) ≡ false → (l.to.0 == k) ≡ false → own_ends (record { 0 = k }) l ≡ 0
own_ends-other k l a b = rw (a, b) refl

pub degree-more : (links : List Link) (l : Link) → ((node : Node) → link_ends node links ≤ 32) → is_crowded links l ≡ false → (node : Node) → link_ends node (links ++ l ∷ []) ≤ 32
degree-more links l h room node = elim (cases_Bool (l.from.0 == node.0)) [
  | inl same ↦
      let is : l.from.0 ≡ node.0 = eqb-true l.from.0 node.0 same in
      let few : link_ends l.from (links ++ l ∷ []) ≤ 32 = grind (arith, nat_tests, room) in
      subst (λ k. link_ends (record { 0 = k }) (links ++ l ∷ []) ≤ 32) is few
  | inr other ↦ elim (cases_Bool (l.to.0 == node.0)) [
    | inl same ↦
        let is : l.to.0 ≡ node.0 = eqb-true l.to.0 node.0 same in
        let few : link_ends l.to (links ++ l ∷ []) ≤ 32 = grind (arith, nat_tests, room) in
        subst (λ k. link_ends (record { 0 = k }) (links ++ l ∷ []) ≤ 32) is few
    | inr elsewhere ↦ omega (arith, link_ends-push node.0 links l, own_ends-other node.0 l other elsewhere, h node)
  ]
]
