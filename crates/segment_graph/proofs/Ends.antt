-- The ends of arcs: by the segments alone and in a layout, and that they exist.
use Rattle.std.proofs.Common.{◌≡◌, ℕ, zero, suc, ◌+◌, ◌/◌, ◌%◌, ◌<◌, Bool, true, false, List, length, Option, Some, None, inl, inr, IsTrue, refl, sym, ◌∙◌, ap, subst, arith}
use Rattle.std.specs.Prelude.{All, is_some, option_map, option_and_then}
use Rattle.std.proofs.lemmas.Option.{slice_get_cases, none-some, same_Some}
use Rattle.taxi_base.specs.declared.numbers.Node.{Node}
use Rattle.taxi_base.specs.declared.numbers.Arc.{Arc}
use Rattle.taxi_base.specs.Airport.{Link, Layout, Ends, ends_of_link, ends, tail, head, arc_exists}
use Rattle.segment_graph.specs.declared.links.Side.{Side}
use Rattle.segment_graph.specs.declared.links.Side.TheVariants.{Tail, Head}
use Rattle.segment_graph.specs.Groups.{tail_in, head_in, end_in}

pub same_node : (a b : Node) → a.0 ≡ b.0 → a ≡ b
same_node a b e = ap (λ n. let r : Node = record { 0 = n } in r) e

pub same_arc : (a b : Arc) → a.0 ≡ b.0 → a ≡ b
same_arc a b e = ap (λ n. let r : Arc = record { 0 = n } in r) e

-- ---- by the segments alone and in a layout

pub tail-is : (layout : Layout) (a : Arc) → tail layout a ≡ tail_in layout.links a
unfolding ends
tail-is layout a = refl

pub head-is : (layout : Layout) (a : Arc) → head layout a ≡ head_in layout.links a
unfolding ends
head-is layout a = refl

is_some-map : {A B : Type 0} (f : A → B) (o : Option A) → is_some (option_map f o) ≡ is_some o
is_some-map f (Some x) = refl
is_some-map f None = refl

pub arc_exists-tail : (layout : Layout) (a : Arc) → is_some (tail_in layout.links a) ≡ arc_exists layout a
unfolding ends
arc_exists-tail layout a = is_some-map (λ (e : Ends). e.tail) (ends layout a)

pub arc_exists-head : (layout : Layout) (a : Arc) → is_some (head_in layout.links a) ≡ arc_exists layout a
unfolding ends
arc_exists-head layout a = is_some-map (λ (e : Ends). e.head) (ends layout a)

-- ---- an arc that exists has a small number

pub end_in-low : (side : Side) (links : List Link) (a : Arc) (n : Node) → end_in side links a ≡ Some n → a.0 < length links + length links
end_in-low Tail links a n e =
    elim (slice_get_cases links (a.0 / 2)).1 [
      | inl found ↦ let low : a.0 / 2 < length links = found.1 in omega arith
      | inr past ↦
          let gone : tail_in links a ≡ None = ap (λ o. option_map (λ (v : Ends). v.tail) (option_and_then (ends_of_link (a.0 % 2)) o)) past.1 in
          absurd (none-some n (sym gone ∙ e))
    ]
end_in-low Head links a n e =
    elim (slice_get_cases links (a.0 / 2)).1 [
      | inl found ↦ let low : a.0 / 2 < length links = found.1 in omega arith
      | inr past ↦
          let gone : head_in links a ≡ None = ap (λ o. option_map (λ (v : Ends). v.head) (option_and_then (ends_of_link (a.0 % 2)) o)) past.1 in
          absurd (none-some n (sym gone ∙ e))
    ]

-- what there is, is some value
pub some-is : {A : Type 0} (o : Option A) → IsTrue (is_some o) → (x : A) × (o ≡ Some x)
some-is (Some x) h = (x, refl)
some-is None h = absurd (cc h)

pub arc_exists-low : (layout : Layout) (a : Arc) → IsTrue (arc_exists layout a) → a.0 < length layout.links + length layout.links
arc_exists-low layout a h =
    let there = some-is (tail_in layout.links a) (arc_exists-tail layout a ∙ h) in
    end_in-low Tail layout.links a there.0 there.1

-- ---- its ends are nodes

tail_within : (m : ℕ) (both : Bool) (from to n : Node) (nodes : ℕ) → from.0 < nodes → to.0 < nodes
    → option_map (λ (e : Ends). e.tail) (ends_of_link m (record { from = from; to = to; both = both })) ≡ Some n → n.0 < nodes
tail_within zero both from to n nodes f t e = subst (λ (k : Node). k.0 < nodes) (same_Some from n e) f
tail_within (suc m) true from to n nodes f t e = subst (λ (k : Node). k.0 < nodes) (same_Some to n e) t
tail_within (suc m) false from to n nodes f t e = absurd (none-some n e)

head_within : (m : ℕ) (both : Bool) (from to n : Node) (nodes : ℕ) → from.0 < nodes → to.0 < nodes
    → option_map (λ (e : Ends). e.head) (ends_of_link m (record { from = from; to = to; both = both })) ≡ Some n → n.0 < nodes
head_within zero both from to n nodes f t e = subst (λ (k : Node). k.0 < nodes) (same_Some to n e) t
head_within (suc m) true from to n nodes f t e = subst (λ (k : Node). k.0 < nodes) (same_Some from n e) f
head_within (suc m) false from to n nodes f t e = absurd (none-some n e)

pub end_in-exists : (side : Side) (links : List Link) (nodes : ℕ) (a : Arc) (n : Node) → All (λ l. (l.from.0 < nodes) × (l.to.0 < nodes)) links → end_in side links a ≡ Some n → n.0 < nodes
end_in-exists Tail links nodes a n exist e =
    elim (slice_get_cases links (a.0 / 2)).1 [
      | inl found ↦
          let link = found.0 in
          let both : (link.from.0 < nodes) × (link.to.0 < nodes) = subst (λ (l : Link). (l.from.0 < nodes) × (l.to.0 < nodes)) found.3 (exist (a.0 / 2) link found.1) in
          let is = ap (λ o. option_map (λ (v : Ends). v.tail) (option_and_then (ends_of_link (a.0 % 2)) o)) found.2 in
          tail_within (a.0 % 2) link.both link.from link.to n nodes both.0 both.1 (sym is ∙ e)
      | inr past ↦
          let gone : tail_in links a ≡ None = ap (λ o. option_map (λ (v : Ends). v.tail) (option_and_then (ends_of_link (a.0 % 2)) o)) past.1 in
          absurd (none-some n (sym gone ∙ e))
    ]
end_in-exists Head links nodes a n exist e =
    elim (slice_get_cases links (a.0 / 2)).1 [
      | inl found ↦
          let link = found.0 in
          let both : (link.from.0 < nodes) × (link.to.0 < nodes) = subst (λ (l : Link). (l.from.0 < nodes) × (l.to.0 < nodes)) found.3 (exist (a.0 / 2) link found.1) in
          let is = ap (λ o. option_map (λ (v : Ends). v.head) (option_and_then (ends_of_link (a.0 % 2)) o)) found.2 in
          head_within (a.0 % 2) link.both link.from link.to n nodes both.0 both.1 (sym is ∙ e)
      | inr past ↦
          let gone : head_in links a ≡ None = ap (λ o. option_map (λ (v : Ends). v.head) (option_and_then (ends_of_link (a.0 % 2)) o)) past.1 in
          absurd (none-some n (sym gone ∙ e))
    ]
