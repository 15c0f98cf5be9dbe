-- How many ends of segments are at each node once a node or a segment is added.
use Rattle.std.proofs.Common.{◌≡◌, ◌≢◌, ℕ, ◌<◌, ◌≤◌, ◌+◌, ◌-◌, List, [], ◌∷◌, ◌++◌, length, length-append, get_or, set, refl, sym, ap, subst, arith, inl, inr, ◌∙◌, get_or-set_same, get_or-set_other, length-set, eq-eqb}
use Rattle.std.specs.Prelude.{All, ◌==◌, if◌then◌else◌, nat_lt, ◌||◌}
use Rattle.std.proofs.lemmas.Bool.{cases_Bool, cases_lt, both_ways, eqb-true}
use Rattle.std.proofs.lemmas.Bool.Decides.{nat_tests}
use Rattle.std.proofs.lemmas.List.{get_or_append_left, get_or_push}
use Rattle.std.proofs.lemmas.List.Elements.{All-push, All-head, All-tail, All-weaker}
use Rattle.std.proofs.lemmas.List.Sums.{sum_by-append}
use Rattle.taxi_base.specs.Airport.{Link, own_ends, link_ends}
use Rattle.airport_rules.specs.Rules.{is_crowded}
use Rattle.airport_rules.specs.Indexed.{AreCounted}

abbrev pub AreWithin : ℕ → List Link → Type 0
AreWithin nodes links = All (λ (l : Link). (l.from.0 < nodes) × (l.to.0 < nodes)) links

-- no end is at a node past the others
pub link_ends-past : (nodes : ℕ) (links : List Link) → AreWithin nodes links → link_ends (record { 0 = nodes }) links ≡ 0
link_ends-past nodes [] h = refl
link_ends-past nodes (l ∷ links) h =
    let here : (l.from.0 < nodes) × (l.to.0 < nodes) = All-head (λ (l : Link). (l.from.0 < nodes) × (l.to.0 < nodes)) l links h in
    let rest = link_ends-past nodes links (All-tail (λ (l : Link). (l.from.0 < nodes) × (l.to.0 < nodes)) l links h) in
    grind (arith, nat_tests, here, rest)

pub AreCounted-node : (nodes : ℕ) (links : List Link) (ends : List ℕ) → AreCounted nodes links ends → AreCounted (nodes + 1) links (ends ++ 0 ∷ [])
AreCounted-node nodes links ends h = record {
  within = All-weaker (λ (l : Link). (l.from.0 < nodes) × (l.to.0 < nodes)) (λ (l : Link). (l.from.0 < nodes + 1) × (l.to.0 < nodes + 1)) (λ l w. (omega (arith, w.0), omega (arith, w.1))) links h.within;
  each = rw length-append (ap (λ n. n + 1) h.each);
  count = λ k below. elim (cases_lt k (length ends)) [
    | inl old ↦ get_or_append_left ends (0 ∷ []) 0 k old ∙ h.count k old
    | inr new ↦
        let same : k ≡ nodes = omega (arith, new, below, h.each, length-append ends (0 ∷ [])) in
        get_or_push ends 0 0 k (omega (arith, same, h.each)) ∙ sym (subst (λ z. link_ends (record { 0 = z }) links ≡ 0) (sym same) (link_ends-past nodes links h.within))
  ];
}

-- the ends at a node, with those of one more segment
pub link_ends-push : (k : ℕ) (links : List Link) (l : Link) → link_ends (record { 0 = k }) (links ++ l ∷ []) ≡ link_ends (record { 0 = k }) links + own_ends (record { 0 = k }) l
link_ends-push k links l = sum_by-append (own_ends (record { 0 = k })) links (l ∷ []) ∙ ap (λ n. link_ends (record { 0 = k }) links + n) (omega arith)

-- the counts with one more at a place
abbrev pub with_end : List ℕ → ℕ → List ℕ
with_end ends at = set ends at (get_or ends at 0 + 1)

pub with_end-at : (ends : List ℕ) (at k : ℕ) → at < length ends → get_or (with_end ends at) k 0 ≡ get_or ends k 0 + (if at == k then 1 else 0)
with_end-at ends at k h = elim (cases_Bool (at == k)) [
  | inl same ↦
      let is : at ≡ k = eqb-true at k same in
      rw same (subst (λ z. get_or (with_end ends at) z 0 ≡ get_or ends z 0 + 1) is (get_or-set_same ends at (get_or ends at 0 + 1) 0 h))
  | inr other ↦
      let apart : k ≢ at = λ e. both_ways (at == k) other (eq-eqb at k (sym e)) in
      rw other (get_or-set_other ends at k (get_or ends at 0 + 1) 0 apart ∙ omega arith)
]

pub AreCounted-link : (nodes : ℕ) (links : List Link) (ends : List ℕ) (l : Link) → AreCounted nodes links ends → l.from.0 < nodes → l.to.0 < nodes
    → AreCounted nodes (links ++ l ∷ []) (with_end (with_end ends l.from.0) l.to.0)
AreCounted-link nodes links ends l h from to = record {
  within = All-push (λ (l : Link). (l.from.0 < nodes) × (l.to.0 < nodes)) links l h.within (from, to);
  each = simp length-set h.each;
  count = λ k below.
      let within : k < length ends = simp (length-set) at below in
      with_end-at (with_end ends l.from.0) l.to.0 k (simp length-set (omega (arith, to, h.each)))
      ∙ ap (λ n. n + (if l.to.0 == k then 1 else 0)) (with_end-at ends l.from.0 k (omega (arith, from, h.each)))
      ∙ ap (λ n. (n + (if l.from.0 == k then 1 else 0)) + (if l.to.0 == k then 1 else 0)) (h.count k within)
      ∙ omega (arith, link_ends-push k links l);
}

-- whether a node would be crowded, by the counts
pub is_crowded-counts : (nodes : ℕ) (links : List Link) (ends : List ℕ) (l : Link) → AreCounted nodes links ends → l.from.0 < nodes → l.to.0 < nodes
    → is_crowded links l ≡ (nat_lt 32 (get_or ends l.from.0 0 + own_ends l.from l) || nat_lt 32 (get_or ends l.to.0 0 + own_ends l.to l))
is_crowded-counts nodes links ends l h from to =
    let at_from : link_ends l.from (links ++ l ∷ []) ≡ get_or ends l.from.0 0 + own_ends l.from l =
    link_ends-push l.from.0 links l ∙ ap (λ n. n + own_ends l.from l) (sym (h.count l.from.0 (omega (arith, from, h.each)))) in
    let at_to : link_ends l.to (links ++ l ∷ []) ≡ get_or ends l.to.0 0 + own_ends l.to l =
    link_ends-push l.to.0 links l ∙ ap (λ n. n + own_ends l.to l) (sym (h.count l.to.0 (omega (arith, to, h.each)))) in
    ap (λ n. nat_lt 32 n || nat_lt 32 (link_ends l.to (links ++ l ∷ []))) at_from
    ∙ ap (λ n. nat_lt 32 (get_or ends l.from.0 0 + own_ends l.from l) || nat_lt 32 n) at_to

-- how many of its ends a new segment has at each of its nodes
pub own_ends-from : (l : Link) (new : ℕ) → new ≡ (if l.from.0 == l.to.0 then 2 else 1) → own_ends l.from l ≡ new
own_ends-from l new e = grind (arith, nat_tests)

pub own_ends-to : (l : Link) (new : ℕ) → new ≡ (if l.from.0 == l.to.0 then 2 else 1) → own_ends l.to l ≡ new
own_ends-to l new e = grind (arith, nat_tests)

over : (a new : ℕ) → new ≤ 32 → nat_lt 32 (a + new) ≡ nat_lt (32 - new) a
over a new few = grind (arith, nat_tests)

-- the test that the code makes
pub is_crowded-tests : (nodes : ℕ) (links : List Link) (ends : List ℕ) (l : Link) (new : ℕ) → AreCounted nodes links ends → l.from.0 < nodes → l.to.0 < nodes
    → new ≡ (if l.from.0 == l.to.0 then 2 else 1) → new ≤ 32
    → is_crowded links l ≡ (nat_lt (32 - new) (get_or ends l.from.0 0) || nat_lt (32 - new) (get_or ends l.to.0 0))
is_crowded-tests nodes links ends l new h from to e few =
    is_crowded-counts nodes links ends l h from to
    ∙ rw (own_ends-from l new e, own_ends-to l new e, over (get_or ends l.from.0 0) new few, over (get_or ends l.to.0 0) new few) refl
