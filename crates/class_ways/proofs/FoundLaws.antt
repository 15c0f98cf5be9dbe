-- Arcs that are found one after the other: their marks, and what they gain.
use Rattle.std.proofs.Common.{◌≡◌, ◌⊎◌, ℕ, ◌+◌, ◌<◌, Bool, true, false, ◌||◌, List, [], ◌∷◌, ◌++◌, length, get_or, take, All, Contains, IsTrue, if◌then◌else◌, inl, inr, refl, sym, ◌∙◌, ap, subst, arith, append_assoc, append-nil}
use Rattle.std.specs.Prelude.{◌==◌}
use Rattle.std.proofs.lemmas.Bool.{cases_Bool, cases_lt, false≢true, or_left, or_right, eq-eqb}
use Rattle.std.proofs.lemmas.List.{take_more}
use Rattle.std.proofs.lemmas.List.Elements.{All-append, All-nil, All-cons, All-contains, Contains-append_left, Contains-push, Contains-push_cases}
use Rattle.std.proofs.lemmas.List.Folds.{list_any-append}
use Rattle.taxi_base.specs.declared.numbers.Arc.{Arc}
use Rattle.taxi_base.proofs.InOrder.{Contains-test}
use Rattle.class_ways.specs.Found.{FoundArcs, has_arc, with_arc, Gained}

abbrev arc_number : Arc → ℕ
arc_number a = a.0

pub same_arc : (a b : Arc) → a.0 ≡ b.0 → a ≡ b
same_arc a b e = ap (λ n. let r : Arc = record { 0 = n } in r) e

pub has-Contains : (arcs : List Arc) (arc : Arc) → IsTrue (has_arc arcs arc) → Contains arcs arc
has-Contains arcs arc h = Contains-test arc_number same_arc arcs arc h

pub has-append : (xs ys : List Arc) (arc : Arc) → has_arc (xs ++ ys) arc ≡ (has_arc xs arc || has_arc ys arc)
has-append xs ys arc = list_any-append (λ a. a.0 == arc.0) xs ys

-- ---- what is gained

pub gained-none : (Wanted : Arc → Type 0) (found : FoundArcs) → ((arc : Arc) → Wanted arc → ⊥) → Gained Wanted found found
gained-none Wanted found none = record {
  limit = refl;
  more = [];
  longer = sym (append-nil found.arcs);
  wanted = All-nil Wanted;
  all = λ arc h. absurd (none arc h);
}

pub gained-arc : (found : FoundArcs) (arc : Arc) → Gained (λ a. arc ≡ a) found (with_arc found arc)
gained-arc found arc = elim (cases_Bool (has_arc found.arcs arc)) [
  | inl there ↦
      rw there
      (record {
        limit = refl;
        more = [];
        longer = sym (append-nil found.arcs);
        wanted = All-nil (λ a. arc ≡ a);
        all = λ a e. subst (λ x. IsTrue (has_arc found.arcs x)) e there;
      })
  | inr new ↦
      rw new
      (record {
        limit = refl;
        more = arc ∷ [];
        longer = refl;
        wanted = All-cons (λ a. arc ≡ a) arc [] refl (All-nil (λ a. arc ≡ a));
        all = λ a e.
            has-append found.arcs (arc ∷ []) a ∙ or_right (has_arc found.arcs a) (has_arc (arc ∷ []) a) (or_left (arc.0 == a.0) false (eq-eqb arc.0 a.0 (ap arc_number e)));
      })
]

pub has-more : (P : Arc → Type 0) (old new : FoundArcs) → Gained P old new → (arc : Arc) → IsTrue (has_arc old.arcs arc) → IsTrue (has_arc new.arcs arc)
has-more P old new gained arc h = rw gained.longer (has-append old.arcs gained.more arc ∙ or_left (has_arc old.arcs arc) (has_arc gained.more arc) h)

weaker : (P Q : Arc → Type 0) (arcs : List Arc) → ((arc : Arc) → P arc → Q arc) → All P arcs → All Q arcs
weaker P Q arcs to all = λ k d low. to (get_or arcs k d) (all k d low)

-- first the ones, and then the others
pub gained-both : (P Q R : Arc → Type 0) (old mid new : FoundArcs) → ((arc : Arc) → P arc → R arc) → ((arc : Arc) → Q arc → R arc) → ((arc : Arc) → R arc → P arc ⊎ Q arc)
    → Gained P old mid → Gained Q mid new → Gained R old new
gained-both P Q R old mid new from_p from_q to p q = record {
  limit = q.limit ∙ p.limit;
  more = p.more ++ q.more;
  longer = q.longer ∙ ap (λ xs. xs ++ q.more) p.longer ∙ append_assoc old.arcs p.more q.more;
  wanted = All-append R p.more q.more (weaker P R p.more from_p p.wanted) (weaker Q R q.more from_q q.wanted);
  all = λ arc h. elim (to arc h) [ inl one ↦ has-more Q mid new q arc (p.all arc one) | inr other ↦ q.all arc other ];
}

pub gained-same : (P R : Arc → Type 0) (old new : FoundArcs) → ((arc : Arc) → P arc → R arc) → ((arc : Arc) → R arc → P arc) → Gained P old new → Gained R old new
gained-same P R old new from to p = record {
  limit = p.limit;
  more = p.more;
  longer = p.longer;
  wanted = weaker P R p.more from p.wanted;
  all = λ arc h. p.all arc (to arc h);
}

-- an arc, if it is wanted
pub gained-if : (wanted : Bool) (found : FoundArcs) (arc : Arc) → Gained (λ a. (arc ≡ a) × IsTrue wanted) found (if wanted then with_arc found arc else found)
gained-if true found arc = gained-same (λ a. arc ≡ a) (λ a. (arc ≡ a) × IsTrue true) found (with_arc found arc) (λ a e. (e, refl)) (λ a h. h.0) (gained-arc found arc)
gained-if false found arc = gained-none (λ a. (arc ≡ a) × IsTrue false) found (λ a h. false≢true h.1)

-- one number more of those that are wanted
pub gained-number : (wanted : Arc → Bool) (number : ℕ) (old mid new : FoundArcs) → Gained (λ a. (a.0 < number) × IsTrue (wanted a)) old mid
    → new ≡ (if wanted (record { 0 = number }) then with_arc mid (record { 0 = number }) else mid) → Gained (λ a. (a.0 < number + 1) × IsTrue (wanted a)) old new
gained-number wanted number old mid new so_far is =
    let here : Arc = record { 0 = number } in
    gained-both (λ a. (a.0 < number) × IsTrue (wanted a)) (λ a. (here ≡ a) × IsTrue (wanted here)) (λ a. (a.0 < number + 1) × IsTrue (wanted a)) old mid new
    (λ a h. (let below = h.0 in omega (arith, below), h.1))
    (λ a h. (let at = ap arc_number h.0 in omega (arith, at), subst (λ x. IsTrue (wanted x)) h.0 h.1))
    (λ a h. elim (cases_lt a.0 number) [
      | inl below ↦ inl (below, h.1)
      | inr past ↦ let same : here ≡ a = same_arc here a (let under = h.0 in omega (arith, past, under)) in inr (same, subst (λ x. IsTrue (wanted x)) (sym same) h.1)
    ])
    so_far (rw is (gained-if (wanted here) mid here))

-- one item more of those that are wanted
pub gained-item : (wanted : Arc → Bool) (row : List Arc) (i : ℕ) (d : Arc) (old mid new : FoundArcs) → i < length row
    → Gained (λ a. Contains (take i row) a × IsTrue (wanted a)) old mid → new ≡ (if wanted (get_or row i d) then with_arc mid (get_or row i d) else mid)
    → Gained (λ a. Contains (take (i + 1) row) a × IsTrue (wanted a)) old new
gained-item wanted row i d old mid new low so_far is =
    let x = get_or row i d in
    let more : take (i + 1) row ≡ take i row ++ x ∷ [] = take_more row i d low in
    gained-both (λ a. Contains (take i row) a × IsTrue (wanted a)) (λ a. (x ≡ a) × IsTrue (wanted x)) (λ a. Contains (take (i + 1) row) a × IsTrue (wanted a)) old mid new
    (λ a h. (rw more (Contains-append_left (take i row) (x ∷ []) a h.0), h.1))
    (λ a h. (rw more (subst (Contains (take i row ++ x ∷ [])) h.0 (Contains-push (take i row) x)), subst (λ y. IsTrue (wanted y)) h.0 h.1))
    (λ a h. elim (Contains-push_cases (take i row) x a (rw more at h.0)) [
      | inl before ↦ inl (before, h.1)
      | inr same ↦ inr (same, subst (λ y. IsTrue (wanted y)) (sym same) h.1)
    ])
    so_far (rw is (gained-if (wanted x) mid x))

-- of those that were gained from nothing
pub gained-only : (P : Arc → Type 0) (old new : FoundArcs) → Gained P old new → old.arcs ≡ [] → (arc : Arc) → IsTrue (has_arc new.arcs arc) → P arc
gained-only P old new gained none arc has =
    let all : new.arcs ≡ gained.more = gained.longer ∙ ap (λ arcs. arcs ++ gained.more) none in
    All-contains P gained.more arc gained.wanted (has-Contains gained.more arc (rw all at has))
