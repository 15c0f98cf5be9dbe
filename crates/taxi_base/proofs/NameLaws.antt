-- Names, and lists by rising names: what is put into such a list, and what has a name.
use Rattle.std.proofs.Common.{not, ◌<◌, ◌≡◌, ℕ, true, false, List, [], ◌∷◌, length, ◌+◌, is_some, IsTrue, IsFalse, refl, sym, ap, ◌∙◌, arith, inl, inr, ◌⊎◌}
use Rattle.std.specs.Prelude.{Contains, All, AllPairs, bytes_eq}
use Rattle.std.proofs.lemmas.Bool.{cases_Bool, false_from_ne_true, cond_both, both_ways}
use Rattle.std.proofs.lemmas.List.Elements.{All-weaker, All-cons, All-head, All-tail, All-nil, All-contains, All-contains_itself}
use Rattle.std.proofs.lemmas.List.Kept.{AllPairs-cons}
use Rattle.std.specs.Ordering.{nat_cmp, is_lt, is_eq, ordering_reverse}
use Rattle.std.specs.declared.cmp.Ordering.{Ordering}
use Rattle.std.specs.declared.cmp.Ordering.TheVariants.{Less, Equal, Greater}
use Rattle.std.specs.Cmp.Lexicographic.{slice_cmp, bytes_decides}
use Rattle.std.proofs.lemmas.Map.Text.{is_eq-slice_cmp}
use Rattle.std.proofs.lemmas.Cmp.{nat_list_cmp_total}
use Rattle.taxi_base.specs.State.{name_precedes, named, left_out, put_in}
use Rattle.std.proofs.lemmas.List.Sums.{length-filter, count_by-le-length}
use Rattle.taxi_base.proofs.ListLaws.{Contains-cons_cases, AllPairs-first, AllPairs-rest}

-- ---- one name before another

-- less is no tie
lt_no_tie : (o : Ordering) → IsTrue (is_lt o) → is_eq o ≡ true → ⊥
lt_no_tie Less lt tie = cc
lt_no_tie Equal lt tie = cc
lt_no_tie Greater lt tie = cc

lt_is_less : (o : Ordering) → IsTrue (is_lt o) → o ≡ Less
lt_is_less Less lt = refl
lt_is_less Equal lt = cc
lt_is_less Greater lt = cc

greater_since : (o : Ordering) → IsFalse (is_lt o) → is_eq o ≡ false → o ≡ Greater
greater_since Less not_lt not_eq = cc
greater_since Equal not_lt not_eq = cc
greater_since Greater not_lt not_eq = refl

-- names that differ do so either way round
pub differ-turned : (a b : List ℕ) → IsFalse (bytes_eq a b) → IsFalse (bytes_eq b a)
differ-turned a b differ = false_from_ne_true _ (λ e. both_ways _ differ ((bytes_decides a b).1 (sym ((bytes_decides b a).0 e))))

-- a name that stands before another is not that one
pub name_precedes-differ : (a b : List ℕ) → IsTrue (name_precedes a b) → IsFalse (bytes_eq b a)
name_precedes-differ a b h = false_from_ne_true _ (λ e.
    let same : b ≡ a = (bytes_decides b a).0 e in
    let tie : bytes_eq a b ≡ true = (bytes_decides a b).1 (sym same) in
    lt_no_tie (slice_cmp nat_cmp a b) h (is_eq-slice_cmp a b ∙ tie))

pub name_precedes-trans : (a b c : List ℕ) → IsTrue (name_precedes a b) → IsTrue (name_precedes b c) → IsTrue (name_precedes a c)
name_precedes-trans a b c ab bc =
    ap is_lt (nat_list_cmp_total.trans a b c (lt_is_less (slice_cmp nat_cmp a b) ab) (lt_is_less (slice_cmp nat_cmp b c) bc))

-- of two names, one stands before the other
pub name_precedes-turned : (a b : List ℕ) → IsFalse (name_precedes a b) → IsFalse (bytes_eq b a) → IsTrue (name_precedes b a)
name_precedes-turned a b not_before differ =
    let no_tie : is_eq (slice_cmp nat_cmp a b) ≡ false = is_eq-slice_cmp a b ∙ differ-turned b a differ in
    let greater : slice_cmp nat_cmp a b ≡ Greater = greater_since (slice_cmp nat_cmp a b) not_before no_tie in
    ap is_lt (nat_list_cmp_total.antisymm b a ∙ ap ordering_reverse greater)

-- no name stands before itself, nor two each before the other
pub name_precedes-not_itself : (a : List ℕ) → IsFalse (name_precedes a a)
name_precedes-not_itself a = false_from_ne_true _ (λ h. both_ways _ (name_precedes-differ a a h) ((bytes_decides a a).1 refl))

pub name_precedes-one_way : (a b : List ℕ) → IsTrue (name_precedes a b) → IsFalse (name_precedes b a)
name_precedes-one_way a b ab = false_from_ne_true _ (λ ba. both_ways _ (name_precedes-not_itself a) (name_precedes-trans a b a ab ba))

-- ---- lists by rising names

module _ {X : Type 0} (name_of : X → List ℕ) where
  abbrev Precedes : X → X → Type 0
  Precedes x y = IsTrue (name_precedes (name_of x) (name_of y))

  -- where nothing has a name, each has another
  pub none_named : (name : List ℕ) (xs : List X) → IsFalse (is_some (named name_of name xs)) → All (λ x. IsFalse (bytes_eq (name_of x) name)) xs
  none_named name [] none = All-nil (λ x. IsFalse (bytes_eq (name_of x) name))
  none_named name (x ∷ xs) none =
      elim (cases_Bool (bytes_eq (name_of x) name)) [
        | inl here ↦ absurd (cc (rw here at none))
        | inr other ↦ All-cons (λ x. IsFalse (bytes_eq (name_of x) name)) x xs other (none_named name xs (rw other at none))
      ]

  pub All-put_in : (P : X → Type 0) (x : X) → P x → (xs : List X) → All P xs → All P (put_in name_of x xs)
  All-put_in P x here [] all = All-cons P x [] here all
  All-put_in P x here (y ∷ ys) all =
      cond_both (name_precedes (name_of x) (name_of y)) (x ∷ y ∷ ys) (y ∷ put_in name_of x ys) (All P) (λ _. All-cons P x (y ∷ ys) here all)
      (λ _. All-cons P y (put_in name_of x ys) (All-head P y ys all) (All-put_in P x here ys (All-tail P y ys all)))

  -- what is in the new list is what was put in, or was there
  pub put_in-cases : (x : X) (xs : List X) (y : X) → Contains (put_in name_of x xs) y → (x ≡ y) ⊎ Contains xs y
  put_in-cases x xs y h =
      All-contains (λ y. (x ≡ y) ⊎ Contains xs y) (put_in name_of x xs) y
      (All-put_in (λ y. (x ≡ y) ⊎ Contains xs y) x (inl refl) xs
      (All-weaker (Contains xs) (λ y. (x ≡ y) ⊎ Contains xs y) (λ y there. inr there) xs (All-contains_itself xs))) h

  pub ordered-put_in : (x : X) (xs : List X) → AllPairs Precedes xs → All (λ y. IsFalse (bytes_eq (name_of y) (name_of x))) xs → AllPairs Precedes (put_in name_of x xs)
  ordered-put_in x [] ordered differ = AllPairs-cons Precedes x [] (All-nil (Precedes x)) ordered
  ordered-put_in x (y ∷ ys) ordered differ =
      let after : All (Precedes y) ys = AllPairs-first Precedes y ys ordered in
      cond_both (name_precedes (name_of x) (name_of y)) (x ∷ y ∷ ys) (y ∷ put_in name_of x ys) (AllPairs Precedes)
      (λ before. AllPairs-cons Precedes x (y ∷ ys)
      (All-cons (Precedes x) y ys before (All-weaker (Precedes y) (Precedes x) (λ z h. name_precedes-trans (name_of x) (name_of y) (name_of z) before h) ys after)) ordered)
      (λ not_before. AllPairs-cons Precedes y (put_in name_of x ys)
      (All-put_in (Precedes y) x
      (name_precedes-turned (name_of x) (name_of y) not_before (All-head (λ z. IsFalse (bytes_eq (name_of z) (name_of x))) y ys differ)) ys after)
      (ordered-put_in x ys (AllPairs-rest Precedes y ys ordered) (All-tail (λ z. IsFalse (bytes_eq (name_of z) (name_of x))) y ys differ)))

  pub length-put_in : (x : X) (xs : List X) → length (put_in name_of x xs) ≡ length xs + 1
  length-put_in x [] = refl
  length-put_in x (y ∷ ys) =
      cond_both (name_precedes (name_of x) (name_of y)) (x ∷ y ∷ ys) (y ∷ put_in name_of x ys) (λ zs. length zs ≡ length (y ∷ ys) + 1)
      (λ _. omega arith) (λ _. omega (arith, length-put_in x ys))

  -- once it is left out, nothing has the name
  pub none_left : (name : List ℕ) (xs : List X) → IsFalse (is_some (named name_of name (left_out name_of name xs)))
  none_left name [] = refl
  none_left name (x ∷ xs) =
      elim (cases_Bool (bytes_eq (name_of x) name)) [
        | inl here ↦ rw here (none_left name xs)
        | inr other ↦ rw (other, other) (none_left name xs)
      ]

  -- and what had the name is one fewer
  pub left_out-fewer : (x : X) (xs : List X) → Contains xs x → length (left_out name_of (name_of x) xs) < length xs
  left_out-fewer x [] there = absurd (omega (arith, there.1))
  left_out-fewer x (y ∷ ys) there =
      elim (cases_Bool (bytes_eq (name_of y) (name_of x))) [
        | inl here ↦ rw here (omega (arith, length-filter (λ z. not (bytes_eq (name_of z) (name_of x))) ys, count_by-le-length (λ z. not (bytes_eq (name_of z) (name_of x))) ys))
        | inr other ↦ rw other (omega (arith, left_out-fewer x ys (later other)))
      ]
    where
      later : IsFalse (bytes_eq (name_of y) (name_of x)) → Contains ys x
      later other = elim (Contains-cons_cases y x ys there) [
        | inl e ↦ absurd (both_ways _ other ((bytes_decides (name_of y) (name_of x)).1 (ap name_of e)))
        | inr rest ↦ rest
      ]
