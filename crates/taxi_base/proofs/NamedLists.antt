-- Things in the order of their names: what a place among them finds, and what an edit there does.
use Rattle.std.proofs.Common.{◌≡◌, ◌≢◌, ℕ, zero, suc, ◌<◌, ◌≤◌, List, [], ◌∷◌, length, get_or, insert, IsTrue, IsFalse, Some, None, refl, sym, ap, ◌∙◌, subst, inl, inr, arith}
use Rattle.std.proofs.lemmas.List.Kept.{AllPairs-cons}
use Rattle.std.specs.Prelude.{bytes_eq, AllPairs, All}
use Rattle.std.specs.List.{AllWithin, remove}
use Rattle.std.specs.Cmp.Lexicographic.{bytes_decides}
use Rattle.std.proofs.lemmas.Bool.{false_from_ne_true, both_ways, cond_both, cases_lt, cases_Bool}
use Rattle.taxi_base.specs.State.{name_precedes, named, left_out, put_in}
use Rattle.taxi_base.proofs.NameLaws.{name_precedes-not_itself, name_precedes-one_way}
use Rattle.taxi_base.proofs.ListLaws.{AllPairs-first, AllPairs-rest, All-insert}

-- no name stands before itself
before-other : (a b : List ℕ) → IsTrue (name_precedes a b) → a ≢ b
before-other a b before same = both_ways _ (subst (λ x. IsFalse (name_precedes a x)) same (name_precedes-not_itself a)) before

differ : (a b : List ℕ) → a ≢ b → IsFalse (bytes_eq a b)
differ a b other = false_from_ne_true _ (λ e. other ((bytes_decides a b).0 e))

module _ {X : Type 0} (name_of : X → List ℕ) where
  abbrev pub Precede : X → X → Type 0
  Precede x y = IsTrue (name_precedes (name_of x) (name_of y))

  -- ---- a name that nothing has

  pub absent-find : (name : List ℕ) (xs : List X) → All (λ x. name_of x ≢ name) xs → named name_of name xs ≡ None
  absent-find name [] none = refl
  absent-find name (x ∷ xs) none =
      rw (differ (name_of x) name (none 0 x (omega arith))) (absent-find name xs (λ k d low. none (suc k) d (omega arith)))

  pub absent-without : (name : List ℕ) (xs : List X) → All (λ x. name_of x ≢ name) xs → left_out name_of name xs ≡ xs
  absent-without name [] none = refl
  absent-without name (x ∷ xs) none =
      rw (differ (name_of x) name (none 0 x (omega arith))) (ap (λ (ys : List X). x ∷ ys) (absent-without name xs (λ k d low. none (suc k) d (omega arith))))

  -- nothing that is left without a name has it
  pub absent-left : (name : List ℕ) (xs : List X) → named name_of name (left_out name_of name xs) ≡ None
  absent-left name [] = refl
  absent-left name (x ∷ xs) =
      elim (cases_Bool (bytes_eq (name_of x) name)) [
        | inl here ↦ rw here (absent-left name xs)
        | inr other ↦ rw (other, other) (absent-left name xs)
      ]

  -- what is found by a name has it
  pub find-named : (name : List ℕ) (xs : List X) (x : X) → named name_of name xs ≡ Some x → name_of x ≡ name
  find-named name [] x found = absurd (cc found)
  find-named name (y ∷ ys) x found =
      cond_both (bytes_eq (name_of y) name) (Some y) (named name_of name ys) (λ o. o ≡ Some x → name_of x ≡ name)
      (λ same here. let one : y ≡ x = cc here in subst (λ (z : X). name_of z ≡ name) one ((bytes_decides (name_of y) name).0 same))
      (λ _ there. find-named name ys x there) found

  -- ---- the name at a place

  module _ (name : List ℕ) where
    pub find-here : (xs : List X) (place : ℕ) (d : X) → AllPairs Precede xs → place < length xs → name_of (get_or xs place d) ≡ name
        → named name_of name xs ≡ Some (get_or xs place d)
    find-here [] place d ordered low is_named = absurd (omega arith)
    find-here (x ∷ xs) zero d ordered low is_named = rw ((bytes_decides (name_of x) name).1 is_named) refl
    find-here (x ∷ xs) (suc place) d ordered low is_named =
        let other : name_of x ≢ name = λ e. before-other (name_of x) (name_of (get_or xs place d)) (AllPairs-first Precede x xs ordered place d (omega arith)) (e ∙ sym is_named) in
        rw (differ (name_of x) name other) (find-here xs place d (AllPairs-rest Precede x xs ordered) (omega arith) is_named)

    pub remove-here : (xs : List X) (place : ℕ) (d : X) → AllPairs Precede xs → place < length xs → name_of (get_or xs place d) ≡ name
        → remove xs place ≡ left_out name_of name xs
    remove-here [] place d ordered low is_named = absurd (omega arith)
    remove-here (x ∷ xs) zero d ordered low is_named =
        rw ((bytes_decides (name_of x) name).1 is_named) (sym (absent-without name xs (λ k e within e'.
        before-other (name_of x) (name_of (get_or xs k e)) (AllPairs-first Precede x xs ordered k e within) (is_named ∙ sym e'))))
    remove-here (x ∷ xs) (suc place) d ordered low is_named =
        let other : name_of x ≢ name = λ e. before-other (name_of x) (name_of (get_or xs place d)) (AllPairs-first Precede x xs ordered place d (omega arith)) (e ∙ sym is_named) in
        rw (differ (name_of x) name other) (ap (λ (ys : List X). x ∷ ys) (remove-here xs place d (AllPairs-rest Precede x xs ordered) (omega arith) is_named))

    -- ---- the place of a name that nothing has

    pub gap-absent : (xs : List X) (place : ℕ) → AllWithin (λ x. IsTrue (name_precedes (name_of x) name)) xs 0 place
        → AllWithin (λ x. IsTrue (name_precedes name (name_of x))) xs place (length xs) → All (λ x. name_of x ≢ name) xs
    gap-absent xs place before after k d low e =
        elim (cases_lt k place) [
          | inl h ↦ before-other (name_of (get_or xs k d)) name (before k d (omega arith) h) e
          | inr h ↦ before-other name (name_of (get_or xs k d)) (after k d h low) (sym e)
        ]

  pub insert-gap : (x : X) (xs : List X) (place : ℕ) → place ≤ length xs → AllWithin (λ y. IsTrue (name_precedes (name_of y) (name_of x))) xs 0 place
      → AllWithin (λ y. IsTrue (name_precedes (name_of x) (name_of y))) xs place (length xs) → insert xs place x ≡ put_in name_of x xs
  insert-gap x [] zero low before after = refl
  insert-gap x [] (suc place) low before after = absurd (omega arith)
  insert-gap x (y ∷ ys) zero low before after = rw (after 0 y (omega arith) (omega arith)) refl
  insert-gap x (y ∷ ys) (suc place) low before after =
      rw (name_precedes-one_way (name_of y) (name_of x) (before 0 y (omega arith) (omega arith)))
      (ap (λ (zs : List X). y ∷ zs) (insert-gap x ys place (omega arith) (λ k d from until. before (suc k) d (omega arith) (omega arith)) (λ k d from until. after (suc k) d (omega arith) (omega arith))))

-- what is put in where its name stands leaves the names in order
pub ordered-insert : {X : Type 0} (name_of : X → List ℕ) (x : X) (xs : List X) (place : ℕ) → place ≤ length xs → AllPairs (Precede name_of) xs
    → AllWithin (λ y. IsTrue (name_precedes (name_of y) (name_of x))) xs 0 place → AllWithin (λ y. IsTrue (name_precedes (name_of x) (name_of y))) xs place (length xs)
    → AllPairs (Precede name_of) (insert xs place x)
ordered-insert name_of x xs zero low ordered before after = AllPairs-cons (Precede name_of) x xs (λ k d within. after k d (omega arith) within) ordered
ordered-insert name_of x [] (suc place) low ordered before after = absurd (omega arith)
ordered-insert name_of x (y ∷ ys) (suc place) low ordered before after =
    AllPairs-cons (Precede name_of) y (insert ys place x)
    (All-insert (Precede name_of y) ys place x (before 0 y (omega arith) (omega arith)) (AllPairs-first (Precede name_of) y ys ordered))
    (ordered-insert name_of x ys place (omega arith) (AllPairs-rest (Precede name_of) y ys ordered)
    (λ k d from until. before (suc k) d (omega arith) (omega arith)) (λ k d from until. after (suc k) d (omega arith) (omega arith)))
