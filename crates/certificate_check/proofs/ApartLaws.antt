-- What is left without all that some names name.
use Rattle.std.proofs.Common.{◌≡◌, ◌∙◌, ℕ, false, List, [], ◌∷◌, IsFalse, inl, inr, refl, sym, ap}
use Rattle.std.specs.Prelude.{All, filter, bytes_eq, is_none}
use Rattle.std.specs.Cmp.Lexicographic.{bytes_decides}
use Rattle.std.proofs.lemmas.Bool.{cases_Bool, cond_both, true≢false, false_from_ne_true}
use Rattle.std.proofs.lemmas.List.Elements.{All-head, All-tail}
use Rattle.taxi_base.specs.State.{named, left_out, put_in, name_precedes}

module _ {X Y : Type 0} (name_of : X → List ℕ) (its_name : Y → List ℕ) where
  -- the ys that no x names
  abbrev pub unnamed : List X → List Y → List Y
  unnamed xs ys = filter (λ y. is_none (named name_of (its_name y) xs)) ys

  pub unnamed-none : (ys : List Y) → unnamed [] ys ≡ ys
  unnamed-none [] = refl
  unnamed-none (y ∷ ys) = ap (λ (l : List Y). y ∷ l) (unnamed-none ys)

  -- one that is named does not count
  pub unnamed-put_in : (xs : List X) (y : Y) (ys : List Y) → is_none (named name_of (its_name y) xs) ≡ false → unnamed xs (put_in its_name y ys) ≡ unnamed xs ys
  unnamed-put_in xs y [] its = rw its refl
  unnamed-put_in xs y (z ∷ zs) its =
      cond_both (name_precedes (its_name y) (its_name z)) (y ∷ z ∷ zs) (z ∷ put_in its_name y zs) (λ l. unnamed xs l ≡ unnamed xs (z ∷ zs))
      (λ _. rw its refl)
      (λ _. elim (cases_Bool (is_none (named name_of (its_name z) xs))) [
        | inl out ↦ rw out (ap (λ (l : List Y). z ∷ l) (unnamed-put_in xs y zs its))
        | inr in_it ↦ rw in_it (unnamed-put_in xs y zs its)
      ])

  same_way : (a b : List ℕ) → bytes_eq a b ≡ bytes_eq b a
  same_way a b = elim (cases_Bool (bytes_eq b a)) [
    | inl same ↦ (bytes_decides a b).1 (sym ((bytes_decides b a).0 same)) ∙ sym same
    | inr differ ↦ false_from_ne_true _ (λ e. true≢false (sym ((bytes_decides b a).1 (sym ((bytes_decides a b).0 e))) ∙ differ)) ∙ sym differ
  ]

  -- the first is left out, and then the others
  pub unnamed-rest : (x : X) (xs : List X) (ys : List Y) → unnamed (x ∷ xs) ys ≡ unnamed xs (left_out its_name (name_of x) ys)
  unnamed-rest x xs [] = refl
  unnamed-rest x xs (y ∷ ys) =
      elim (cases_Bool (bytes_eq (name_of x) (its_name y))) [
        | inl same ↦ rw (same, sym (same_way (name_of x) (its_name y)) ∙ same) (unnamed-rest x xs ys)
        | inr other ↦ rw (other, sym (same_way (name_of x) (its_name y)) ∙ other) (elim (cases_Bool (is_none (named name_of (its_name y) xs))) [
          | inl out ↦ rw out (ap (λ (l : List Y). y ∷ l) (unnamed-rest x xs ys))
          | inr in_it ↦ rw in_it (unnamed-rest x xs ys)
        ])
      ]

  -- where none of the names is there, nothing is left out
  pub unnamed-absent : (xs : List X) (ys : List Y) → All (λ x. left_out its_name (name_of x) ys ≡ ys) xs → unnamed xs ys ≡ ys
  unnamed-absent [] ys all = unnamed-none ys
  unnamed-absent (x ∷ xs) ys all =
      let same = All-head (λ x. left_out its_name (name_of x) ys ≡ ys) x xs all in
      unnamed-rest x xs ys ∙ ap (unnamed xs) same ∙ unnamed-absent xs ys (All-tail (λ x. left_out its_name (name_of x) ys ≡ ys) x xs all)

-- what has another name is found as before
pub named-put_in-other : {Y : Type 0} (its_name : Y → List ℕ) (y : Y) (ys : List Y) (name : List ℕ) → IsFalse (bytes_eq (its_name y) name) → named its_name name (put_in its_name y ys) ≡ named its_name name ys
named-put_in-other its_name y [] name other = rw other refl
named-put_in-other {Y} its_name y (z ∷ zs) name other =
    cond_both (name_precedes (its_name y) (its_name z)) (y ∷ z ∷ zs) (z ∷ put_in its_name y zs) (λ (l : List Y). named its_name name l ≡ named its_name name (z ∷ zs))
    (λ _. rw other refl)
    (λ _. elim (cases_Bool (bytes_eq (its_name z) name)) [
      | inl here ↦ rw here refl
      | inr not_here ↦ rw not_here (named-put_in-other its_name y zs name other)
    ])
