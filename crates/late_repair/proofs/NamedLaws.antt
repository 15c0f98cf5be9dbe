-- Lists by rising names: what is left out, put in and put back.
use Rattle.std.proofs.Common.{◌≡◌, ◌∙◌, ℕ, not, cond, List, [], ◌∷◌, IsTrue, IsFalse, is_some, Some, Option, refl, sym, ap, subst, inl, inr}
use Rattle.std.specs.Prelude.{All, AllPairs, bytes_eq}
use Rattle.std.proofs.lemmas.Bool.{cases_Bool}
use Rattle.std.proofs.lemmas.List.Elements.{All-head, All-tail, All-weaker, All-contains}
use Rattle.std.specs.Cmp.Lexicographic.{bytes_decides}
use Rattle.taxi_base.specs.State.{name_precedes, named, left_out, put_in}
use Rattle.taxi_base.proofs.ListLaws.{AllPairs-first, AllPairs-rest}
use Rattle.taxi_base.proofs.NameLaws.{differ-turned, name_precedes-differ, name_precedes-one_way}
use Rattle.taxi_base.proofs.OtherHolds.{named-there}

module _ {X : Type 0} (name_of : X → List ℕ) where
  -- ---- one element

  out-yes : (name : List ℕ) (x : X) (xs : List X) → IsTrue (bytes_eq (name_of x) name) → left_out name_of name (x ∷ xs) ≡ left_out name_of name xs
  out-yes name x xs here = rw here refl

  out-no : (name : List ℕ) (x : X) (xs : List X) → IsFalse (bytes_eq (name_of x) name) → left_out name_of name (x ∷ xs) ≡ x ∷ left_out name_of name xs
  out-no name x xs other = rw other refl

  named-no : (name : List ℕ) (x : X) (xs : List X) → IsFalse (bytes_eq (name_of x) name) → named name_of name (x ∷ xs) ≡ named name_of name xs
  named-no name x xs other = rw other refl

  itself : (x : X) → IsTrue (bytes_eq (name_of x) (name_of x))
  itself x = (bytes_decides (name_of x) (name_of x)).1 refl

  -- ---- what is left out

  -- in either order
  pub left_out-turned : (a b : List ℕ) (xs : List X) → left_out name_of a (left_out name_of b xs) ≡ left_out name_of b (left_out name_of a xs)
  left_out-turned a b [] = refl
  left_out-turned a b (x ∷ xs) =
      elim (cases_Bool (bytes_eq (name_of x) a)) [
        | inl in_a ↦ elim (cases_Bool (bytes_eq (name_of x) b)) [
          | inl in_b ↦ ap (left_out name_of a) (out-yes b x xs in_b) ∙ left_out-turned a b xs ∙ sym (ap (left_out name_of b) (out-yes a x xs in_a))
          | inr not_b ↦ ap (left_out name_of a) (out-no b x xs not_b) ∙ out-yes a x (left_out name_of b xs) in_a ∙ left_out-turned a b xs ∙ sym (ap (left_out name_of b) (out-yes a x xs in_a))
        ]
        | inr not_a ↦ elim (cases_Bool (bytes_eq (name_of x) b)) [
          | inl in_b ↦ ap (left_out name_of a) (out-yes b x xs in_b) ∙ left_out-turned a b xs ∙ sym (out-yes b x (left_out name_of a xs) in_b) ∙ sym (ap (left_out name_of b) (out-no a x xs not_a))
          | inr not_b ↦ ap (left_out name_of a) (out-no b x xs not_b) ∙ out-no a x (left_out name_of b xs) not_a ∙ ap (λ (ys : List X). x ∷ ys) (left_out-turned a b xs)
              ∙ sym (out-no b x (left_out name_of a xs) not_b) ∙ sym (ap (left_out name_of b) (out-no a x xs not_a))
        ]
      ]

  -- nothing, where nothing has the name
  pub left_out-none : (name : List ℕ) (xs : List X) → All (λ x. IsFalse (bytes_eq (name_of x) name)) xs → left_out name_of name xs ≡ xs
  left_out-none name [] others = refl
  left_out-none name (x ∷ xs) others =
      out-no name x xs (All-head (λ y. IsFalse (bytes_eq (name_of y) name)) x xs others)
      ∙ ap (λ (ys : List X). x ∷ ys) (left_out-none name xs (All-tail (λ y. IsFalse (bytes_eq (name_of y) name)) x xs others))

  -- nor is it found
  pub named-none : (name : List ℕ) (xs : List X) → All (λ x. IsFalse (bytes_eq (name_of x) name)) xs → IsFalse (is_some (named name_of name xs))
  named-none name [] others = refl
  named-none name (x ∷ xs) others =
      rw (All-head (λ y. IsFalse (bytes_eq (name_of y) name)) x xs others) (named-none name xs (All-tail (λ y. IsFalse (bytes_eq (name_of y) name)) x xs others))

  -- what has another name is found still
  pub named-left_out : (name other : List ℕ) → IsFalse (bytes_eq name other) → (xs : List X) → named name_of name (left_out name_of other xs) ≡ named name_of name xs
  named-left_out name other differ [] = refl
  named-left_out name other differ (x ∷ xs) =
      elim (cases_Bool (bytes_eq (name_of x) other)) [
        | inl here ↦
            let away : IsFalse (bytes_eq (name_of x) name) = subst (λ n. IsFalse (bytes_eq n name)) (sym ((bytes_decides (name_of x) other).0 here)) (differ-turned name other differ) in
            ap (named name_of name) (out-yes other x xs here) ∙ named-left_out name other differ xs ∙ sym (named-no name x xs away)
        | inr stays ↦
            ap (named name_of name) (out-no other x xs stays) ∙ ap (λ (o : Option X). cond (bytes_eq (name_of x) name) (Some x) o) (named-left_out name other differ xs)
      ]

  -- ---- what is put in

  module _ (x : X) where
    -- it is left out again
    pub left_out-put_in : (xs : List X) → left_out name_of (name_of x) (put_in name_of x xs) ≡ left_out name_of (name_of x) xs
    left_out-put_in [] = out-yes (name_of x) x [] (itself x)
    left_out-put_in (y ∷ ys) =
        elim (cases_Bool (name_precedes (name_of x) (name_of y))) [
          | inl before ↦ rw before (out-yes (name_of x) x (y ∷ ys) (itself x))
          | inr after ↦ rw after (ap (λ (zs : List X). cond (not (bytes_eq (name_of y) (name_of x))) (y ∷ zs) zs) (left_out-put_in ys))
        ]

    -- what has another name is found still
    pub named-put_in : (name : List ℕ) → IsFalse (bytes_eq (name_of x) name) → (xs : List X) → named name_of name (put_in name_of x xs) ≡ named name_of name xs
    named-put_in name other [] = named-no name x [] other
    named-put_in name other (y ∷ ys) =
        elim (cases_Bool (name_precedes (name_of x) (name_of y))) [
          | inl before ↦ rw before (named-no name x (y ∷ ys) other)
          | inr after ↦ rw after (ap (λ (o : Option X). cond (bytes_eq (name_of y) name) (Some y) o) (named-put_in name other ys))
        ]

  -- ---- what is put back

  abbrev Rise : List X → Type 0
  Rise xs = AllPairs (λ x y. IsTrue (name_precedes (name_of x) (name_of y))) xs

  -- those after the first have other names
  later-others : (x : X) (xs : List X) → Rise (x ∷ xs) → All (λ y. IsFalse (bytes_eq (name_of y) (name_of x))) xs
  later-others x xs rise =
      All-weaker (λ y. IsTrue (name_precedes (name_of x) (name_of y))) (λ y. IsFalse (bytes_eq (name_of y) (name_of x))) (λ y before. name_precedes-differ (name_of x) (name_of y) before)
      xs (AllPairs-first (λ x y. IsTrue (name_precedes (name_of x) (name_of y))) x xs rise)

  put_in-front : (x : X) (xs : List X) → Rise (x ∷ xs) → put_in name_of x xs ≡ x ∷ xs
  put_in-front x [] rise = refl
  put_in-front x (y ∷ ys) rise =
      rw (All-head (λ z. IsTrue (name_precedes (name_of x) (name_of z))) y ys (AllPairs-first (λ x y. IsTrue (name_precedes (name_of x) (name_of y))) x (y ∷ ys) rise)) refl

  -- What was left out is put back where it stood.
  pub put_in-back : (name : List ℕ) (x : X) (xs : List X) → Rise xs → named name_of name xs ≡ Some x → put_in name_of x (left_out name_of name xs) ≡ xs
  put_in-back name x [] rise found = absurd (cc found)
  put_in-back name x (y ∷ ys) rise found =
      elim (cases_Bool (bytes_eq (name_of y) name)) [
        | inl here ↦
            let same : y ≡ x = only (rw here at found) in
            let is : name_of y ≡ name = (bytes_decides (name_of y) name).0 here in
            let rest : left_out name_of name ys ≡ ys = left_out-none name ys (subst (λ n. All (λ z. IsFalse (bytes_eq (name_of z) n)) ys) is (later-others y ys rise)) in
            ap (put_in name_of x) (out-yes name y ys here ∙ rest) ∙ ap (λ (z : X). put_in name_of z ys) (sym same) ∙ put_in-front y ys rise
        | inr other ↦
            let later : named name_of name ys ≡ Some x = sym (named-no name y ys other) ∙ found in
            let before : IsTrue (name_precedes (name_of y) (name_of x)) =
            All-contains (λ z. IsTrue (name_precedes (name_of y) (name_of z))) ys x (AllPairs-first (λ x y. IsTrue (name_precedes (name_of x) (name_of y))) y ys rise) (named-there name_of name ys x later).0 in
            ap (put_in name_of x) (out-no name y ys other)
            ∙ rw (name_precedes-one_way (name_of y) (name_of x) before)
            (ap (λ (zs : List X). y ∷ zs) (put_in-back name x ys (AllPairs-rest (λ x y. IsTrue (name_precedes (name_of x) (name_of y))) y ys rise) later))
      ]
    where
      only : {a b : X} → Some a ≡ Some b → a ≡ b
      only e = cc
