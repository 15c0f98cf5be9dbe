-- What holds of one of a list.
use Rattle.std.proofs.Common.{Bool, false, List, [], ◌∷◌, IsTrue, sym, subst, arith, ◌↔◌, inl, inr}
use Rattle.std.specs.Prelude.{Contains}
use Rattle.std.specs.List.{list_any}
use Rattle.std.proofs.lemmas.Bool.{or_cases, or_left, or_right}
use Rattle.taxi_base.proofs.ListLaws.{Contains-first, Contains-rest, Contains-cons_cases}
use Rattle.taxi_base.specs.Choices.{OneOf}

-- a test that decides P finds one of a list just where P holds of one
pub any-OneOf : {A : Type 0} (test : A → Bool) (P : A → Type 0) → ((x : A) → IsTrue (test x) ↔ P x) → (xs : List A) → IsTrue (list_any test xs) ↔ OneOf P xs
any-OneOf test P decides [] = (λ h. absurd (cc h), λ h. absurd h)
any-OneOf test P decides (x ∷ []) = (
  λ h. elim (or_cases (test x) false h) [
    | inl first ↦ (decides x).0 first
    | inr none ↦ absurd (cc none)
  ],
  λ h. or_left (test x) false ((decides x).1 h),
)
any-OneOf test P decides (x ∷ y ∷ xs) = (
  λ h. elim (or_cases (test x) (list_any test (y ∷ xs)) h) [
    | inl first ↦ inl ((decides x).0 first)
    | inr later ↦ inr ((any-OneOf test P decides (y ∷ xs)).0 later)
  ],
  λ h. elim h [
    | inl first ↦ or_left (test x) (list_any test (y ∷ xs)) ((decides x).1 first)
    | inr later ↦ or_right (test x) (list_any test (y ∷ xs)) ((any-OneOf test P decides (y ∷ xs)).1 later)
  ],
)

-- what holds of one of a list with P holds of one of it with Q, where P gives Q
pub OneOf-weaker : {A : Type 0} (P Q : A → Type 0) → ((x : A) → P x → Q x) → (xs : List A) → OneOf P xs → OneOf Q xs
OneOf-weaker P Q weaker [] h = h
OneOf-weaker P Q weaker (x ∷ []) h = weaker x h
OneOf-weaker P Q weaker (x ∷ y ∷ xs) h =
    elim h [
      | inl first ↦ inl (weaker x first)
      | inr later ↦ inr (OneOf-weaker P Q weaker (y ∷ xs) later)
    ]

-- and R where P gives R
pub OneOf-gives : {A : Type 0} (P : A → Type 0) (R : Type 0) → ((x : A) → P x → R) → (xs : List A) → OneOf P xs → R
OneOf-gives P R gives [] h = absurd h
OneOf-gives P R gives (x ∷ []) h = gives x h
OneOf-gives P R gives (x ∷ y ∷ xs) h =
    elim h [
      | inl first ↦ gives x first
      | inr later ↦ OneOf-gives P R gives (y ∷ xs) later
    ]

-- there is one of the list of which it holds
pub OneOf-found : {A : Type 0} (P : A → Type 0) (xs : List A) → OneOf P xs → (x : A) × Contains xs x × P x
OneOf-found P [] h = absurd h
OneOf-found P (x ∷ []) h = (x, Contains-first x [], h)
OneOf-found P (x ∷ y ∷ xs) h =
    elim h [
      | inl first ↦ (x, Contains-first x (y ∷ xs), first)
      | inr later ↦ let found = OneOf-found P (y ∷ xs) later in (found.0, Contains-rest x found.0 (y ∷ xs) found.1, found.2)
    ]

-- and it is enough that it holds of one
pub OneOf-member : {A : Type 0} (P : A → Type 0) (xs : List A) (x : A) → Contains xs x → P x → OneOf P xs
OneOf-member P [] x h holds = absurd (omega (arith, h.1))
OneOf-member P (y ∷ []) x h holds =
    elim (Contains-cons_cases y x [] h) [
      | inl e ↦ subst P (sym e) holds
      | inr none ↦ absurd (omega (arith, none.1))
    ]
OneOf-member P (y ∷ z ∷ xs) x h holds =
    elim (Contains-cons_cases y x (z ∷ xs) h) [
      | inl e ↦ inl (subst P (sym e) holds)
      | inr later ↦ inr (OneOf-member P (z ∷ xs) x later holds)
    ]
