-- Whether each wish is told of exactly once, and what all entries cost.
use Rattle.std.proofs.Common.{◌≡◌, ◌↔◌, ◌∙◌, ℕ, ◌+◌, ◌<◌, zero, suc, ◌&&◌, eqb, List, [], ◌∷◌, length, map, drop, get_or, pos, ◌+ℤ◌, IsTrue, inl, inr, refl, sym, ap, subst, arith, add-one, ℤ, ◌^◌, w64, to_z, of_z, FitsSigned}
use Rattle.std.proofs.lemmas.Int.{ints, to_z-of_z}
use Rattle.std.specs.Prelude.{All, AllPairs, Contains, bytes_eq}
use Rattle.std.specs.List.{list_any, list_all}
use Rattle.std.specs.Cmp.Lexicographic.{bytes_decides}
use Rattle.std.proofs.lemmas.Bool.{cases_Bool, and_parts, and_from, eqb-true, eq-eqb, both_ways}
use Rattle.std.proofs.lemmas.List.{length-map}
use Rattle.std.proofs.lemmas.List.Elements.{All-head, All-tail, All-cons, All-nil}
use Rattle.std.proofs.lemmas.List.Sorted.{length_permutation}
use Rattle.taxi_base.proofs.ListLaws.{Contains-first, Contains-rest, Contains-cons_cases}
use Rattle.replies.specs.declared.entries.Entry.{Entry}
use Rattle.replies.specs.declared.wish.Wish.{Wish}
use Rattle.replies.specs.Printable.{is_told}
use Rattle.replies.specs.Batches.{names_of, cost_among, total_of}
use Rattle.replies.proofs.ToldEntries.{told-all}
use Rattle.certificate_check.specs.Batch.{TellsOfEach}
use Rattle.certificate_check.proofs.EachNamed.{Differ, each-named, each-there}

-- the entry at a place is the first of those from there on
total-drop : (wishes : List Wish) (entries : List (List ℕ × Entry)) (i : ℕ) → i < length entries → (told : List ℕ × Entry) → told ≡ get_or entries i told
    → total_of wishes (drop i entries) ≡ cost_among wishes told +ℤ total_of wishes (drop (suc i) entries)
total-drop wishes [] i low told is = absurd (omega arith)
total-drop wishes (e ∷ entries) zero low told is = ap (λ t. cost_among wishes t +ℤ total_of wishes entries) (sym is)
total-drop wishes (e ∷ entries) (suc i) low told is = total-drop wishes entries i (omega arith) told is

pub total-next : (wishes : List Wish) (entries : List (List ℕ × Entry)) (i : ℕ) → i < length entries → (told : List ℕ × Entry) → told ≡ get_or entries i told
    → total_of wishes (drop i entries) ≡ cost_among wishes told +ℤ total_of wishes (drop (i + 1) entries)
total-next wishes entries i low told is = rw add-one (total-drop wishes entries i low told is)

-- ---- names told

abbrev names_told : List (List ℕ × Entry) → List (List ℕ)
names_told entries = map (λ told. told.0) entries

pub any-contains : (name : List ℕ) (entries : List (List ℕ × Entry)) → IsTrue (list_any (λ told. bytes_eq told.0 name) entries) ↔ Contains (names_told entries) name
any-contains name [] = (λ e. absurd (cc e), λ h. absurd (let low : h.0 < 0 = h.1 in omega arith))
any-contains name (e ∷ entries) =
    elim (cases_Bool (bytes_eq e.0 name)) [
      | inl same ↦ (λ _. subst (Contains (e.0 ∷ names_told entries)) ((bytes_decides e.0 name).0 same) (Contains-first e.0 (names_told entries)), λ _. rw same refl)
      | inr other ↦ (
        λ t. Contains-rest e.0 name (names_told entries) ((any-contains name entries).0 (rw other at t)),
        λ h. elim (Contains-cons_cases e.0 name (names_told entries) h) [
          | inl is ↦ absurd (both_ways _ other ((bytes_decides e.0 name).1 is))
          | inr there ↦ rw other ((any-contains name entries).1 there)
        ],
      )
    ]

all-named : (entries : List (List ℕ × Entry)) (wishes : List Wish)
    → IsTrue (list_all (λ wish. list_any (λ told. bytes_eq told.0 wish.name) entries) wishes) ↔ All (Contains (names_told entries)) (names_of wishes)
all-named entries [] = (λ _. All-nil (Contains (names_told entries)), λ _. refl)
all-named entries (w ∷ wishes) = (
  λ e. (let parts = and_parts _ _ e in
      All-cons (Contains (names_told entries)) w.name (names_of wishes) ((any-contains w.name entries).0 parts.0) ((all-named entries wishes).0 parts.1)),
  λ all. and_from _ _ ((any-contains w.name entries).1 (All-head (Contains (names_told entries)) w.name (names_of wishes) all))
      ((all-named entries wishes).1 (All-tail (Contains (names_told entries)) w.name (names_of wishes) all)),
)

-- ---- each once

module _ (wishes : List Wish) (entries : List (List ℕ × Entry)) (differ : AllPairs Differ (names_of wishes)) where
  as_many_told : length (names_told entries) ≡ length entries
  as_many_told = simp length-map refl

  as_many_names : length (names_of wishes) ≡ length wishes
  as_many_names = simp length-map refl

  pub each-told : IsTrue (eqb (length entries) (length wishes) && (list_all is_told entries && list_all (λ wish. list_any (λ told. bytes_eq told.0 wish.name) entries) wishes)) ↔ TellsOfEach wishes entries
  each-told = (
    λ e. (let parts = and_parts _ _ e in
        let rest = and_parts _ _ parts.1 in
        let long = eqb-true _ _ parts.0 in (
          each-named (names_told entries) (names_of wishes) (as_many_told ∙ long ∙ sym (as_many_names)) differ ((all-named entries wishes).0 rest.1),
          (told-all entries).0 rest.0,
        )),
    λ tells. and_from _ _ (eq-eqb _ _ (sym (as_many_told) ∙ sym (length_permutation _ _ tells.0) ∙ as_many_names))
        (and_from _ _ ((told-all entries).1 tells.1) ((all-named entries wishes).1 (each-there (names_told entries) (names_of wishes) tells.0))),
  )

-- numbers that are compared by their bits
pub same-number : (z : ℤ) (n : ℕ) → FitsSigned w64 z → n < 2 ^ 32 → IsTrue (eqb (of_z w64 z) (of_z w64 (pos n))) ↔ (z ≡ pos n)
same-number z n fits low =
    let its : FitsSigned w64 (pos n) = omega (arith, ints) in (
      λ e. sym (to_z-of_z w64 z fits) ∙ ap (to_z w64) (eqb-true _ _ e) ∙ to_z-of_z w64 (pos n) its,
      λ e. eq-eqb _ _ (ap (of_z w64) e),
    )
