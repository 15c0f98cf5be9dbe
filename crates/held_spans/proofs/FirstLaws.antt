-- The first by name of the holders whose spans have a second: in two lists, with one row more, and with the list of one segment more.
use Rattle.std.proofs.Common.{◌≡◌, ◌∙◌, ℕ, ◌+◌, ◌<◌, List, [], ◌∷◌, ◌++◌, length, get_or, take, cond, IsTrue, IsFalse, Option, Some, None, refl, sym, ap, subst, arith, inl, inr, ◌⊎◌}
use Rattle.std.specs.Prelude.{flat_map, bytes_eq}
use Rattle.std.specs.Cmp.Lexicographic.{bytes_decides}
use Rattle.std.proofs.lemmas.Bool.{cases_Bool, both_ways, false_from_ne_true}
use Rattle.std.proofs.lemmas.List.{append-nil, take_more}
use Rattle.std.proofs.lemmas.List.Elements.{Contains-append_cases, Contains-append_left, Contains-append_right}
use Rattle.std.proofs.lemmas.List.Concat.{flat_map-append}
use Rattle.taxi_base.specs.declared.rows.Span.{Span}
use Rattle.taxi_base.specs.Windows.{span_has}
use Rattle.taxi_base.specs.State.{name_precedes}
use Rattle.taxi_base.specs.Faults.{first_name}
use Rattle.taxi_base.proofs.ListLaws.{Contains-first, Contains-cons_cases}
use Rattle.taxi_base.proofs.NameLaws.{name_precedes-trans, name_precedes-turned, name_precedes-one_way, name_precedes-not_itself}
use Rattle.held_spans.specs.Holders.{IsHolderIn, IsFirstOf}

-- of two names, neither of which has one of the kind before it
not_before : (a b m : List ℕ) → IsFalse (name_precedes b a) → IsFalse (name_precedes m b) → IsFalse (name_precedes m a)
not_before a b m ba mb = false_from_ne_true _ (λ ma.
    elim (cases_Bool (bytes_eq b m)) [
      | inl e ↦ both_ways _ ba (subst (λ n. IsTrue (name_precedes n a)) (sym ((bytes_decides b m).0 e)) ma)
      | inr differ ↦ both_ways _ ba (name_precedes-trans b m a (name_precedes-turned m b mb differ) ma)
    ])

module _ (t : ℕ) where
  pub first-none : IsFirstOf (IsHolderIn [] t) None
  first-none = λ name h. absurd (omega (arith, h.1.1))

  -- ---- in two lists

  module _ (xs ys : List (Span × List ℕ)) where
    in_first : (name : List ℕ) → IsHolderIn xs t name → IsHolderIn (xs ++ ys) t name
    in_first name h = (h.0, Contains-append_left xs ys h.0 h.1, h.2, h.3)

    in_second : (name : List ℕ) → IsHolderIn ys t name → IsHolderIn (xs ++ ys) t name
    in_second name h = (h.0, Contains-append_right xs ys h.0 h.1, h.2, h.3)

    in_either : (name : List ℕ) → IsHolderIn (xs ++ ys) t name → IsHolderIn xs t name ⊎ IsHolderIn ys t name
    in_either name h = elim (Contains-append_cases xs ys h.0 h.1) [ inl first ↦ inl (h.0, first, h.2, h.3) | inr second ↦ inr (h.0, second, h.2, h.3) ]

    pub first-both : (a b : Option (List ℕ)) → IsFirstOf (IsHolderIn xs t) a → IsFirstOf (IsHolderIn ys t) b → IsFirstOf (IsHolderIn (xs ++ ys) t) (first_name a b)
    first-both None None fa fb = λ name h. elim (in_either name h) [ inl first ↦ fa name first | inr second ↦ fb name second ]
    first-both None (Some b) fa fb = (in_second b fb.0, λ m h. elim (in_either m h) [ inl first ↦ absurd (fa m first) | inr second ↦ fb.1 m second ])
    first-both (Some a) None fa fb = (in_first a fa.0, λ m h. elim (in_either m h) [ inl first ↦ fa.1 m first | inr second ↦ absurd (fb m second) ])
    first-both (Some a) (Some b) fa fb =
        elim (cases_Bool (name_precedes b a)) [
          | inl before ↦ rw before (
            in_second b fb.0,
            λ m h. elim (in_either m h) [
              | inl first ↦ not_before b a m (name_precedes-one_way b a before) (fa.1 m first)
              | inr second ↦ fb.1 m second
            ],
          )
          | inr after ↦ rw after (
            in_first a fa.0,
            λ m h. elim (in_either m h) [
              | inl first ↦ fa.1 m first
              | inr second ↦ not_before a b m after (fb.1 m second)
            ],
          )
        ]

  -- ---- one row more

  one-row : (row : Span × List ℕ) → IsFirstOf (IsHolderIn (row ∷ []) t) (cond (span_has row.0 t) (Some row.1) None)
  one-row row =
      elim (cases_Bool (span_has row.0 t)) [
        | inl has ↦ rw has (
          (row, Contains-first row [], refl, has),
          λ other h. elim (Contains-cons_cases row h.0 [] h.1) [
            | inl e ↦ subst (λ n. IsFalse (name_precedes n row.1)) (ap (λ (r : Span × List ℕ). r.1) e ∙ h.2) (name_precedes-not_itself row.1)
            | inr none ↦ absurd (omega (arith, none.1))
          ],
        )
        | inr lacks ↦ rw lacks (λ name h. elim (Contains-cons_cases row h.0 [] h.1) [
          | inl e ↦ both_ways _ lacks (subst (λ (r : Span × List ℕ). IsTrue (span_has r.0 t)) (sym e) h.3)
          | inr none ↦ absurd (omega (arith, none.1))
        ])
      ]

  pub row-more : (rows : List (Span × List ℕ)) (k : ℕ) (d : Span × List ℕ) → k < length rows → (first own : Option (List ℕ)) → IsFirstOf (IsHolderIn (take k rows) t) first
      → own ≡ cond (span_has (get_or rows k d).0 t) (Some (get_or rows k d).1) None → IsFirstOf (IsHolderIn (take (k + 1) rows) t) (first_name first own)
  row-more rows k d low first own is own_is =
      rw (take_more rows k d low) (first-both (take k rows) (get_or rows k d ∷ []) first own is (subst (IsFirstOf (IsHolderIn (get_or rows k d ∷ []) t)) (sym own_is) (one-row (get_or rows k d))))

  -- ---- one list more

  pub lists-more : {X : Type 0} (f : X → List (Span × List ℕ)) (xs : List X) (k : ℕ) (d : X) → k < length xs → (a b : Option (List ℕ))
      → IsFirstOf (IsHolderIn (flat_map f (take k xs)) t) a → IsFirstOf (IsHolderIn (f (get_or xs k d)) t) b → IsFirstOf (IsHolderIn (flat_map f (take (k + 1) xs)) t) (first_name a b)
  lists-more f xs k d low a b first more =
      rw (take_more xs k d low, flat_map-append f (take k xs) (get_or xs k d ∷ []), append-nil (f (get_or xs k d))) (first-both (flat_map f (take k xs)) (f (get_or xs k d)) a b first more)
