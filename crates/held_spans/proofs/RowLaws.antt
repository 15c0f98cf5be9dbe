-- Spans, and beside them in the same order the names of their holders.
use Rattle.std.proofs.Common.{◌≡◌, ◌∙◌, ℕ, zero, suc, ◌<◌, ◌≤◌, List, [], ◌∷◌, length, get_or, inl, inr, Some, refl, sym, ap, subst, arith}
use Rattle.std.specs.Prelude.{slice_get, Contains}
use Rattle.std.specs.List.{insert, remove, zip}
use Rattle.std.specs.List.Sorted.{IsPermutation}
use Rattle.std.proofs.lemmas.Bool.{cases_lt}
use Rattle.std.proofs.lemmas.List.Sorted.{IsPermutation-insert, IsPermutation-remove}
use Rattle.std.proofs.lemmas.Option.{slice_get-get_or, slice_get_past, get_or_from_slice_get}
use Rattle.std.proofs.lemmas.Slice.Zip.{length-zip, get_or-zip}
use Rattle.taxi_base.specs.declared.rows.Span.{Span}

-- an item that was found is within the list
pub got-low : {X : Type 0} (xs : List X) (k : ℕ) (x : X) → slice_get xs k ≡ Some x → k < length xs
got-low xs k x got = elim (cases_lt k (length xs)) [ inl low ↦ low | inr past ↦ absurd (cc (sym got ∙ slice_get_past xs k past)) ]

module _ {A B : Type 0} where
  zip-insert : (xs : List A) (ys : List B) (i : ℕ) (x : A) (y : B) → length ys ≡ length xs → zip (insert xs i x) (insert ys i y) ≡ insert (zip xs ys) i (x, y)
  zip-insert xs ys zero x y same = refl
  zip-insert [] [] (suc i) x y same = refl
  zip-insert [] (b ∷ ys) (suc i) x y same = absurd (omega arith)
  zip-insert (a ∷ xs) [] (suc i) x y same = absurd (omega arith)
  zip-insert (a ∷ xs) (b ∷ ys) (suc i) x y same = ap (λ (l : List (A × B)). (a, b) ∷ l) (zip-insert xs ys i x y (omega arith))

  zip-remove : (xs : List A) (ys : List B) (i : ℕ) → length ys ≡ length xs → zip (remove xs i) (remove ys i) ≡ remove (zip xs ys) i
  zip-remove [] [] zero same = refl
  zip-remove [] [] (suc i) same = refl
  zip-remove [] (b ∷ ys) i same = absurd (omega arith)
  zip-remove (a ∷ xs) [] i same = absurd (omega arith)
  zip-remove (a ∷ xs) (b ∷ ys) zero same = refl
  zip-remove (a ∷ xs) (b ∷ ys) (suc i) same = ap (λ (l : List (A × B)). (a, b) ∷ l) (zip-remove xs ys i (omega arith))

module _ (spans : List Span) (names : List (List ℕ)) (rows : List (Span × List ℕ)) (view : zip spans names ≡ rows) (same : length names ≡ length spans) where
  pub rows-length : length rows ≡ length spans
  rows-length = omega (arith, length-zip spans names, ap length view)

  -- the row at a place
  pub row-at : (k : ℕ) (span : Span) (name : List ℕ) → k < length rows → span ≡ get_or spans k span → name ≡ get_or names k name → slice_get rows k ≡ Some (span, name)
  row-at k span name low is_span is_name =
      let low_spans : k < length spans = omega (arith, rows-length) in
      let low_names : k < length names = omega (arith, rows-length) in
      let read = get_or-zip spans names k (span, name) low_spans low_names in
      let pair : ◌≡◌ {A = Span × List ℕ} (get_or spans k span, get_or names k name) (span, name) = λ i. (sym is_span i, sym is_name i) in
      subst (λ (l : List (Span × List ℕ)). slice_get l k ≡ Some (span, name)) view
      (slice_get-get_or (zip spans names) k (span, name) (omega (arith, ap length view)) ∙ ap Some (read ∙ pair))

  pub put-permutes : (k : ℕ) (span : Span) (name : List ℕ) (spans_then : List Span) (names_then : List (List ℕ)) → spans_then ≡ insert spans k span → names_then ≡ insert names k name
      → IsPermutation ((span, name) ∷ rows) (zip spans_then names_then)
  put-permutes k span name spans_then names_then spans_are names_are =
      rw (spans_are, names_are, zip-insert spans names k span name same)
      (subst (λ (l : List (Span × List ℕ)). IsPermutation ((span, name) ∷ l) (insert (zip spans names) k (span, name))) view (IsPermutation-insert (zip spans names) k (span, name)))

  pub take-permutes : (k : ℕ) (span : Span) (name : List ℕ) (spans_then : List Span) (names_then : List (List ℕ)) → slice_get rows k ≡ Some (span, name) → spans_then ≡ remove spans k
      → names_then ≡ remove names k → IsPermutation rows ((span, name) ∷ zip spans_then names_then)
  take-permutes k span name spans_then names_then got spans_are names_are =
      rw (spans_are, names_are, zip-remove spans names k same, view)
      (IsPermutation-remove rows k (span, name) (got-low rows k (span, name) got) (sym (get_or_from_slice_get rows k (span, name) (span, name) got)))

-- what is among some rows stands at one of the places
pub none-there : (rows : List (Span × List ℕ)) (n : ℕ) (row : Span × List ℕ) → length rows ≤ n → ((k : ℕ) → k < n → slice_get rows k ≡ Some row → ⊥) → Contains rows row → ⊥
none-there rows n row all none there =
    none there.0 (omega (arith, there.1)) (slice_get-get_or rows there.0 row there.1 ∙ ap Some there.2)
