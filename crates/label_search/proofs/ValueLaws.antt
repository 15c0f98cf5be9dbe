-- The rows of the values that are kept of labels.
use Rattle.std.proofs.Common.{◌≡◌, ℕ, zero, suc, ◌+◌, ◌<◌, ◌≤◌, ◌↔◌, ltb, cond, Bool, true, false, List, [], ◌∷◌, ◌++◌, length, take, map, get_or, Option, Some, None, option_map, refl, sym, ap, ◌∙◌, subst, inl, inr, arith}
use Rattle.std.proofs.lemmas.Bool.{cases_lt, ltb-true, lt-ltb, cond-true}
use Rattle.std.proofs.lemmas.List.{append-nil, map-append, get_or-take, get_or_past, length-take}
use Rattle.label_core.specs.Tables.{IsBelow}
use Rattle.label_search.specs.declared.values.CellValue.{CellValue}
use Rattle.label_search.specs.declared.labels.Label.{Label}
use Rattle.label_search.specs.Labels.{label_of, HasValue}
use Rattle.label_search.specs.Values.{rows_from, value_kept, values_kept}

-- ---- one more row

abbrev pub row_of : ℕ → Option ℕ → List CellValue
row_of c None = []
row_of c (Some v) = record { cell = c; value = v } ∷ []

rows_from-more : (n : ℕ) (known : List (Option ℕ)) (i : ℕ) → i < length known → rows_from n (take (suc i) known) ≡ rows_from n (take i known) ++ row_of (n + i) (get_or known i None)
rows_from-more n [] i on = absurd (omega arith)
rows_from-more n (None ∷ known) zero on = refl
rows_from-more n (Some v ∷ known) zero on = let e : n ≡ n + 0 = omega arith in ap (λ k. record { cell = k; value = v } ∷ []) e
rows_from-more n (None ∷ known) (suc i) on =
    let e : suc n + i ≡ n + suc i = omega arith in
    rows_from-more (suc n) known i (omega arith) ∙ ap (λ k. rows_from (suc n) (take i known) ++ row_of k (get_or known i None)) e
rows_from-more n (Some v ∷ known) (suc i) on =
    let e : suc n + i ≡ n + suc i = omega arith in
    ap (λ rows. record { cell = n; value = v } ∷ rows) (rows_from-more (suc n) known i (omega arith) ∙ ap (λ k. rows_from (suc n) (take i known) ++ row_of k (get_or known i None)) e)

pub rows_more : (known : List (Option ℕ)) (i : ℕ) → i < length known → rows_from 0 (take (i + 1) known) ≡ rows_from 0 (take i known) ++ row_of i (get_or known i None)
rows_more known i on =
    let next : suc i ≡ i + 1 = omega arith in
    let here : 0 + i ≡ i = omega arith in
    subst (λ k. rows_from 0 (take k known) ≡ rows_from 0 (take i known) ++ row_of i (get_or known i None)) next
    (rows_from-more 0 known i on ∙ ap (λ k. rows_from 0 (take i known) ++ row_of k (get_or known i None)) here)

-- what is told of one more value comes behind what is told of those before it
pub told_more : {T : Type 0} (told : CellValue → T) (rows : List T) (before : List CellValue) (value : CellValue) (row : T)
    → rows ≡ map told before → row ≡ told value → rows ++ row ∷ [] ≡ map told (before ++ value ∷ [])
told_more told rows before value row so_far is = rw (so_far, is) (sym (map-append told before (value ∷ [])))

-- cells with no value give no row
pub rows_skip : (known : List (Option ℕ)) (i j : ℕ) → i ≤ j → j ≤ length known → ((c : ℕ) → i ≤ c → c < j → get_or known c None ≡ None)
    → rows_from 0 (take j known) ≡ rows_from 0 (take i known)
rows_skip known i zero le on none = let e : 0 ≡ i = omega arith in ap (λ k. rows_from 0 (take k known)) e
rows_skip known i (suc j) le on none =
    elim (cases_lt i (suc j)) [
      | inl before ↦
          let next : suc j ≡ j + 1 = omega arith in
          ap (λ k. rows_from 0 (take k known)) next ∙ rows_more known j (omega arith)
          ∙ ap (λ o. rows_from 0 (take j known) ++ row_of j o) (none j (omega arith) (omega arith)) ∙ append-nil (rows_from 0 (take j known))
          ∙ rows_skip known i j (omega arith) (omega arith) (λ c from to. none c from (omega arith))
      | inr same ↦ (let e : suc j ≡ i = omega arith in ap (λ k. rows_from 0 (take k known)) e)
    ]

-- values in other terms
pub rows_from-map : (f : ℕ → ℕ) (n : ℕ) (known : List (Option ℕ)) → map (λ (r : CellValue). record { cell = r.cell; value = f r.value }) (rows_from n known) ≡ rows_from n (map (option_map f) known)
rows_from-map f n [] = refl
rows_from-map f n (None ∷ known) = rows_from-map f (suc n) known
rows_from-map f n (Some v ∷ known) = ap (λ rows. record { cell = n; value = f v } ∷ rows) (rows_from-map f (suc n) known)

pub get_or-option_map : (f : ℕ → ℕ) (known : List (Option ℕ)) (c : ℕ) → get_or (map (option_map f) known) c None ≡ option_map f (get_or known c None)
get_or-option_map f [] c = refl
get_or-option_map f (x ∷ known) zero = refl
get_or-option_map f (x ∷ known) (suc c) = get_or-option_map f known c

-- where nothing is past a cell, what is before it is all
pub get_or-taken : (known : List (Option ℕ)) (n c : ℕ) → ((k : ℕ) → n ≤ k → get_or known k None ≡ None) → get_or (take n known) c None ≡ get_or known c None
get_or-taken known n c none =
    elim (cases_lt c n) [
      | inl on ↦ get_or-take n known c None on
      | inr past ↦ get_or_past (take n known) c None (omega (arith, length-take n known)) ∙ sym (none c past)
    ]

-- ---- the values that are kept

pub kept_at : (bound : Option ℕ) (known : List (Option Label)) (c : ℕ) → get_or (values_kept bound known) c None ≡ value_kept bound (label_of known c)
kept_at bound [] c = refl
kept_at bound (x ∷ known) zero = refl
kept_at bound (x ∷ known) (suc c) = kept_at bound known c

if_kept : (t : Bool) (x v : ℕ) → cond t (Some x) None ≡ Some v → (t ≡ true) × (x ≡ v)
if_kept true x v e = (refl, cc)
if_kept false x v e = absurd cc

-- a value that is kept is that of a label, and below the bound
pub kept_some : (bound : Option ℕ) (o : Option Label) (v : ℕ) → value_kept bound o ≡ Some v → ((l : Label) × (o ≡ Some l) × (l.value ≡ v)) × IsBelow bound v
kept_some bound None v e = absurd (let f : None ≡ Some v = e in cc)
kept_some None (Some l) v e = (let f : Some l.value ≡ Some v = e in let same : l.value ≡ v = cc in ((l, refl, same), tt))
kept_some (Some b) (Some l) v e =
    let h = if_kept (ltb l.value b) l.value v e in
    ((l, refl, h.1), omega (arith, ltb-true l.value b h.0, h.1))

some_kept : (bound : Option ℕ) (o : Option Label) (v : ℕ) (l : Label) → o ≡ Some l → l.value ≡ v → IsBelow bound v → value_kept bound o ≡ Some v
some_kept None o v l is same below = ap (value_kept None) is ∙ ap Some same
some_kept (Some b) o v l is same below = ap (value_kept (Some b)) is ∙ cond-true (ltb l.value b) (Some l.value) None (lt-ltb l.value b (omega (arith, same))) ∙ ap Some same

pub kept_exact : (bound : Option ℕ) (known : List (Option Label)) (c v : ℕ) → (get_or (values_kept bound known) c None ≡ Some v) ↔ (HasValue known c v × IsBelow bound v)
kept_exact bound known c v = (
  λ e. kept_some bound (label_of known c) v (sym (kept_at bound known c) ∙ e),
  λ h. kept_at bound known c ∙ some_kept bound (label_of known c) v h.0.0 h.0.1 h.0.2 h.1,
)

-- nothing is kept of a cell that has no label
pub none_kept : (bound : Option ℕ) (known : List (Option Label)) (c : ℕ) → label_of known c ≡ None → get_or (values_kept bound known) c None ≡ None
none_kept bound known c none = kept_at bound known c ∙ ap (value_kept bound) none
