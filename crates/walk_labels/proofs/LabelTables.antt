-- The rows of the values of cells are the table of labels.
use Rattle.std.proofs.Common.{◌≡◌, ℕ, zero, suc, ◌<◌, List, [], ◌∷◌, ◌++◌, length, get_or, inl, inr, IsTrue, Option, Some, None, refl, sym, ap, subst, arith, ◌↔◌}
use Rattle.std.specs.Prelude.{AllPairs, Contains}
use Rattle.std.proofs.lemmas.List.{get_or_default}
use Rattle.std.proofs.lemmas.List.Kept.{AllPairs-cons}
use Rattle.std.proofs.lemmas.List.Elements.{Contains-append_cases, Contains-append_left, Contains-append_right}
use Rattle.taxi_base.specs.declared.rows.Step.{Step}
use Rattle.taxi_base.specs.declared.rows.LabelRow.{LabelRow}
use Rattle.taxi_base.specs.Walks.{Conditions}
use Rattle.taxi_base.specs.Labels.{precedes, IsExitLabel, IsEntryLabel, IsTable, IsExitBefore, IsEntryAfter}
use Rattle.taxi_base.proofs.ListLaws.{Contains-first, Contains-cons_cases}
use Rattle.label_core.specs.Walks.{Network, Start, IsEarliestExit}
use Rattle.label_core.specs.BackwardWalks.{Finish, IsLatestEntry}
use Rattle.label_core.specs.Tables.{IsBelow}
use Rattle.label_core.specs.BackwardTables.{IsAbove}
use Rattle.walk_labels.specs.Places.{AreFit, Place, IsPlace, AreCells, IsOrdered, no_place, place_at, place_precedes, label_at, place_of}
use Rattle.walk_labels.specs.Requests.{AreStarts, AreFinishes}
use Rattle.walk_labels.specs.Tables.{row_at, rows_of}
use Rattle.walk_labels.proofs.CellLabels.{exit_label, exit_of_cell, exit_place, entry_label, entry_of_cell, entry_place}
use Rattle.walk_labels.proofs.PlaceCells.{place_at-by}
use Rattle.walk_labels.proofs.PickedLabels.{at_cells}

-- ---- short of a bound

pub exit_before : (c : Conditions) (Begins : Step → Type 0) (bound : Option ℕ) (label : LabelRow) → IsExitBefore c Begins bound label ↔ (IsExitLabel c Begins label × IsBelow bound label.value)
exit_before c Begins None label = (λ h. (h, tt), λ h. h.0)
exit_before c Begins (Some end) label = (λ h. h, λ h. h)

pub entry_after : (c : Conditions) (Ends : Step → Type 0) (bound : Option ℕ) (label : LabelRow) → IsEntryAfter c Ends bound label ↔ (IsEntryLabel c Ends label × IsAbove bound label.value)
entry_after c Ends None label = (λ h. (h, tt), λ h. h.0)
entry_after c Ends (Some begin) label = (λ h. h, λ h. h)

-- ---- the table

module _ {C : Type 0} (c : Conditions) (fit : AreFit c) (net : Network C) (place : C → Place) (cells : AreCells c net place)
    (bound : Option ℕ) (Value : C → ℕ → Type 0) (rows : List LabelRow) (ordered : AllPairs (λ p q. IsTrue (precedes p q)) rows)
    (each : (row : LabelRow) → Contains rows row → (x : C) × (place x ≡ place_of row) × Value x row.value) (whole : (x : C) (v : ℕ) → Value x v → Contains rows (label_at (place x) v)) where
  -- of exits
  pub exit_table : (Begins : Step → Type 0) (starts : C → Option Start) → AreStarts c net place Begins starts
      → ((x : C) (v : ℕ) → Value x v ↔ (IsEarliestExit net starts x v × IsBelow bound v)) → IsTable (IsExitBefore c Begins bound) rows
  exit_table Begins starts are exact = record {
    ordered = ordered;
    each = λ k d on. all (get_or rows k d) (k, on, get_or_default rows k (get_or rows k d) d on);
    whole = λ label one. (
        let h = (exit_before c Begins bound label).0 one in
        at_cells c place cells.whole (λ l. IsExitLabel c Begins l → IsBelow bound l.value → Contains rows l)
        (λ x v is exit below. whole x v ((exact x v).1 (exit_of_cell c fit net place cells Begins starts are x v is exit, below)))
        label (exit_place c fit net place cells Begins starts are label h.0) h.0 h.1);
  }
    where
      all : (row : LabelRow) → Contains rows row → IsExitBefore c Begins bound row
      all row on =
          let x = each row on in
          let h = (exact x.0 row.value).0 x.2 in
          let label = (exit_label c fit net place cells Begins starts are x.0 row.value h.0).1 in
          (exit_before c Begins bound row).1 (subst (λ (p : Place). IsExitLabel c Begins (label_at p row.value)) x.1 label, h.1)

  -- of entries
  pub entry_table : (Ends : Step → Type 0) (finishes : C → Option Finish) → AreFinishes c net place Ends finishes
      → ((x : C) (v : ℕ) → Value x v ↔ (IsLatestEntry net finishes x v × IsAbove bound v)) → IsTable (IsEntryAfter c Ends bound) rows
  entry_table Ends finishes are exact = record {
    ordered = ordered;
    each = λ k d on. all (get_or rows k d) (k, on, get_or_default rows k (get_or rows k d) d on);
    whole = λ label one. (
        let h = (entry_after c Ends bound label).0 one in
        at_cells c place cells.whole (λ l. IsEntryLabel c Ends l → IsAbove bound l.value → Contains rows l)
        (λ x v is entry above. whole x v ((exact x v).1 (entry_of_cell c fit net place cells Ends finishes are x v is entry, above)))
        label (entry_place c fit net place cells Ends finishes are label h.0) h.0 h.1);
  }
    where
      all : (row : LabelRow) → Contains rows row → IsEntryAfter c Ends bound row
      all row on =
          let x = each row on in
          let h = (exact x.0 row.value).0 x.2 in
          let label = (entry_label c fit net place cells Ends finishes are x.0 row.value h.0).1 in
          (entry_after c Ends bound row).1 (subst (λ (p : Place). IsEntryLabel c Ends (label_at p row.value)) x.1 label, h.1)

-- ---- the rows of numbered places

row_at-member : (p : Place) (o : Option ℕ) (row : LabelRow) → Contains (row_at p o) row → (p ≡ place_of row) × (o ≡ Some row.value)
row_at-member p None row h = absurd (omega (arith, h.1))
row_at-member p (Some value) row h =
    elim (Contains-cons_cases (label_at p value) row [] h) [
      | inl e ↦ (ap place_of e, ap (λ (l : LabelRow). Some l.value) e)
      | inr none ↦ absurd (omega (arith, none.1))
    ]

member-row_at : (p : Place) (o : Option ℕ) (v : ℕ) → o ≡ Some v → Contains (row_at p o) (label_at p v)
member-row_at p o v e = subst (λ (x : Option ℕ). Contains (row_at p x) (label_at p v)) (sym e) (Contains-first (label_at p v) [])

module _ {A : Type 0} (value : A → Option ℕ) where
  -- a row is of a place that has the value
  pub rows_of-member : (places : List Place) (known : List A) (row : LabelRow) (d : Place) (e : A) → Contains (rows_of value places known) row
      → (k : ℕ) × (k < length places) × (k < length known) × (get_or places k d ≡ place_of row) × (value (get_or known k e) ≡ Some row.value)
  rows_of-member [] known row d e h = absurd (omega (arith, h.1))
  rows_of-member (p ∷ places) [] row d e h = absurd (omega (arith, h.1))
  rows_of-member (p ∷ places) (a ∷ known) row d e h =
      elim (Contains-append_cases (row_at p (value a)) (rows_of value places known) row h) [
        | inl here ↦ let is = row_at-member p (value a) row here in (0, omega arith, omega arith, is.0, is.1)
        | inr later ↦ let found = rows_of-member places known row d e later in (suc found.0, omega arith, omega arith, found.3, found.4)
      ]

  -- and each place that has a value has its row
  pub member-rows_of : (places : List Place) (known : List A) (k : ℕ) (d : Place) (e : A) (v : ℕ) → k < length places → k < length known
      → value (get_or known k e) ≡ Some v → Contains (rows_of value places known) (label_at (get_or places k d) v)
  member-rows_of [] known k d e v on in_known is = absurd (omega arith)
  member-rows_of (p ∷ places) [] k d e v on in_known is = absurd (omega arith)
  member-rows_of (p ∷ places) (a ∷ known) zero d e v on in_known is =
      Contains-append_left (row_at p (value a)) (rows_of value places known) (label_at p v) (member-row_at p (value a) v is)
  member-rows_of (p ∷ places) (a ∷ known) (suc k) d e v on in_known is =
      Contains-append_right (row_at p (value a)) (rows_of value places known) (label_at (get_or places k d) v) (member-rows_of places known k d e v (omega arith) (omega arith) is)

  -- the row of a first place, if it has one, is before the others
  first_before : (p : Place) (a : A) (places : List Place) (known : List A) (d : Place) (e : A)
      → ((j v w : ℕ) → 0 < j → j < length (p ∷ places) → value a ≡ Some v → value (get_or (a ∷ known) j e) ≡ Some w → IsTrue (place_precedes p (get_or (p ∷ places) j d)))
      → AllPairs (λ p q. IsTrue (precedes p q)) (rows_of value places known) → AllPairs (λ p q. IsTrue (precedes p q)) (row_at p (value a) ++ rows_of value places known)
  first_before p a places known d e ordered rest = first (value a) refl
    where
      after : (v : ℕ) → value a ≡ Some v → (row : LabelRow) → Contains (rows_of value places known) row → IsTrue (precedes (label_at p v) row)
      after v has row on =
          let found = rows_of-member places known row d e on in
          subst (λ (q : Place). IsTrue (place_precedes p q)) found.3 (ordered (suc found.0) v row.value (omega arith) (omega (arith, found.1)) has found.4)

      first : (o : Option ℕ) → value a ≡ o → AllPairs (λ p q. IsTrue (precedes p q)) (row_at p o ++ rows_of value places known)
      first None none = rest
      first (Some v) has =
          AllPairs-cons (λ p q. IsTrue (precedes p q)) (label_at p v) (rows_of value places known)
          (λ k x on. after v has (get_or (rows_of value places known) k x) (k, on, get_or_default (rows_of value places known) k (get_or (rows_of value places known) k x) x on)) rest

  -- where the places that have values are in order, the rows are
  pub rows_of-ordered : (places : List Place) (known : List A) (d : Place) (e : A)
      → ((i j v w : ℕ) → i < j → j < length places → value (get_or known i e) ≡ Some v → value (get_or known j e) ≡ Some w → IsTrue (place_precedes (get_or places i d) (get_or places j d)))
      → AllPairs (λ p q. IsTrue (precedes p q)) (rows_of value places known)
  rows_of-ordered [] known d e ordered = λ i j x low high. absurd (omega arith)
  rows_of-ordered (p ∷ places) [] d e ordered = λ i j x low high. absurd (omega arith)
  rows_of-ordered (p ∷ places) (a ∷ known) d e ordered =
      first_before p a places known d e (ordered 0) (rows_of-ordered places known d e (λ i j v w before on has other. ordered (suc i) (suc j) v w (omega arith) (omega arith) has other))

  -- the rows of the values of numbered cells are their table
  module _ (c : Conditions) (fit : AreFit c) (numbers : List Place) (net : Network ℕ) (cells : AreCells c net (place_at numbers)) (ordered : IsOrdered c (place_at numbers) (λ j k. j < k))
      (bound : Option ℕ) (known : List A) (e : A) (as_many : length known ≡ length numbers) where
    row_cell : (row : LabelRow) → Contains (rows_of value numbers known) row → (k : ℕ) × (place_at numbers k ≡ place_of row) × (value (get_or known k e) ≡ Some row.value)
    row_cell row h = let found = rows_of-member numbers known row no_place e h in (found.0, found.3, found.4)

    -- values that are at places alone have rows in order, and each has its row
    module _ (at_places : (k v : ℕ) → value (get_or known k e) ≡ Some v → IsPlace c (place_at numbers k)) where
      in_order : AllPairs (λ p q. IsTrue (precedes p q)) (rows_of value numbers known)
      in_order = rows_of-ordered numbers known no_place e (λ i j v w before on has other. (ordered i j (at_places i v has) (at_places j w other)).0 before)

      each_row : (k v : ℕ) → value (get_or known k e) ≡ Some v → Contains (rows_of value numbers known) (label_at (place_at numbers k) v)
      each_row k v is = let on = place_at-by c numbers k (at_places k v is) in member-rows_of numbers known k no_place e v on (omega (arith, on)) is

    pub exit_rows : (Begins : Step → Type 0) (starts : ℕ → Option Start) → AreStarts c net (place_at numbers) Begins starts
        → ((k v : ℕ) → (value (get_or known k e) ≡ Some v) ↔ (IsEarliestExit net starts k v × IsBelow bound v))
        → IsTable (IsExitBefore c Begins bound) (rows_of value numbers known)
    exit_rows Begins starts are exact =
        exit_table c fit net (place_at numbers) cells bound (λ k v. value (get_or known k e) ≡ Some v) (rows_of value numbers known)
        (in_order at_places) row_cell (each_row at_places) Begins starts are exact
      where
        at_places : (k v : ℕ) → value (get_or known k e) ≡ Some v → IsPlace c (place_at numbers k)
        at_places k v is = (exit_label c fit net (place_at numbers) cells Begins starts are k v ((exact k v).0 is).0).0

    pub entry_rows : (Ends : Step → Type 0) (finishes : ℕ → Option Finish) → AreFinishes c net (place_at numbers) Ends finishes
        → ((k v : ℕ) → (value (get_or known k e) ≡ Some v) ↔ (IsLatestEntry net finishes k v × IsAbove bound v))
        → IsTable (IsEntryAfter c Ends bound) (rows_of value numbers known)
    entry_rows Ends finishes are exact =
        entry_table c fit net (place_at numbers) cells bound (λ k v. value (get_or known k e) ≡ Some v) (rows_of value numbers known)
        (in_order at_places) row_cell (each_row at_places) Ends finishes are exact
      where
        at_places : (k v : ℕ) → value (get_or known k e) ≡ Some v → IsPlace c (place_at numbers k)
        at_places k v is = (entry_label c fit net (place_at numbers) cells Ends finishes are k v ((exact k v).0 is).0).0
