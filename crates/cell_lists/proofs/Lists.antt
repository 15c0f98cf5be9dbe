-- A list of fit cells is a problem, forward and backward.
use Rattle.std.proofs.Common.{◌≡◌, ℕ, zero, suc, ◌+◌, ◌*◌, ◌/◌, ◌%◌, ◌<◌, ◌^◌, Bool, true, false, ◌&&◌, ◌||◌, nat_le, nat_lt, List, length, Option, Some, None, option_map, IfSome, All, refl, sym, ap, ◌∙◌, subst, ◌⊎◌, inl, inr, arith}
use Rattle.std.proofs.lemmas.Bool.{cases_lt, false≢true, leb-true, ltb-true}
use Rattle.std.proofs.lemmas.List.{get_or_past}
use Rattle.label_core.specs.Walks.{Start}
use Rattle.label_core.specs.BackwardWalks.{Finish}
use Rattle.label_core.proofs.MirroredWalks.{option_map_some}
use Rattle.label_search.specs.declared.cells.Run.{Run}
use Rattle.label_search.specs.declared.cells.Closing.{Closing}
use Rattle.cell_lists.specs.declared.listed_cells.ListedCell.{ListedCell}
use Rattle.label_search.specs.Problem.{IsProblem, IsIn, start_of}
use Rattle.label_search.specs.Backward.{IsBackwardProblem, finish_of}
use Rattle.cell_lists.specs.Listed.{no_cell, cell_at, run_has, is_beside, run_of, number_of, numbered_run, run_alone, listed_problem, listed_backward, IsFit}

either : (a b : Bool) → (a || b) ≡ true → (a ≡ true) ⊎ (b ≡ true)
either true b e = inl refl
either false b e = inr e

first_of : (a b : Bool) → (a && b) ≡ true → (a ≡ true) × (b ≡ true)
first_of true b e = (refl, e)
first_of false b e = absurd (false≢true e)

in_run : (run : Run) (c : ℕ) → run_has run c ≡ true → IsIn run c
in_run run c has =
    let both = first_of (nat_le run.first c) (nat_lt c run.until) has in
    record { from_first = leb-true run.first c both.0; until_end = ltb-true c run.until both.1 }

-- a cell beside another is in one of its two runs
beside_in : (x : ListedCell) (c : ℕ) → is_beside x c ≡ true → (k : ℕ) × (k < 2) × IsIn (run_of x k) c
beside_in x c beside = elim (either (run_has x.near c) (run_has x.far c) beside) [
  | inl near ↦ (0, omega arith, in_run x.near c near)
  | inr far ↦ (1, omega arith, in_run x.far c far)
]

module _ (cells : List ListedCell) where
  -- what isn't in the list is beside no cell
  beside_inside : (c d : ℕ) → is_beside (cell_at cells c) d ≡ true → c < length cells
  beside_inside c d beside = elim (cases_lt c (length cells)) [
    | inl lt ↦ lt
    | inr le ↦ (
        let past : cell_at cells c ≡ no_cell = get_or_past cells c no_cell le in
        let k = beside_in no_cell d (subst (λ x. is_beside x d ≡ true) past beside) in
        absurd (nothing k.0 k.2))
  ]
    where
      nothing : (k : ℕ) → IsIn (run_of no_cell k) d → ⊥
      nothing zero is = omega (arith, is.until_end)
      nothing (suc k) is = omega (arith, is.until_end)

  -- a run by its number
  pub numbered_is : (c k : ℕ) → numbered_run cells (number_of c k) ≡ run_of (cell_at cells c) k
  numbered_is c zero =
      let half : (2 * c) / 2 ≡ c = omega arith in
      let side : (2 * c) % 2 ≡ 0 = omega arith in
      λ i. run_of (cell_at cells (half i)) (side i)
  numbered_is c (suc k) =
      let half : (2 * c + 1) / 2 ≡ c = omega arith in
      let side : (2 * c + 1) % 2 ≡ 1 = omega arith in
      λ i. run_of (cell_at cells (half i)) (side i)

  beside_in_numbered : (c d : ℕ) → is_beside (cell_at cells c) d ≡ true → (k : ℕ) × (k < 2) × IsIn (numbered_run cells (number_of c k)) d
  beside_in_numbered c d beside = (let k = beside_in (cell_at cells c) d beside in (k.0, k.1, subst (λ r. IsIn r d) (sym (numbered_is c k.0)) k.2))

  alone : (c : ℕ) → IsIn (run_alone c) c
  alone c = record { from_first = omega arith; until_end = omega arith }

  number_below : (c k : ℕ) → c < length cells → number_of c k < 2 * length cells
  number_below c zero inside = omega arith
  number_below c (suc k) inside = omega arith

  module _ (fit : All (IsFit (length cells)) cells) where
    fit_at : (c : ℕ) → IsFit (length cells) (cell_at cells c)
    fit_at c = elim (cases_lt c (length cells)) [
      | inl lt ↦ fit c no_cell lt
      | inr le ↦ subst (λ x. IsFit (length cells) x) (sym (get_or_past cells c no_cell le)) (record {
        takes = omega arith;
        small_seconds = omega arith;
        small_from = omega arith;
        small_last = omega arith;
        small_closing = tt;
        near_inside = omega arith;
        far_inside = omega arith;
      })
    ]

    beside_below : (c d : ℕ) → is_beside (cell_at cells c) d ≡ true → d < length cells
    beside_below c d beside = (let k = beside_in (cell_at cells c) d beside in go k.0 k.2)
      where
        go : (k : ℕ) → IsIn (run_of (cell_at cells c) k) d → d < length cells
        go zero is = omega (arith, is.until_end, (fit_at c).near_inside)
        go (suc k) is = omega (arith, is.until_end, (fit_at c).far_inside)

    some_inside : (c : ℕ) → (cell_at cells c ≡ no_cell → ⊥) → c < length cells
    some_inside c other = elim (cases_lt c (length cells)) [ inl lt ↦ lt | inr le ↦ absurd (other (get_or_past cells c no_cell le)) ]

    pub list_is_problem : IsProblem (listed_problem cells)
    list_is_problem = record {
      takes = λ c. (fit_at c).takes;
      small_seconds = λ c. (fit_at c).small_seconds;
      small_last = λ c. (fit_at c).small_last;
      turns_in_runs = λ c d turn. beside_in_numbered c d turn;
      turns_in_runs_before = λ c d turn. (c, beside_inside c d turn, alone c);
      numbers_inside = λ c k inside below. number_below c k inside;
      turns_inside = λ c d turn. (beside_inside c d turn, beside_below c d turn);
      starts_inside = started_inside;
      starts_in_runs = λ c s is. (0, omega arith, record { from_first = omega arith; until_end = started_inside c s is });
      first_runs_inside = λ k below. omega arith;
    }
      where
        started_inside : (c : ℕ) (s : Start) → option_map start_of (cell_at cells c).opening ≡ Some s → c < length cells
        started_inside c s is = some_inside c (λ empty. (
            let o = option_map_some start_of (cell_at cells c).opening s is in
            let e : None ≡ Some o.0 = sym (ap (λ (x : ListedCell). x.opening) empty) ∙ o.1 in
            absurd cc))

    pub list_is_backward_problem : IsBackwardProblem (listed_backward cells)
    list_is_backward_problem = record {
      takes = λ c. (fit_at c).takes;
      small_seconds = λ c. (fit_at c).small_seconds;
      small_from = λ c. (fit_at c).small_from;
      small_last = λ c. (fit_at c).small_last;
      small_finishes = λ c f is. finish_small (cell_at cells c).closing f (fit_at c).small_closing is;
      turns_in_runs = λ c d turn. beside_in_numbered d c turn;
      turns_in_runs_after = λ c d turn. (d, beside_inside d c turn, alone d);
      numbers_inside = λ c k inside below. number_below c k inside;
      turns_inside = λ c d turn. (beside_below d c turn, beside_inside d c turn);
      finishes_inside = finished_inside;
      finishes_in_runs = λ c f is. (0, omega arith, record { from_first = omega arith; until_end = finished_inside c f is });
      last_runs_inside = λ k below. omega arith;
    }
      where
        finished_inside : (c : ℕ) (f : Finish) → option_map finish_of (cell_at cells c).closing ≡ Some f → c < length cells
        finished_inside c f is = some_inside c (λ empty. (
            let o = option_map_some finish_of (cell_at cells c).closing f is in
            let e : None ≡ Some o.0 = sym (ap (λ (x : ListedCell). x.closing) empty) ∙ o.1 in
            absurd cc))

        finish_small : (o : Option Closing) (f : Finish) → IfSome o (λ x. x.earliest_out < 2 ^ 31) → option_map finish_of o ≡ Some f → f.earliest_out < 2 ^ 31
        finish_small None f h is = absurd (let e : None ≡ Some f = is in cc)
        finish_small (Some x) f h is =
            let e : Some (finish_of x) ≡ Some f = is in
            let same : finish_of x ≡ f = cc in
            omega (arith, h, ap (λ (y : Finish). y.earliest_out) same)
