-- Taking the labels of a group of cells away, one marked cell after another.
use Rattle.std.proofs.Common.{◌≡◌, ◌≢◌, ℕ, ◌+◌, ◌-◌, ◌<◌, ◌≤◌, List, ◌++◌, length, take, set, get_or, Option, None, min, sym, ap, ◌∙◌, inl, inr, arith}
use Rattle.std.specs.Int.{bit_at}
use Rattle.std.proofs.lemmas.Bool.{cases_eq, cases_lt}
use Rattle.std.proofs.lemmas.Grind.{get_or-set_at}
use Rattle.std.proofs.lemmas.List.{get_or-set_other, length-set, length-map}
use Rattle.std.proofs.lemmas.Nat.Bits.{bit_at-zero}
use Rattle.label_search.specs.declared.labels.Label.{Label}
use Rattle.label_search.specs.Labels.{label_of}
use Rattle.label_search.specs.Values.{rows_from, value_kept, values_kept, AreAsBeforeFrom}
use Rattle.label_search.proofs.GroupLaws.{bit_cases}
use Rattle.label_search.proofs.ValueLaws.{row_of, rows_more, rows_skip, kept_at, none_kept}

-- Of the marked cells of a group those that are left lie from one cell on, and the labels of the others are taken away.
pub record IsTakenTo (marks first : ℕ) (old now : List (Option Label)) (left done : ℕ) : Type 0 where
  pub same_length : length now ≡ length old
  pub from_first : first ≤ done
  pub to_last : done ≤ first + 64
  pub still : (k : ℕ) → k < 64 → bit_at left k ≡ 1 → (bit_at marks k ≡ 1) × (done ≤ first + k)
  pub gone : (k : ℕ) → k < 64 → bit_at marks k ≡ 1 → bit_at left k ≡ 0 → (first + k < done) × (label_of now (first + k) ≡ None)
  pub others : (c : ℕ) → label_of old c ≡ None → label_of now c ≡ None
  pub rest : (c : ℕ) → done ≤ c → label_of now c ≡ label_of old c

module _ (marks first : ℕ) (old now : List (Option Label)) (left done : ℕ) (so_far : IsTakenTo marks first old now left done) where
  -- the lowest cell that is left is taken
  pub one_taken : (k rest : ℕ) → k < 64 → bit_at left k ≡ 1 → ((j : ℕ) → j < k → bit_at left j ≡ 0) → first + k < length now
      → bit_at rest k ≡ 0 → ((j : ℕ) → j < 64 → j ≢ k → bit_at rest j ≡ bit_at left j)
      → IsTakenTo marks first old (set now (first + k) None) rest (first + k + 1)
  one_taken k rest small here lowest on cleared same =
      let before = (so_far.still k small here).1 in
      record {
        same_length = length-set now (first + k) None ∙ so_far.same_length;
        from_first = omega arith;
        to_last = omega arith;
        still = λ j fits one. elim (cases_eq j k) [
          | inl is ↦ absurd (let zero : bit_at rest j ≡ 0 = ap (bit_at rest) is ∙ cleared in omega (arith, zero, one))
          | inr other ↦ (let was : bit_at left j ≡ 1 = sym (same j fits other) ∙ one in ((so_far.still j fits was).0, above j other was))
        ];
        gone = λ j fits one zero. elim (cases_eq j k) [
          | inl is ↦ (omega arith, get_or-set_at now (first + k) (first + j) None None (omega arith) on)
          | inr other ↦ (let was = so_far.gone j fits one (sym (same j fits other) ∙ zero) in
              (omega (arith, was.0, before), get_or-set_other now (first + k) (first + j) None None (omega (arith, other)) ∙ was.1))
        ];
        others = λ c none. elim (cases_eq c (first + k)) [
          | inl is ↦ get_or-set_at now (first + k) c None None is on
          | inr other ↦ get_or-set_other now (first + k) c None None other ∙ so_far.others c none
        ];
        rest = λ c from. get_or-set_other now (first + k) c None None (omega (arith, from)) ∙ so_far.rest c (omega (arith, from, before));
      }
    where
      above : (j : ℕ) → j ≢ k → bit_at left j ≡ 1 → first + k + 1 ≤ first + j
      above j other one = elim (cases_lt j k) [
        | inl less ↦ absurd (omega (arith, lowest j less, one))
        | inr from ↦ omega (arith, from, other)
      ]

  module _ (unmarked : (k : ℕ) → k < 64 → bit_at marks k ≡ 0 → label_of old (first + k) ≡ None) where
    -- a cell from there on had no label, if it isn't one of those that are left
    empty_past : (c : ℕ) → done ≤ c → c < first + 64 → bit_at left (c - first) ≡ 0 → label_of old c ≡ None
    empty_past c from to zero =
        let fits : c - first < 64 = omega (arith, from, to, so_far.from_first) in
        let is : c ≡ first + (c - first) = omega (arith, from, so_far.from_first) in
        ap (label_of old) is ∙ elim (bit_cases marks (c - first)) [
          | inl not ↦ unmarked (c - first) fits not
          | inr one ↦ absurd (omega (arith, (so_far.gone (c - first) fits one zero).0, is, from))
        ]

    module _ (bound : Option ℕ) (all : List (Option Label)) (same : AreAsBeforeFrom first all old) (long : length all ≡ length old) where
      abbrev kept : List (Option ℕ)
      kept = values_kept bound all

      many : length kept ≡ length all
      many = length-map all (value_kept bound)

      skip : (to : ℕ) → done ≤ to → to ≤ first + 64 → ((c : ℕ) → done ≤ c → c < to → bit_at left (c - first) ≡ 0)
          → rows_from 0 (take (min to (length all)) kept) ≡ rows_from 0 (take (min done (length all)) kept)
      skip to from fits none =
          rows_skip kept (min done (length all)) (min to (length all)) (omega (arith, from)) (omega (arith, many))
          (λ c above below. none_kept bound all c (sym (same c (omega (arith, above, below, so_far.from_first))) ∙ empty_past c (omega (arith, above, below)) (omega (arith, below, fits)) (none c (omega (arith, above, below)) (omega (arith, below)))))

      -- the rows to the lowest cell that is left
      pub rows_to_lowest : (k : ℕ) → k < 64 → bit_at left k ≡ 1 → ((j : ℕ) → j < k → bit_at left j ≡ 0)
          → rows_from 0 (take (min (first + k) (length all)) kept) ≡ rows_from 0 (take (min done (length all)) kept)
      rows_to_lowest k small here lowest = skip (first + k) (so_far.still k small here).1 (omega (arith, small)) (λ c from to. lowest (c - first) (omega (arith, from, to, so_far.from_first)))

      -- and to the end of the group where none is left
      pub rows_to_end : left ≡ 0 → rows_from 0 (take (min (first + 64) (length all)) kept) ≡ rows_from 0 (take (min done (length all)) kept)
      rows_to_end none = skip (first + 64) so_far.to_last (omega arith) (λ c from to. ap (λ word. bit_at word (c - first)) none ∙ bit_at-zero (c - first))

      -- and past it, with its own row
      pub one_row : (k : ℕ) → k < 64 → bit_at left k ≡ 1 → ((j : ℕ) → j < k → bit_at left j ≡ 0) → first + k < length now
          → (value : Option ℕ) → value ≡ value_kept bound (label_of now (first + k))
          → rows_from 0 (take (min done (length all)) kept) ++ row_of (first + k) value ≡ rows_from 0 (take (min (first + k + 1) (length all)) kept)
      one_row k small here lowest on value is =
          let cell = first + k in
          let cell_in : cell < length all = omega (arith, on, long, so_far.same_length) in
          let short : min cell (length all) ≡ cell = omega (arith, cell_in) in
          let next : min (cell + 1) (length all) ≡ cell + 1 = omega (arith, cell_in) in
          let found : get_or kept cell None ≡ value =
          kept_at bound all cell ∙ ap (value_kept bound) (sym (same cell (omega arith)) ∙ sym (so_far.rest cell (so_far.still k small here).1)) ∙ sym is in
          ap (λ rows. rows ++ row_of cell value) (sym (rows_to_lowest k small here lowest) ∙ ap (λ n. rows_from 0 (take n kept)) short)
          ∙ ap (λ o. rows_from 0 (take cell kept) ++ row_of cell o) (sym found)
          ∙ sym (rows_more kept cell (omega (arith, cell_in, many)))
          ∙ ap (λ n. rows_from 0 (take n kept)) (sym next)
