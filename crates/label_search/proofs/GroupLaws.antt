-- The marks of cells, as labels come and go.
use Rattle.std.proofs.Common.{◌≡◌, ◌≢◌, ℕ, ◌+◌, ◌*◌, ◌/◌, ◌%◌, ◌^◌, ◌<◌, ◌≤◌, ◌⊎◌, List, length, set, get_or, replicate, min, Option, Some, None, refl, sym, ap, ◌∙◌, inl, inr, arith, w64}
use Rattle.std.specs.Int.{bit_at, bit_not}
use Rattle.std.specs.Prelude.{bit_and, bit_or}
use Rattle.std.proofs.lemmas.Bool.{cases_eq, cases_lt}
use Rattle.std.proofs.lemmas.Grind.{get_or-set_at}
use Rattle.std.proofs.lemmas.List.{get_or-set_other, get_or_past, get_or-replicate, length-replicate, length-set}
use Rattle.std.proofs.lemmas.Nat.{and_le_l}
use Rattle.std.proofs.lemmas.Nat.Bits.{bit_at-zero, bit_at-lt, bit_at_set_same, bit_at_set_other, bit_at_clear_same, bit_at_clear_other}
use Rattle.label_search.specs.declared.labels.Label.{Label}
use Rattle.label_search.specs.Labels.{label_of}
use Rattle.label_search.specs.Groups.{bits_of_group, bit_of, AreMarked, HaveNothing, IsMarkedToo}

all_replicated : {A : Type 0} (n : ℕ) (a : A) (i : ℕ) → get_or (replicate n a) i a ≡ a
all_replicated n a i = elim (cases_lt i n) [
  | inl on ↦ get_or-replicate n i a a on
  | inr past ↦ get_or_past (replicate n a) i a (omega (arith, length-replicate n a))
]

pub nothing_yet : (n : ℕ) → HaveNothing {A = Label} (replicate n None)
nothing_yet n c = all_replicated n None c

-- a bit is 0 or 1
pub bit_cases : (word k : ℕ) → (bit_at word k ≡ 0) ⊎ (bit_at word k ≡ 1)
bit_cases word k = elim (cases_lt (bit_at word k) 1) [
  | inl less ↦ inl (omega arith)
  | inr one ↦ inr (omega (arith, bit_at-lt word k))
]

-- no label, and no mark
pub marked_none : (n m : ℕ) → AreMarked {A = Label} (replicate n None) (replicate m 0)
marked_none n m = record {
  others = λ c zero. all_replicated n None c;
  inside = λ c one. absurd (let no : bit_of (replicate m 0) c ≡ 0 = ap (λ word. bit_at word (c % 64)) (all_replicated m 0 (c / 64)) ∙ bit_at-zero (c % 64) in omega (arith, no, one));
}

-- the bit of one more cell is set
pub mark_more : (groups : List ℕ) (cell : ℕ) → cell / 64 < length groups
    → IsMarkedToo groups (set groups (cell / 64) (bit_or (bits_of_group groups (cell / 64)) (1 * 2 ^ (cell % 64) % 2 ^ 64))) cell
mark_more groups cell there =
    let old : ℕ = bits_of_group groups (cell / 64) in
    let new : ℕ = bit_or old (1 * 2 ^ (cell % 64) % 2 ^ 64) in
    let small : cell % 64 < 64 = omega arith in
    record {
      as_many = length-set groups (cell / 64) new;
      here = ap (λ word. bit_at word (cell % 64)) (get_or-set_at groups (cell / 64) (cell / 64) new 0 refl there) ∙ bit_at_set_same w64 old (cell % 64) small;
      others = λ c other. elim (cases_eq (c / 64) (cell / 64)) [
        | inl same ↦ (
            let apart : c % 64 ≢ cell % 64 = λ e. other (omega (arith, same, e)) in
            ap (λ word. bit_at word (c % 64)) (get_or-set_at groups (cell / 64) (c / 64) new 0 same there)
            ∙ bit_at_set_other w64 old (cell % 64) small (c % 64) apart
            ∙ ap (λ g. bit_at (bits_of_group groups g) (c % 64)) (sym same))
        | inr apart ↦ ap (λ word. bit_at word (c % 64)) (get_or-set_other groups (cell / 64) (c / 64) new 0 apart)
      ];
    }

-- a label is written, and its cell is marked
pub marked_write : (known : List (Option Label)) (groups new : List ℕ) (cell : ℕ) (label : Label) → cell < length known → AreMarked known groups → IsMarkedToo groups new cell
    → AreMarked (set known cell (Some label)) new
marked_write known groups new cell label on are more = record {
  others = λ c zero. elim (cases_eq c cell) [
    | inl same ↦ absurd (let one : bit_of new c ≡ 1 = ap (bit_of new) same ∙ more.here in omega (arith, zero, one))
    | inr other ↦ get_or-set_other known cell c (Some label) None other ∙ are.others c (sym (more.others c other) ∙ zero)
  ];
  inside = λ c one. elim (cases_eq c cell) [
    | inl same ↦ omega (arith, length-set known cell (Some label))
    | inr other ↦ omega (arith, length-set known cell (Some label), are.inside c (sym (more.others c other) ∙ one))
  ];
}

-- a bit that is set is cleared: the number gets less, and other bits are as before
pub cleared_bit : (word k : ℕ) → k < 64 → bit_at word k ≡ 1
    → let left = bit_and word (bit_not w64 (1 * 2 ^ k % 2 ^ 64)) in
    (left < word) × (bit_at left k ≡ 0) × ((j : ℕ) → j < 64 → j ≢ k → bit_at left j ≡ bit_at word j)
cleared_bit word k within is_set =
    let left : ℕ = bit_and word (bit_not w64 (1 * 2 ^ k % 2 ^ 64)) in
    let gone : bit_at left k ≡ 0 = bit_at_clear_same w64 word k within in (
      elim (cases_eq left word) [
        | inl same ↦ absurd (let both : bit_at left k ≡ bit_at word k = ap (λ x. bit_at x k) same in omega arith)
        | inr other ↦ omega (arith, and_le_l word (bit_not w64 (1 * 2 ^ k % 2 ^ 64)))
      ],
      gone,
      λ j small other. bit_at_clear_other w64 word k within j small other,
    )

-- the labels of the groups before one are taken away, and their bits are cleared
pub record AreTakenTo (known₀ known : List (Option Label)) (groups₀ groups : List ℕ) (group : ℕ) : Type 0 where
  pub same_length : length known ≡ length known₀
  pub as_many : length groups ≡ length groups₀
  pub marked : AreMarked known groups
  pub done : (g : ℕ) → g < group → bits_of_group groups g ≡ 0

module _ (known₀ known : List (Option Label)) (groups₀ groups : List ℕ) (group : ℕ) (so_far : AreTakenTo known₀ known groups₀ groups group) where
  -- a cell of the group, by its bit
  pub unmarked : (k : ℕ) → k < 64 → bit_at (bits_of_group groups group) k ≡ 0 → label_of known (group * 64 + k) ≡ None
  unmarked k small zero =
      let g : (group * 64 + k) / 64 ≡ group = omega arith in
      let r : (group * 64 + k) % 64 ≡ k = omega arith in
      so_far.marked.others (group * 64 + k) ((λ i. bit_at (bits_of_group groups (g i)) (r i)) ∙ zero)

  pub marked_inside : (k : ℕ) → k < 64 → bit_at (bits_of_group groups group) k ≡ 1 → group * 64 + k < length known
  marked_inside k small one =
      let g : (group * 64 + k) / 64 ≡ group = omega arith in
      let r : (group * 64 + k) % 64 ≡ k = omega arith in
      so_far.marked.inside (group * 64 + k) ((λ i. bit_at (bits_of_group groups (g i)) (r i)) ∙ one)

  pub taken_past : bits_of_group groups group ≡ 0 → AreTakenTo known₀ known groups₀ groups (group + 1)
  taken_past none = record {
    same_length = so_far.same_length;
    as_many = so_far.as_many;
    marked = so_far.marked;
    done = λ g below. elim (cases_eq g group) [
      | inl same ↦ ap (bits_of_group groups) same ∙ none
      | inr other ↦ so_far.done g (omega arith)
    ];
  }

  pub taken_more : (known' : List (Option Label)) → group < length groups → length known' ≡ length known
      → ((k : ℕ) → k < 64 → bit_at (bits_of_group groups group) k ≡ 1 → label_of known' (group * 64 + k) ≡ None)
      → ((c : ℕ) → label_of known c ≡ None → label_of known' c ≡ None)
      → AreTakenTo known₀ known' groups₀ (set groups group 0) (group + 1)
  taken_more known' on long taken kept = record {
    same_length = long ∙ so_far.same_length;
    as_many = length-set groups group 0 ∙ so_far.as_many;
    marked = record {
      others = λ c zero. elim (cases_eq (c / 64) group) [
        | inl same ↦ gone c same
        | inr other ↦ kept c (so_far.marked.others c (sym (elsewhere c other) ∙ zero))
      ];
      inside = λ c one. elim (cases_eq (c / 64) group) [
        | inl same ↦ absurd (let none : bit_of (set groups group 0) c ≡ 0 = ap (λ word. bit_at word (c % 64)) (get_or-set_at groups group (c / 64) 0 0 same on) ∙ bit_at-zero (c % 64) in omega (arith, none, one))
        | inr other ↦ omega (arith, long, so_far.marked.inside c (sym (elsewhere c other) ∙ one))
      ];
    };
    done = λ g below. elim (cases_eq g group) [
      | inl same ↦ get_or-set_at groups group g 0 0 same on
      | inr other ↦ get_or-set_other groups group g 0 0 other ∙ so_far.done g (omega arith)
    ];
  }
    where
      elsewhere : (c : ℕ) → c / 64 ≢ group → bit_of (set groups group 0) c ≡ bit_of groups c
      elsewhere c other = ap (λ word. bit_at word (c % 64)) (get_or-set_other groups group (c / 64) 0 0 other)

      -- all labels of the group are gone
      gone : (c : ℕ) → c / 64 ≡ group → label_of known' c ≡ None
      gone c same =
          let here : c ≡ group * 64 + c % 64 = omega (arith, same) in
          ap (label_of known') here ∙ elim (bit_cases (bits_of_group groups group) (c % 64)) [
            | inl zero ↦ kept (group * 64 + c % 64) (unmarked (c % 64) (omega arith) zero)
            | inr one ↦ taken (c % 64) (omega arith) one
          ]

  -- where only cells below a count had a label, none has one once the groups of these are done
  pub taken_below : (count : ℕ) → min (length groups) (count / 64 + 1) ≤ group → length groups₀ ≡ length known₀ / 64 + 1
      → ((c : ℕ) → group * 64 ≤ c → label_of known c ≡ label_of known₀ c) → ((c : ℕ) (label : Label) → label_of known₀ c ≡ Some label → c < count)
      → (c : ℕ) → label_of known c ≡ None
  taken_below count over counted rest inside c =
      elim (cases_lt (c / 64) group) [
        | inl before ↦ so_far.marked.others c (ap (λ word. bit_at word (c % 64)) (so_far.done (c / 64) before) ∙ bit_at-zero (c % 64))
        | inr past ↦ elim (cases_lt c (length known)) [
          | inl on ↦ none on past (label_of known c) refl
          | inr out ↦ get_or_past known c None out
        ]
      ]
    where
      none : c < length known → group ≤ c / 64 → (o : Option Label) → label_of known c ≡ o → label_of known c ≡ None
      none on past None is = is
      none on past (Some label) is =
          absurd (let below : c < count = inside c label (sym (rest c (omega (arith, past))) ∙ is) in
          omega (arith, on, past, below, over, counted, so_far.same_length, so_far.as_many))
