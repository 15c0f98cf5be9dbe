-- Ordered rows are seen by their neighbours. A row is found by its place in the order.
use Rattle.std.proofs.Common.{◌≡◌, ◌↔◌, ℕ, zero, suc, ◌+◌, ◌-◌, ◌<◌, ◌≤◌, Bool, true, false, List, length, get_or, inl, inr, IsTrue, refl, sym, ◌∙◌, ap, subst, arith}
use Rattle.std.specs.Prelude.{◌&&◌, ◌||◌, ◌==◌, nat_le, nat_lt, Contains}
use Rattle.std.specs.List.{AllAdjacentBelow, IsAllAdjacentAnswer}
use Rattle.std.specs.List.Sorted.{IsPartitionPoint, IsPartitionedBy}
use Rattle.std.proofs.lemmas.Bool.{cases_lt, both_ways, false≢true, and_parts, and_from, eqb-true, eq-eqb, leb-true, le-leb}
use Rattle.std.proofs.lemmas.Bool.Decides.{nat_tests}
use Rattle.std.proofs.lemmas.List.{get_or_default}
use Rattle.taxi_base.specs.declared.rows.LabelRow.{LabelRow}
use Rattle.taxi_base.specs.Labels.{precedes}
use Rattle.walk_labels.specs.Rules.{HasAsEarly}
use Rattle.walk_labels.specs.BackwardRules.{HasAsLate}
use Rattle.table_rows.specs.declared.reach.Way.{Way}
use Rattle.table_rows.specs.declared.reach.Way.TheVariants.{Forward, Backward}
use Rattle.table_rows.specs.Rows.{AreOrdered, is_at_place, is_as_good}
use Rattle.table_rows.specs.HasRows.{HasAsGood}

pub precedes-trans : (p q r : LabelRow) → IsTrue (precedes p q) → IsTrue (precedes q r) → IsTrue (precedes p r)
precedes-trans p q r a b = numbers p.arc.0 p.from q.arc.0 q.from r.arc.0 r.from a b where
  numbers : (a b c d e f : ℕ) → IsTrue (nat_lt a c || (a == c && nat_lt b d)) → IsTrue (nat_lt c e || (c == e && nat_lt d f)) → IsTrue (nat_lt a e || (a == e && nat_lt b f))
  numbers a b c d e f h k = grind (arith, nat_tests)

-- ---- rows in order

module _ (rows : List LabelRow) (adjacent : AllAdjacentBelow (λ p q. true ≡ precedes p q) rows (length rows)) where
  further : (n i : ℕ) (d : LabelRow) → i + 1 + n < length rows → IsTrue (precedes (get_or rows i d) (get_or rows (i + 1 + n) d))
  further zero i d on = let e : i + 1 ≡ i + 1 + 0 = omega arith in subst (λ k. IsTrue (precedes (get_or rows i d) (get_or rows k d))) e (sym (adjacent i d (omega arith)))
  further (suc n) i d on =
      let step : i + 1 + n + 1 ≡ i + 1 + suc n = omega arith in
      subst (λ k. IsTrue (precedes (get_or rows i d) (get_or rows k d))) step
      (precedes-trans (get_or rows i d) (get_or rows (i + 1 + n) d) (get_or rows (i + 1 + n + 1) d) (further n i d (omega arith)) (sym (adjacent (i + 1 + n) d (omega arith))))

  pairs-from_adjacent : AreOrdered rows
  pairs-from_adjacent i j d below on =
      let e : i + 1 + (j - (i + 1)) ≡ j = omega arith in
      subst (λ k. IsTrue (precedes (get_or rows i d) (get_or rows k d))) e (further (j - (i + 1)) i d (omega arith))

-- neighbours in order are enough
pub ordered-by_neighbours : (r : Bool) (rows : List LabelRow) → IsAllAdjacentAnswer (λ p q b. b ≡ precedes p q) rows r → IsTrue r ↔ AreOrdered rows
ordered-by_neighbours true rows adjacent = (λ _. pairs-from_adjacent rows adjacent, λ _. refl)
ordered-by_neighbours false rows broken =
    (λ e. absurd (false≢true e), λ ordered. absurd (both_ways _ (sym (broken.2 none)) (ordered broken.0 (broken.0 + 1) none (omega arith) broken.1))) where
      none : LabelRow
      none = record { arc = record { 0 = 0 }; from = 0; until = 0; value = 0 }

-- ---- a row by its place

pub rows-parted : (rows : List LabelRow) (label : LabelRow) → AreOrdered rows → IsPartitionedBy (λ row. precedes row label) rows
rows-parted rows label ordered i j d le on is =
    elim (cases_lt i j) [
      | inl below ↦ precedes-trans (get_or rows i d) (get_or rows j d) label (ordered i j d below on) is
      | inr above ↦ (let e : j ≡ i = omega arith in subst (λ k. precedes (get_or rows k d) label ≡ true) e is)
    ]

-- a row at a label's place does not stand before it, and stands behind what does
module _ (label : LabelRow) where
  not_before : (row : LabelRow) → IsTrue (is_at_place row label) → precedes row label ≡ false
  not_before row same = numbers row.arc.0 row.from row.until label.arc.0 label.from label.until same where
    numbers : (a b u c d v : ℕ) → IsTrue (a == c && (b == d && u == v)) → (nat_lt a c || (a == c && nat_lt b d)) ≡ false
    numbers a b u c d v h = grind (arith, nat_tests)

  before_too : (other row : LabelRow) → IsTrue (is_at_place row label) → IsTrue (precedes other row) → IsTrue (precedes other label)
  before_too other row same is = numbers other.arc.0 other.from row.arc.0 row.from row.until label.arc.0 label.from label.until same is where
    numbers : (x y a b u c d v : ℕ) → IsTrue (a == c && (b == d && u == v)) → IsTrue (nat_lt x a || (x == a && nat_lt y b)) → IsTrue (nat_lt x c || (x == c && nat_lt y d))
    numbers x y a b u c d v h k = grind (arith, nat_tests)

  after_not : (other row : LabelRow) → IsTrue (is_at_place row label) → IsTrue (precedes row other) → precedes other label ≡ false
  after_not other row same is = numbers other.arc.0 other.from row.arc.0 row.from row.until label.arc.0 label.from label.until same is where
    numbers : (x y a b u c d v : ℕ) → IsTrue (a == c && (b == d && u == v)) → IsTrue (nat_lt a x || (a == x && nat_lt b y)) → (nat_lt x c || (x == c && nat_lt y d)) ≡ false
    numbers x y a b u c d v h k = grind (arith, nat_tests)

module _ (rows : List LabelRow) (label : LabelRow) (ordered : AreOrdered rows) (at : ℕ)
    (point : IsPartitionPoint (λ row. precedes row label ≡ true) (λ row. precedes row label ≡ false) rows at) where
  -- a row at the label's place stands where the rows before it end
  row-there : (row : LabelRow) → Contains rows row → IsTrue (is_at_place row label) → (at < length rows) × (get_or rows at row ≡ row)
  row-there row there same =
      let k = there.0 in
      let no : precedes (get_or rows k row) label ≡ false = subst (λ r. precedes r label ≡ false) (sym there.2) (not_before label row same) in
      elim (cases_lt k at) [
        | inl below ↦ absurd (both_ways _ no (point.0 k row (omega arith) below))
        | inr above ↦ elim (cases_lt at k) [
          | inl beyond ↦
              let first : IsTrue (precedes (get_or rows at row) row) = subst (λ r. IsTrue (precedes (get_or rows at row) r)) there.2 (ordered at k row beyond there.1) in
              absurd (both_ways _ (point.1 at row (omega arith) (omega (arith, there.1))) (before_too label (get_or rows at row) row same first))
          | inr same_place ↦ (let e : k ≡ at = omega arith in (omega (arith, there.1), subst (λ n. get_or rows n row ≡ row) e there.2))
        ]
      ]

  at_place_from : (row : LabelRow) (v : ℕ) → row ≡ record label { value = v } → IsTrue (is_at_place row label)
  at_place_from row v e = and_from _ _ (eq-eqb _ _ (ap (λ r. r.arc.0) e)) (and_from _ _ (eq-eqb _ _ (ap (λ r. r.from) e)) (eq-eqb _ _ (ap (λ r. r.until) e)))

  to_label : (row : LabelRow) → IsTrue (is_at_place row label) → row ≡ record label { value = row.value }
  to_label row same =
      let parts = and_parts _ _ same in
      let times = and_parts _ _ parts.1 in
      let a : row.arc.0 ≡ label.arc.0 = eqb-true _ _ parts.0 in
      let f : row.from ≡ label.from = eqb-true _ _ times.0 in
      let u : row.until ≡ label.until = eqb-true _ _ times.1 in
      λ i. record { arc = record { 0 = a i }; from = f i; until = u i; value = row.value }

  early-some : (row : LabelRow) → at < length rows → get_or rows at row ≡ row → IsTrue (is_at_place row label && nat_le row.value label.value) ↔ HasAsEarly rows label
  early-some row on is = (
    λ yes. (let parts = and_parts _ _ yes in (row.value, subst (Contains rows) (to_label row parts.0) (at, on, is), leb-true _ _ parts.1)),
    λ has.
        let there = row-there (record label { value = has.0 }) has.1 (at_place_from _ has.0 refl) in
        let same : row ≡ record label { value = has.0 } = sym is ∙ get_or_default rows at row (record label { value = has.0 }) on ∙ there.1 in
        and_from _ _ (at_place_from row has.0 same) (le-leb _ _ (omega (arith, ap (λ r. r.value) same, has.2))),
  )

  late-some : (row : LabelRow) → at < length rows → get_or rows at row ≡ row → IsTrue (is_at_place row label && nat_le label.value row.value) ↔ HasAsLate rows label
  late-some row on is = (
    λ yes. (let parts = and_parts _ _ yes in (row.value, subst (Contains rows) (to_label row parts.0) (at, on, is), leb-true _ _ parts.1)),
    λ has.
        let there = row-there (record label { value = has.0 }) has.1 (at_place_from _ has.0 refl) in
        let same : row ≡ record label { value = has.0 } = sym is ∙ get_or_default rows at row (record label { value = has.0 }) on ∙ there.1 in
        and_from _ _ (at_place_from row has.0 same) (le-leb _ _ (omega (arith, ap (λ r. r.value) same, has.2))),
  )

  early-none : length rows ≤ at → HasAsEarly rows label → ⊥
  early-none past has = absurd (omega (arith, (row-there (record label { value = has.0 }) has.1 (at_place_from _ has.0 refl)).0))

  late-none : length rows ≤ at → HasAsLate rows label → ⊥
  late-none past has = absurd (omega (arith, (row-there (record label { value = has.0 }) has.1 (at_place_from _ has.0 refl)).0))

  -- either way
  pub good-some : (way : Way) (row : LabelRow) → at < length rows → get_or rows at row ≡ row → IsTrue (is_as_good way row label) ↔ HasAsGood way rows label
  good-some Forward = early-some
  good-some Backward = late-some

  pub good-none : (way : Way) → length rows ≤ at → HasAsGood way rows label → ⊥
  good-none Forward = early-none
  good-none Backward = late-none

-- a row at the label's place that is known
pub good-row : (rows : List LabelRow) (label row : LabelRow) → AreOrdered rows → Contains rows row → IsTrue (is_at_place row label) → (way : Way) → IsTrue (is_as_good way row label) ↔ HasAsGood way rows label
good-row rows label row ordered there same way = good-some rows label ordered k point way row there.1 there.2 where
  k : ℕ
  k = there.0

  is_row : (d : LabelRow) → get_or rows k d ≡ row
  is_row d = get_or_default rows k d row there.1 ∙ there.2

  point : IsPartitionPoint (λ r. precedes r label ≡ true) (λ r. precedes r label ≡ false) rows k
  point = (
    λ j d low before. before_too label (get_or rows j d) row same (subst (λ r. IsTrue (precedes (get_or rows j d) r)) (is_row d) (ordered j k d before there.1)),
    λ j d from on. elim (cases_lt k j) [
      | inl beyond ↦ after_not label (get_or rows j d) row same (subst (λ r. IsTrue (precedes r (get_or rows j d))) (is_row d) (ordered k j d beyond on))
      | inr here ↦ (let e : k ≡ j = omega arith in subst (λ n. precedes (get_or rows n d) label ≡ false) e (subst (λ r. precedes r label ≡ false) (sym (is_row d)) (not_before label row same)))
    ],
  )
