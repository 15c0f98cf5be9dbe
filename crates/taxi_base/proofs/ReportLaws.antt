-- The rows of what holds a segment are one list.
use Rattle.std.proofs.Common.{◌≡◌, ℕ, Bool, ◌&&◌, ◌||◌, ltb, eqb, List, IsTrue, inl, inr, arith}
use Rattle.std.specs.Prelude.{nat_lt, bytes_eq}
use Rattle.std.proofs.lemmas.Bool.{or_cases, and_parts, both_ways}
use Rattle.std.proofs.lemmas.Bool.Decides.{nat_tests}
use Rattle.taxi_base.specs.declared.numbers.Segment.{Segment}
use Rattle.taxi_base.specs.declared.rows.HeldRow.{HeldRow}
use Rattle.taxi_base.specs.Airport.{Airport}
use Rattle.taxi_base.specs.State.{State, name_precedes}
use Rattle.taxi_base.specs.Reports.{row_precedes, AreHeldRows}
use Rattle.taxi_base.proofs.ListLaws.{ordered_same}
use Rattle.taxi_base.proofs.NameLaws.{name_precedes-one_way, name_precedes-differ}

-- an order by a number and then by another order goes one way, where the other does
by_number-one_way : (a b : ℕ) (p q : Bool) → (IsTrue p → IsTrue q → ⊥) → IsTrue (ltb a b || (eqb a b && p)) → IsTrue (ltb b a || (eqb b a && q)) → ⊥
by_number-one_way a b p q clash h k =
    elim (or_cases (ltb a b) (eqb a b && p) h) [
      | inl low ↦ elim (or_cases (ltb b a) (eqb b a && q) k) [
        | inl high ↦ grind (arith, nat_tests)
        | inr same ↦ let parts = and_parts (eqb b a) q same in grind (arith, nat_tests, parts.0)
      ]
      | inr same ↦ let parts = and_parts (eqb a b) p same in elim (or_cases (ltb b a) (eqb b a && q) k) [
        | inl high ↦ grind (arith, nat_tests, parts.0)
        | inr too ↦ clash parts.1 (and_parts (eqb b a) q too).1
      ]
    ]

-- and so does one by name and then by number
by_name-one_way : (a b : List ℕ) (s t : ℕ) → IsTrue (name_precedes a b || (bytes_eq a b && ltb s t)) → IsTrue (name_precedes b a || (bytes_eq b a && ltb t s)) → ⊥
by_name-one_way a b s t h k =
    elim (or_cases (name_precedes a b) (bytes_eq a b && ltb s t) h) [
      | inl before ↦ elim (or_cases (name_precedes b a) (bytes_eq b a && ltb t s) k) [
        | inl after ↦ both_ways _ (name_precedes-one_way a b before) after
        | inr same ↦ both_ways _ (name_precedes-differ a b before) (and_parts (bytes_eq b a) (ltb t s) same).0
      ]
      | inr same ↦ let parts = and_parts (bytes_eq a b) (ltb s t) same in elim (or_cases (name_precedes b a) (bytes_eq b a && ltb t s) k) [
        | inl after ↦ both_ways _ (name_precedes-differ b a after) parts.0
        | inr too ↦ let others = and_parts (bytes_eq b a) (ltb t s) too in grind (arith, nat_tests, parts.1, others.1)
      ]
    ]

row_precedes-one_way : (x y : HeldRow) → IsTrue (row_precedes x y) → IsTrue (row_precedes y x) → ⊥
row_precedes-one_way x y h k =
    by_number-one_way x.from y.from (later x y) (later y x)
    (by_number-one_way x.until y.until (last x y) (last y x) (by_name-one_way x.flight y.flight x.segment.0 y.segment.0)) h k
  where
    last : HeldRow → HeldRow → Bool
    last x y = name_precedes x.flight y.flight || (bytes_eq x.flight y.flight && nat_lt x.segment.0 y.segment.0)

    later : HeldRow → HeldRow → Bool
    later x y = nat_lt x.until y.until || (eqb x.until y.until && last x y)

-- The rows of the holds of segments in conflict with a segment are one list.
pub AreHeldRows-same : (airport : Airport) (state : State) (segment : Segment) (rows others : List HeldRow)
    → AreHeldRows airport state segment rows → AreHeldRows airport state segment others → rows ≡ others
AreHeldRows-same airport state segment rows others a b =
    ordered_same row_precedes row_precedes-one_way rows others a.ordered b.ordered (λ row h. (b.whole row).1 ((a.whole row).0 h)) (λ row h. (a.whole row).1 ((b.whole row).0 h))
