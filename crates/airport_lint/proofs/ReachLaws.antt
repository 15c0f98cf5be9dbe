-- Where classes get to, by the rows of marks.
use Rattle.std.proofs.Common.{◌≡◌, ◌↔◌, ℕ, ◌<◌, Bool, true, false, not, List, [], ◌∷◌, Vec, Global, length, get_or, All, IsTrue, refl, sym, subst, arith}
use Rattle.std.specs.List.{list_any}
use Rattle.std.proofs.lemmas.Bool.{false≢true}
use Rattle.std.proofs.lemmas.List.Elements.{Contains-get_or}
use Rattle.taxi_base.specs.declared.numbers.Node.{Node}
use Rattle.taxi_base.specs.declared.numbers.Class.{Class}
use Rattle.taxi_base.specs.declared.rows.Kind.{Kind}
use Rattle.taxi_base.specs.Airport.{Airport}
use Rattle.taxi_base.proofs.ListLaws.{list_any-true, list_any-member}
use Rattle.class_ways.specs.declared.course.Course.{Course}
use Rattle.class_ways.specs.declared.course.Course.TheVariants.{Onward}
use Rattle.class_ways.specs.Ways.{is_of, AreMet}
use Rattle.class_ways.proofs.WayLaws.{comes-class, is_of-node}
use Rattle.airport_lint.specs.Advice.{SomeComes, Connects}
use Rattle.airport_lint.specs.Tables.{AreRows}

abbrev pub marked_at : Node → Vec Bool Global → Bool
marked_at node row = get_or row.items node.0 false

-- the rows are as wide as there are nodes
pub rows-wide : (course : Course) (kind : Kind) (airport : Airport) (rows : List (Vec Bool Global)) (node : Node) → AreRows course kind airport rows → node.0 < length airport.nodes
    → All (λ row. node.0 < length row.items) rows
rows-wide course kind airport rows node are low = λ k d within.
    let met = are.each (record { 0 = k }) d within in let count = met.count in omega (arith, count, low)

pub some-comes : (course : Course) (kind : Kind) (airport : Airport) (rows : List (Vec Bool Global)) (node : Node) → AreRows course kind airport rows → node.0 < length airport.nodes
    → IsTrue (list_any (marked_at node) rows) ↔ SomeComes course kind airport node
some-comes course kind airport rows node are low = (
  λ some.
      let found = list_any-true (marked_at node) rows some in
      let row = found.0 in
      let class : Class = record { 0 = found.1.0 } in
      let met = are.each class row found.1.1 in
      let mark : IsTrue (get_or (get_or rows class.0 row).items node.0 false) = subst (λ r. IsTrue (marked_at node r)) (sym found.1.2) found.2 in
      (class, (met.each node low).0 mark),
  λ some.
      let class = some.0 in
      let within : class.0 < length rows = let exists = comes-class course kind airport class node some.1 in omega (arith, are.count, exists) in
      let none : Vec Bool Global = get_or rows class.0 (first rows class.0 within) in
      let met = are.each class none within in
      list_any-member (marked_at node) rows (get_or rows class.0 none) (Contains-get_or rows class.0 none within) ((met.each node low).1 some.1),
)
  where
    first : {X : Type 0} (xs : List X) (k : ℕ) → k < length xs → X
    first [] k low = absurd (omega (arith, low))
    first (x ∷ xs) k low = x

pub none-comes : (course : Course) (kind : Kind) (airport : Airport) (rows : List (Vec Bool Global)) (node : Node) (some : Bool) → AreRows course kind airport rows → node.0 < length airport.nodes
    → some ≡ list_any (marked_at node) rows → IsTrue (not some) ↔ (SomeComes course kind airport node → ⊥)
none-comes course kind airport rows node some are low is =
    denied some (SomeComes course kind airport node) (rw is (some-comes course kind airport rows node are low))
  where
    denied : (b : Bool) (P : Type 0) → IsTrue b ↔ P → IsTrue (not b) ↔ (P → ⊥)
    denied true P same = (λ e. absurd (false≢true e), λ none. absurd (none (same.0 refl)))
    denied false P same = (λ e p. absurd (false≢true (same.1 p)), λ none. refl)

-- a class connects a node of a kind with some of another
pub connects : (from to : Kind) (airport : Airport) (class : Class) (row : List Bool) → AreMet Onward from airport class row
    → ((node : Node) × IsTrue (is_of to airport node) × IsTrue (get_or row node.0 false)) ↔ Connects from to airport class
connects from to airport class row met = (
  λ there. (there.0, there.1, (met.each there.0 (is_of-node to airport there.0 there.1)).0 there.2),
  λ comes. (comes.0, comes.1, (met.each comes.0 (is_of-node to airport comes.0 comes.1)).1 comes.2),
)
