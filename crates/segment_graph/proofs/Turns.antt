-- The turns from and to an arc, as a part of the arcs at its end.
use Rattle.std.proofs.Common.{◌≡◌, ℕ, ◌/◌, Bool, true, false, ◌&&◌, List, [], get_or, Option, Some, None, IsTrue, refl, sym, ◌∙◌, ap}
use Rattle.std.specs.Prelude.{◌==◌, not, filter, is_some}
use Rattle.std.proofs.lemmas.Bool.{and_parts, and_from, eqb-true, eq-eqb}
use Rattle.taxi_base.proofs.InOrder.{same_answer, Contains-test, test-Contains, AreAll-same, AreAll-filter}
use Rattle.taxi_base.specs.declared.numbers.Node.{Node}
use Rattle.taxi_base.specs.declared.numbers.Arc.{Arc}
use Rattle.taxi_base.specs.Airport.{Link, Layout, meet, ends, head, arc_exists, is_forbidden, permits}
use Rattle.segment_graph.specs.declared.links.Side.TheVariants.{Tail, Head}
use Rattle.segment_graph.specs.Graphs.{AreArcs, AreLeaving, AreEntering, AreNext, ArePrevious, AreNodeRows, AreArcRows}
use Rattle.segment_graph.specs.Groups.{tail_in, head_in, AreBarred, has_arc, may_turn, turn_in, AreEndRows, AreTurnsFrom, AreTurnsTo}
use Rattle.segment_graph.proofs.Ends.{same_node, same_arc, head-is, arc_exists-head}

abbrev arc_number : Arc → ℕ
arc_number a = a.0

meet-second : (a : Node) (o : Option Node) → IsTrue (meet (Some a) o) → o ≡ Some a
meet-second a (Some b) h = ap Some (same_node b a (sym (eqb-true a.0 b.0 h)))
meet-second a None h = absurd (cc h)

meet-first : (o : Option Node) (b : Node) → IsTrue (meet o (Some b)) → o ≡ Some b
meet-first (Some a) b h = ap Some (same_node a b (eqb-true a.0 b.0 h))
meet-first None b h = absurd (cc h)

meet-same : (a : Node) → IsTrue (meet (Some a) (Some a))
meet-same a = eq-eqb a.0 a.0 refl

-- ---- the turns from an arc

pub AreTurnsFrom-filter : (links : List Link) (barred : List (List Arc)) (x : Arc) (node : Node) (leaving : List Arc) → head_in links x ≡ Some node
    → AreArcs (λ a. tail_in links a ≡ Some node) leaving → AreTurnsFrom links barred x (filter (may_turn barred x) leaving)
AreTurnsFrom-filter links barred x node leaving ahead all =
    AreAll-same arc_number (λ y. (tail_in links y ≡ Some node) × IsTrue (may_turn barred x y)) (λ y. IsTrue (turn_in links barred x y)) (filter (may_turn barred x) leaving)
    (λ y h. and_from (meet (head_in links x) (tail_in links y)) (may_turn barred x y) (rw (ahead, h.0) (meet-same node)) h.1)
    (λ y h. let parts = and_parts (meet (head_in links x) (tail_in links y)) (may_turn barred x y) h in
    (meet-second node (tail_in links y) (rw ahead at parts.0), parts.1))
    (AreAll-filter arc_number (λ a. tail_in links a ≡ Some node) (may_turn barred x) leaving all)

-- ---- the turns to an arc

pub AreTurnsTo-filter : (links : List Link) (barred : List (List Arc)) (y : Arc) (node : Node) (entering : List Arc) → tail_in links y ≡ Some node
    → AreArcs (λ a. head_in links a ≡ Some node) entering → AreTurnsTo links barred y (filter (λ x. may_turn barred x y) entering)
AreTurnsTo-filter links barred y node entering behind all =
    AreAll-same arc_number (λ x. (head_in links x ≡ Some node) × IsTrue (may_turn barred x y)) (λ x. IsTrue (turn_in links barred x y)) (filter (λ x. may_turn barred x y) entering)
    (λ x h. and_from (meet (head_in links x) (tail_in links y)) (may_turn barred x y) (rw (behind, h.0) (meet-same node)) h.1)
    (λ x h. let parts = and_parts (meet (head_in links x) (tail_in links y)) (may_turn barred x y) h in
    (meet-first (head_in links x) node (rw behind at parts.0), parts.1))
    (AreAll-filter arc_number (λ a. head_in links a ≡ Some node) (λ x. may_turn barred x y) entering all)

-- ---- in a layout

and_assoc : (a b c : Bool) → ((a && b) && c) ≡ (a && (b && c))
and_assoc true b c = refl
and_assoc false b c = refl

pub permits-is : (layout : Layout) (barred : List (List Arc)) (x y : Arc) → AreBarred layout.forbidden barred → turn_in layout.links barred x y ≡ permits layout x y
unfolding permits ends
permits-is layout barred x y are =
    ap (λ b. meet (head_in layout.links x) (tail_in layout.links y) && (not (x.0 / 2 == y.0 / 2) && not b)) (are.each x y)
    ∙ sym (and_assoc (meet (head_in layout.links x) (tail_in layout.links y)) (not (x.0 / 2 == y.0 / 2)) (not (is_forbidden layout.forbidden x y)))

pub AreNodeRows-leaving : (layout : Layout) (rows : List (List Arc)) → AreEndRows Tail layout.links layout.nodes rows → AreNodeRows layout.nodes (AreLeaving layout) rows
unfolding ends
AreNodeRows-leaving layout rows are = are

pub AreNodeRows-entering : (layout : Layout) (rows : List (List Arc)) → AreEndRows Head layout.links layout.nodes rows → AreNodeRows layout.nodes (AreEntering layout) rows
unfolding ends
AreNodeRows-entering layout rows are = are

pub AreArcRows-next : (layout : Layout) (barred : List (List Arc)) (arcs : ℕ) (rows : List (List Arc)) → AreBarred layout.forbidden barred
    → AreArcRows arcs (AreTurnsFrom layout.links barred) rows → AreArcRows arcs (AreNext layout) rows
AreArcRows-next layout barred arcs rows is are = record {
  count = are.count;
  each = λ x low.
      AreAll-same arc_number (λ y. IsTrue (turn_in layout.links barred x y)) (λ y. IsTrue (permits layout x y)) (get_or rows x.0 [])
      (λ y h. sym (permits-is layout barred x y is) ∙ h) (λ y h. permits-is layout barred x y is ∙ h) (are.each x low);
}

pub AreArcRows-previous : (layout : Layout) (barred : List (List Arc)) (arcs : ℕ) (rows : List (List Arc)) → AreBarred layout.forbidden barred
    → AreArcRows arcs (AreTurnsTo layout.links barred) rows → AreArcRows arcs (ArePrevious layout) rows
AreArcRows-previous layout barred arcs rows is are = record {
  count = are.count;
  each = λ y low.
      AreAll-same arc_number (λ x. IsTrue (turn_in layout.links barred x y)) (λ x. IsTrue (permits layout x y)) (get_or rows y.0 [])
      (λ x h. sym (permits-is layout barred x y is) ∙ h) (λ x h. permits-is layout barred x y is ∙ h) (are.each y low);
}

-- ---- whether a turn is permitted

pub has_arc-is : (Has : Arc → Bool) (row : List Arc) (y : Arc) → AreArcs (λ a. IsTrue (Has a)) row → has_arc row y ≡ Has y
has_arc-is Has row y all =
    same_answer (has_arc row y) (Has y) (λ h. (all.each y).0 (Contains-test arc_number same_arc row y h)) (λ h. test-Contains arc_number row y ((all.each y).1 h))

none-is : {A : Type 0} (o : Option A) → is_some o ≡ false → o ≡ None
none-is (Some x) h = absurd (cc h)
none-is None h = refl

pub permits-gone : (layout : Layout) (x y : Arc) → arc_exists layout x ≡ false → permits layout x y ≡ false
unfolding permits
permits-gone layout x y gone =
    let nowhere : head layout x ≡ None = none-is (head layout x) (ap is_some (head-is layout x) ∙ arc_exists-head layout x ∙ gone) in
    rw nowhere refl
