-- The starts, finishes and targets of requests, at the cells that stand for places.
use Rattle.std.proofs.Common.{◌≡◌, ℕ, ◌≤◌, Bool, true, false, eqb, cond, List, IsTrue, Option, Some, None, refl, ap, arith, ◌↔◌}
use Rattle.std.proofs.lemmas.Bool.{and_parts, and_from, eq-eqb, eqb-true, cond-true}
use Rattle.taxi_base.specs.declared.numbers.Node.{Node}
use Rattle.taxi_base.specs.declared.numbers.Arc.{Arc}
use Rattle.taxi_base.specs.declared.rows.Step.{Step}
use Rattle.taxi_base.specs.Airport.{Layout, layout_of, tail, head, meet}
use Rattle.taxi_base.specs.Walks.{Conditions, LeavesNodeWithin, ReachesNodeWithin, Resumes}
use Rattle.label_core.specs.Walks.{Network, Start}
use Rattle.label_core.specs.BackwardWalks.{Finish}
use Rattle.walk_labels.specs.Places.{Place, IsPlace}
use Rattle.taxi_base.proofs.OneOfLaws.{any-OneOf, OneOf-weaker, OneOf-gives}
use Rattle.walk_labels.specs.Requests.Beginning.{at_node, resuming}
use Rattle.taxi_base.specs.Choices.{OneOf, ReachesOneOfWithin}
use Rattle.walk_labels.specs.Requests.{step_at, Beginning, BeginsBy, leads_to_one_of, starts_by, AreStarts, AreFinishes, AreTargets, AreSources, starts_at_node, starts_resuming, finishes_at, targets_at, sources_at_node}

pub meet-same : (o : Option Node) (node : Node) → IsTrue (meet o (Some node)) ↔ (o ≡ Some node)
meet-same None node = (λ h. absurd (cc h), λ e. absurd cc)
meet-same (Some a) node = (
  λ h. (let e : a.0 ≡ node.0 = eqb-true _ _ h in ap (λ (n : ℕ). Some (record { 0 = n })) e),
  λ e. (let same : a ≡ node = cc in eq-eqb _ _ (ap (λ (n : Node). n.0) same)),
)

-- an arc leads to one of the nodes just where its test says so
pub leads-OneOf : (layout : Layout) (nodes : List Node) (arc : Arc) → IsTrue (leads_to_one_of layout nodes arc) ↔ OneOf (λ node. head layout arc ≡ Some node) nodes
leads-OneOf layout nodes arc = any-OneOf (λ node. meet (head layout arc) (Some node)) (λ node. head layout arc ≡ Some node) (meet-same (head layout arc)) nodes

-- what a choice gives where it gives something
pub if_some : {A : Type 0} (b : Bool) (x y : A) → ◌≡◌ {A = Option A} (cond b (Some x) None) (Some y) → (b ≡ true) × (x ≡ y)
if_some true x y e = (refl, cc)
if_some false x y e = absurd cc

pub if_true : {A : Type 0} (b : Bool) (x : A) → b ≡ true → ◌≡◌ {A = Option A} (cond b (Some x) None) (Some x)
if_true b x h = cond-true b (Some x) None h

module _ {C : Type 0} (c : Conditions) (net : Network C) (place : C → Place) (inside : C → Bool) (is_inside : (x : C) → IsTrue (inside x) ↔ IsPlace c (place x)) where
  pub starts_at_node-are : (node : Node) (earliest latest : ℕ)
      → AreStarts c net place (LeavesNodeWithin (layout_of c.airport) node earliest latest) (starts_at_node (layout_of c.airport) inside place node earliest latest)
  starts_at_node-are node earliest latest = record {
    inside = λ x s e. (is_inside x).0 (and_parts _ _ (if_some _ _ s e).0).0;
    exact = λ s is step. (
      λ h. record {
        start = record { earliest = earliest; latest = latest; exit_from = 0 };
        here = if_true _ _ (and_from _ _ ((is_inside s.cell).1 is) ((meet-same (tail (layout_of c.airport) (place s.cell).arc) node).1 h.leaves));
        met = record { not_early = h.not_before; not_late = h.not_after; stays = omega arith };
      },
      λ h. (
          let given = if_some _ _ h.start h.here in
          let same : record { earliest = earliest; latest = latest; exit_from = 0 } ≡ h.start = given.1 in
          record {
            leaves = (meet-same (tail (layout_of c.airport) (place s.cell).arc) node).0 (and_parts _ _ given.0).1;
            not_before = omega (arith, h.met.not_early, ap (λ (t : Start). t.earliest) same);
            not_after = omega (arith, h.met.not_late, ap (λ (t : Start). t.latest) same);
          }),
    );
  }

  pub starts_resuming-are : (begun : Step) (exit_from : ℕ) → AreStarts c net place (Resumes begun exit_from) (starts_resuming inside place begun exit_from)
  starts_resuming-are begun exit_from = record {
    inside = λ x s e. (is_inside x).0 (and_parts _ _ (if_some _ _ s e).0).0;
    exact = λ s is step. (
      λ h. record {
        start = record { earliest = begun.enter; latest = begun.enter; exit_from = exit_from };
        here = if_true _ _ (and_from _ _ ((is_inside s.cell).1 is) (eq-eqb _ _ (ap (λ (a : Arc). a.0) h.arc)));
        met = record { not_early = omega (arith, h.enter); not_late = omega (arith, h.enter); stays = h.not_before };
      },
      λ h. (
          let given = if_some _ _ h.start h.here in
          let same : record { earliest = begun.enter; latest = begun.enter; exit_from = exit_from } ≡ h.start = given.1 in
          let number : (place s.cell).arc.0 ≡ begun.arc.0 = eqb-true (place s.cell).arc.0 begun.arc.0 (and_parts (inside s.cell) (eqb (place s.cell).arc.0 begun.arc.0) given.0).1 in
          record {
            arc = λ i. record { 0 = number i };
            enter = omega (arith, h.met.not_early, h.met.not_late, ap (λ (t : Start). t.earliest) same, ap (λ (t : Start). t.latest) same);
            not_before = omega (arith, h.met.stays, ap (λ (t : Start). t.exit_from) same);
          }),
    );
  }

  pub starts_by-are : (b : Beginning) → AreStarts c net place (BeginsBy (layout_of c.airport) b) (starts_by (layout_of c.airport) inside place b)
  starts_by-are (at_node node earliest latest) = starts_at_node-are node earliest latest
  starts_by-are (resuming begun exit_from) = starts_resuming-are begun exit_from

  pub finishes_at-are : (nodes : List Node) (earliest latest : ℕ)
      → AreFinishes c net place (ReachesOneOfWithin (layout_of c.airport) nodes earliest latest) (finishes_at (layout_of c.airport) inside place nodes earliest latest)
  finishes_at-are nodes earliest latest = record {
    inside = λ x f e. (is_inside x).0 (and_parts _ _ (if_some _ _ f e).0).0;
    exact = λ s is step. (
      λ h. record {
        finish = record { earliest_out = earliest; latest_out = latest };
        here = if_true _ _ (and_from _ _ ((is_inside s.cell).1 is) ((leads-OneOf (layout_of c.airport) nodes (place s.cell).arc).1
            (OneOf-weaker (λ node. ReachesNodeWithin (layout_of c.airport) node earliest latest (step_at place s)) (λ node. head (layout_of c.airport) (place s.cell).arc ≡ Some node) (λ node within. within.reaches) nodes h)));
        not_early = OneOf-gives (λ node. ReachesNodeWithin (layout_of c.airport) node earliest latest (step_at place s)) (earliest ≤ s.leave) (λ node within. within.not_before) nodes h;
        not_late = OneOf-gives (λ node. ReachesNodeWithin (layout_of c.airport) node earliest latest (step_at place s)) (s.leave ≤ latest) (λ node within. within.not_after) nodes h;
      },
      λ h. (
          let given = if_some _ _ h.finish h.here in
          let same : record { earliest_out = earliest; latest_out = latest } ≡ h.finish = given.1 in
          let not_before : earliest ≤ s.leave = omega (arith, h.not_early, ap (λ (t : Finish). t.earliest_out) same) in
          let not_after : s.leave ≤ latest = omega (arith, h.not_late, ap (λ (t : Finish). t.latest_out) same) in
          OneOf-weaker (λ node. head (layout_of c.airport) (place s.cell).arc ≡ Some node) (λ node. ReachesNodeWithin (layout_of c.airport) node earliest latest (step_at place s))
          (λ node reaches. record { reaches = reaches; not_before = not_before; not_after = not_after }) nodes
          ((leads-OneOf (layout_of c.airport) nodes (place s.cell).arc).0 (and_parts _ _ given.0).1)),
    );
  }

pub targets_at-are : {C : Type 0} (c : Conditions) (place : C → Place) (nodes : List Node) → AreTargets c place nodes (targets_at (layout_of c.airport) place nodes)
targets_at-are c place nodes x is = leads-OneOf (layout_of c.airport) nodes (place x).arc

pub sources_at_node-are : {C : Type 0} (c : Conditions) (place : C → Place) (node : Node) → AreSources c place node (sources_at_node (layout_of c.airport) place node)
sources_at_node-are c place node x is = meet-same (tail (layout_of c.airport) (place x).arc) node
