-- How a walk begins and ends, by its first step and its last.
use Rattle.std.proofs.Common.{◌≡◌, ◌↔◌, ◌∙◌, ℕ, ◌-◌, ◌<◌, ◌≤◌, true, false, ◌&&◌, eqb, List, [], ◌∷◌, length, get_or, Option, Some, IsTrue, sym, arith}
use Rattle.std.proofs.lemmas.Bool.{and_parts, and_from, eqb-true, eq-eqb, le-leb, leb-true, both_ways, false≢true}
use Rattle.taxi_base.specs.declared.numbers.Node.{Node}
use Rattle.taxi_base.specs.declared.rows.Step.{Step}
use Rattle.taxi_base.specs.Airport.{Layout, tail, head}
use Rattle.taxi_base.specs.Walks.{AtFirst, LeavesNode, ReachesNodeWithin, end_of}
use Rattle.taxi_base.proofs.WalkLaws.{at-last, end_of-at}
use Rattle.check_walks.specs.Course.{is_within}
use Rattle.check_walks.specs.Steps.{Departs}

pub within-is : (second earliest latest : ℕ) → IsTrue (is_within second earliest latest) ↔ ((earliest ≤ second) × (second ≤ latest))
within-is second earliest latest = (
  λ e. let parts = and_parts _ _ e in (leb-true _ _ parts.0, leb-true _ _ parts.1),
  λ both. and_from _ _ (le-leb _ _ both.0) (le-leb _ _ both.1),
)

pub at-first : (P : Step → Type 0) (steps : List Step) (d : Step) → 0 < length steps → AtFirst P steps ↔ P (get_or steps 0 d)
at-first P [] d some = absurd (omega arith)
at-first P (s ∷ steps) d some = (λ h. h, λ h. h)

-- ---- a departure by its first step and its last

module _ (layout : Layout) (from to tail_node head_node : Node) (earliest latest : ℕ) (steps : List Step) (d : Step) (some : 0 < length steps)
    (tail_there : ◌≡◌ {A = Option Node} (Some tail_node) (tail layout (get_or steps 0 d).arc)) (head_there : ◌≡◌ {A = Option Node} (Some head_node) (head layout (get_or steps (length steps - 1) d).arc)) where
  abbrev Joined : Type 0
  Joined = (tail layout (get_or steps 0 d).arc ≡ Some from) × (head layout (get_or steps (length steps - 1) d).arc ≡ Some to)

  same-node : {x y : Node} → ◌≡◌ {A = Option Node} (Some x) (Some y) → x.0 ≡ y.0
  same-node e = cc

  joined-is : IsTrue (eqb tail_node.0 from.0 && eqb head_node.0 to.0) ↔ Joined
  joined-is = (
    λ e. (let parts = and_parts _ _ e in
        let m = eqb-true _ _ parts.0 in
        let n = eqb-true _ _ parts.1 in
        (sym tail_there ∙ (λ i. Some (record { 0 = m i })), sym head_there ∙ (λ i. Some (record { 0 = n i })))),
    λ j. and_from _ _ (eq-eqb _ _ (same-node (tail_there ∙ j.0))) (eq-eqb _ _ (same-node (head_there ∙ j.1))),
  )

  pub departs-is : (eqb tail_node.0 from.0 && eqb head_node.0 to.0) ≡ true → IsTrue (is_within (get_or steps (length steps - 1) d).leave earliest latest) ↔ Departs layout from to earliest latest steps
  departs-is joined =
      let nodes = joined-is.0 joined in
      let time = within-is (get_or steps (length steps - 1) d).leave earliest latest in (
        λ e. (
          (at-first (LeavesNode layout from) steps d some).1 nodes.0,
          (at-last (ReachesNodeWithin layout to earliest latest) steps d some).1 (record { reaches = nodes.1; not_before = (time.0 e).0; not_after = (time.0 e).1 }),
        ),
        λ departs. (let last = (at-last (ReachesNodeWithin layout to earliest latest) steps d some).0 departs.1 in time.1 (last.not_before, last.not_after)),
      )

  pub departs-not : (eqb tail_node.0 from.0 && eqb head_node.0 to.0) ≡ false → IsTrue false ↔ Departs layout from to earliest latest steps
  departs-not apart = (
    λ e. absurd (false≢true e),
    λ departs. absurd (both_ways _ apart (joined-is.1 (
      (at-first (LeavesNode layout from) steps d some).0 departs.0,
      ((at-last (ReachesNodeWithin layout to earliest latest) steps d some).0 departs.1).reaches,
    ))),
  )

-- the end of a walk
pub last-second : (steps : List Step) (d : Step) → 0 < length steps → (get_or steps (length steps - 1) d).leave ≡ end_of steps
last-second steps d some = sym (end_of-at steps d some)
