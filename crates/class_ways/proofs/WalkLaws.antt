-- Walks are on ways.
use Rattle.std.proofs.Common.{◌≡◌, ◌≤◌, ◌+◌, List, [], ◌∷◌, map, Option, Some, None, IsTrue, IsSomeAnd, refl}
use Rattle.std.specs.Prelude.{is_some}
use Rattle.std.proofs.lemmas.Bool.{and_from}
use Rattle.taxi_base.specs.declared.numbers.Node.{Node}
use Rattle.taxi_base.specs.declared.rows.Step.{Step}
use Rattle.taxi_base.specs.Airport.{Layout, layout_of, segment_of, arc_exists, seconds}
use Rattle.taxi_base.specs.Walks.{Conditions, IsFeasibleStep, IsFeasibleWalk, AtFirst, AtLast, LeavesNode, ReachesNode}
use Rattle.class_ways.specs.Ways.{is_open, IsWay, begin_of, end_of, Leads}

some-is : {A : Type 0} (P : A → Type 0) (o : Option A) → IsSomeAnd o P → IsTrue (is_some o)
some-is P (Some x) h = refl
some-is P None h = absurd h

pub step-open : (c : Conditions) (step : Step) → IsFeasibleStep c step → IsTrue (is_open c.airport c.class step.arc)
unfolding is_open
step-open c step feasible =
    and_from (arc_exists (layout_of c.airport) step.arc) (is_some (seconds c.airport c.class (segment_of step.arc))) feasible.on_arc
    (some-is (λ n. step.enter + n ≤ step.leave) (seconds c.airport c.class (segment_of step.arc)) feasible.lasts)

pub walk-way : (c : Conditions) (steps : List Step) → IsFeasibleWalk c steps → IsWay c.airport c.class (map (λ step. step.arc) steps)
walk-way c [] walk = walk
walk-way c (s ∷ []) walk = step-open c s walk
walk-way c (s ∷ t ∷ steps) walk = (step-open c s walk.0, walk.1.permitted, walk-way c (t ∷ steps) walk.2)

first-begins : (layout : Layout) (node : Node) (steps : List Step) → AtFirst (LeavesNode layout node) steps → begin_of layout (map (λ step. step.arc) steps) ≡ Some node
first-begins layout node [] at = absurd at
first-begins layout node (s ∷ steps) at = at

last-ends : (layout : Layout) (node : Node) (steps : List Step) → AtLast (ReachesNode layout node) steps → end_of layout (map (λ step. step.arc) steps) ≡ Some node
last-ends layout node [] at = absurd at
last-ends layout node (s ∷ []) at = at
last-ends layout node (s ∷ t ∷ steps) at = last-ends layout node (t ∷ steps) at

-- a walk from one node to another
pub walk-leads : (c : Conditions) (from to : Node) (steps : List Step) → IsFeasibleWalk c steps → AtFirst (LeavesNode (layout_of c.airport) from) steps
    → AtLast (ReachesNode (layout_of c.airport) to) steps → Leads c.airport c.class from to
walk-leads c from to steps walk first last = record {
  arcs = map (λ step. step.arc) steps;
  way = walk-way c steps walk;
  begins = first-begins (layout_of c.airport) from steps first;
  ends = last-ends (layout_of c.airport) to steps last;
}
