-- What walks pass: no dead end and no node that is unused. Idle turns stop none.
use Rattle.std.proofs.Common.{◌≡◌, ◌+◌, ◌/◌, ◌&&◌, ◌||◌, Bool, not, ℕ, List, [], ◌∷◌, Option, Some, None, Contains, IsTrue, ◌⊎◌, inl, inr, refl, sym, ◌∙◌, ap, subst, arith}
use Rattle.std.specs.Prelude.{◌↔◌, ◌==◌, is_some, filter}
use Rattle.std.proofs.lemmas.Bool.{both_ways, and_parts, cases_Bool, eqb-true, false_from_ne_true}
use Rattle.taxi_base.specs.declared.numbers.Node.{Node}
use Rattle.taxi_base.specs.declared.numbers.Arc.{Arc}
use Rattle.taxi_base.specs.declared.numbers.Class.{Class}
use Rattle.taxi_base.specs.declared.rows.Kind.{Kind}
use Rattle.taxi_base.specs.declared.rows.Kind.TheVariants.{Runway, Junction, Stand}
use Rattle.taxi_base.specs.declared.rows.Step.{Step}
use Rattle.taxi_base.specs.declared.answers.Request.TheVariants.{Arrival, Departure}
use Rattle.taxi_base.specs.Airport.{Airport, Layout, layout_of, segment_of, arc_exists, ends, head, tail, meet, permits, is_forbidden, seconds}
use Rattle.taxi_base.specs.Walks.{Conditions, IsFeasibleStep, IsFeasibleWalk, LeavesNode, LeavesNodeWithin, ReachesNode, ReachesNodeWithin, AtFirst, AtLast, Meets}
use Rattle.taxi_base.proofs.ListLaws.{Contains-cons_cases}
use Rattle.class_ways.specs.declared.course.Course.TheVariants.{Onward}
use Rattle.class_ways.specs.Ways.{is_of, is_open}
use Rattle.class_ways.specs.Courses.{is_start, IsComing}
use Rattle.class_ways.proofs.WayLaws.{open-class, start-from, met-comes}
use Rattle.class_ways.proofs.WalkLaws.{step-open}
use Rattle.airport_lint.specs.Advice.{is_shared, SomeComes, IsDeadEnd, IsSo, without_idle}
use Rattle.airport_lint.specs.declared.advice.Advice.TheVariants.{NodeUnused, DeadEnd}
use Rattle.airport_lint.proofs.BarLaws.{shared-by, first-at, last-at, one-kind}

-- ---- steps of a walk

first-feasible : (c : Conditions) (s : Step) (steps : List Step) → IsFeasibleWalk c (s ∷ steps) → IsFeasibleStep c s
first-feasible c s [] walk = walk
first-feasible c s (t ∷ steps) walk = walk.0

open-times : (airport : Airport) (class : Class) (arc : Arc) → IsTrue (is_open airport class arc) → IsTrue (is_some (seconds airport class (segment_of arc)))
unfolding is_open
open-times airport class arc goes = (and_parts (arc_exists (layout_of airport) arc) (is_some (seconds airport class (segment_of arc))) goes).1

-- a class that makes two steps has seconds on both their segments
shared-steps : (c : Conditions) (s t : Step) → IsFeasibleStep c s → IsFeasibleStep c t → IsTrue (is_shared c.airport (segment_of s.arc) (segment_of t.arc))
shared-steps c s t one other =
    let here = step-open c s one in
    shared-by c.airport c.class (segment_of s.arc) (segment_of t.arc) (open-class c.airport c.class s.arc here) (open-times c.airport c.class s.arc here)
    (open-times c.airport c.class t.arc (step-open c t other))

same-node : (a b : Node) → ◌≡◌ {A = Option Node} (Some a) (Some b) → a ≡ b
same-node a b e = cc

-- ---- dead ends

module _ (c : Conditions) (to : Node) (ends_else : IsTrue (is_of Junction c.airport to) → ⊥) (step : Step) (dead : IsDeadEnd c.airport step.arc) where
  dead-last : (s : Step) → s ≡ step → ReachesNode (layout_of c.airport) to s → ⊥
  dead-last s is last =
      let node : dead.node ≡ to = same-node dead.node to (sym dead.comes_to ∙ ap (λ (x : Step). head (layout_of c.airport) x.arc) (sym is) ∙ last) in
      ends_else (subst (λ n. IsTrue (is_of Junction c.airport n)) node dead.junction)

  dead-before : (s t : Step) → s ≡ step → IsFeasibleStep c s → IsFeasibleStep c t → IsTrue (permits (layout_of c.airport) s.arc t.arc) → ⊥
  dead-before s t is one other turn =
      both_ways _ (dead.stops t.arc (subst (λ x. IsTrue (permits (layout_of c.airport) x.arc t.arc)) is turn))
      (subst (λ x. IsTrue (is_shared c.airport (segment_of x.arc) (segment_of t.arc))) is (shared-steps c s t one other))

  pub dead-passed : (steps : List Step) → IsFeasibleWalk c steps → AtLast (ReachesNode (layout_of c.airport) to) steps → Contains steps step → ⊥
  dead-passed [] walk last on = absurd walk
  dead-passed (s ∷ []) walk last on = elim (Contains-cons_cases s step [] on) [ inl is ↦ dead-last s is last | inr none ↦ absurd (omega (arith, none.1)) ]
  dead-passed (s ∷ t ∷ steps) walk last on = elim (Contains-cons_cases s step (t ∷ steps) on) [
    | inl is ↦ dead-before s t is walk.0 (first-feasible c t steps walk.2) walk.1.permitted
    | inr rest ↦ dead-passed (t ∷ steps) walk.2 last rest
  ]

-- ---- unused nodes

meet-head : (o : Option Node) (node : Node) → IsTrue (meet o (Some node)) → o ≡ Some node
meet-head None node h = absurd (cc h)
meet-head (Some a) node h = (let e : a.0 ≡ node.0 = eqb-true _ _ h in ap (λ (n : ℕ). Some (record { 0 = n })) e)

-- a turn goes on from where the arc before it ends
turn-head : (layout : Layout) (x y : Arc) (node : Node) → IsTrue (permits layout x y) → tail layout y ≡ Some node → head layout x ≡ Some node
unfolding permits
turn-head layout x y node turn at = meet-head (head layout x) node (subst (λ o. IsTrue (meet (head layout x) o)) at (and_parts _ _ (and_parts _ _ turn).0).0)

module _ (c : Conditions) (kind : Kind) (node : Node) (step : Step) (none : SomeComes Onward kind c.airport node → ⊥) where
  abbrev AreBefore : Step → List Arc → Type 0
  AreBefore s before = IsComing Onward c.airport c.class (is_start Onward kind c.airport c.class) s.arc before

  unmet : (s : Step) (before : List Arc) → AreBefore s before → head (layout_of c.airport) s.arc ≡ Some node → ⊥
  unmet s before coming at = none (c.class, met-comes kind c.airport c.class Onward node s.arc at (before, coming))

  goes-on : (s t : Step) (steps : List Step) (before : List Arc) → AreBefore s before → IsFeasibleWalk c (s ∷ t ∷ steps) → AreBefore t (s.arc ∷ before)
  goes-on s t steps before coming walk = ((walk.1.permitted, step-open c t (first-feasible c t steps walk.2)), coming)

  unused-reached : (steps : List Step) (s : Step) (before : List Arc) → AreBefore s before → IsFeasibleWalk c (s ∷ steps) → Contains (s ∷ steps) step → ReachesNode (layout_of c.airport) node step → ⊥
  unused-reached [] s before coming walk on reaches = elim (Contains-cons_cases s step [] on) [
    | inl is ↦ unmet s before coming (ap (λ (x : Step). head (layout_of c.airport) x.arc) is ∙ reaches)
    | inr past ↦ absurd (omega (arith, past.1))
  ]
  unused-reached (t ∷ steps) s before coming walk on reaches = elim (Contains-cons_cases s step (t ∷ steps) on) [
    | inl is ↦ unmet s before coming (ap (λ (x : Step). head (layout_of c.airport) x.arc) is ∙ reaches)
    | inr rest ↦ unused-reached steps t (s.arc ∷ before) (goes-on s t steps before coming walk) walk.2 rest reaches
  ]

  -- of the steps after the first
  unused-left : (steps : List Step) (s : Step) (before : List Arc) → AreBefore s before → IsFeasibleWalk c (s ∷ steps) → Contains steps step → LeavesNode (layout_of c.airport) node step → ⊥
  unused-left [] s before coming walk on leaves = absurd (omega (arith, on.1))
  unused-left (t ∷ steps) s before coming walk on leaves = elim (Contains-cons_cases t step steps on) [
    | inl is ↦ unmet s before coming (turn-head (layout_of c.airport) s.arc t.arc node walk.1.permitted (ap (λ (x : Step). tail (layout_of c.airport) x.arc) is ∙ leaves))
    | inr rest ↦ unused-left steps t (s.arc ∷ before) (goes-on s t steps before coming walk) walk.2 rest leaves
  ]

  -- the first step begins elsewhere
  pub unused-passed : (from : Node) (steps : List Step) → IsTrue (is_of kind c.airport from) → (IsTrue (is_of kind c.airport node) → ⊥) → IsFeasibleWalk c steps
      → AtFirst (LeavesNode (layout_of c.airport) from) steps → Contains steps step → LeavesNode (layout_of c.airport) node step ⊎ ReachesNode (layout_of c.airport) node step → ⊥
  unused-passed from [] is_from other walk first on at = absurd walk
  unused-passed from (s ∷ steps) is_from other walk first on at = elim at [
    | inr reaches ↦ unused-reached steps s [] begins walk on reaches
    | inl leaves ↦ elim (Contains-cons_cases s step steps on) [
      | inl is ↦ other (subst (λ n. IsTrue (is_of kind c.airport n)) (same-node from node (sym first ∙ ap (λ (x : Step). tail (layout_of c.airport) x.arc) is ∙ leaves)) is_from)
      | inr rest ↦ unused-left steps s [] begins walk rest leaves
    ]
  ]
    where
      begins : AreBefore s []
      begins = start-from Onward kind c.airport c.class s.arc from (step-open c s (first-feasible c s steps walk)) first is_from

-- ---- what arrivals and departures pass

pub arrival-no_dead_end : (c : Conditions) (from to : Node) (time hold : ℕ) (steps : List Step) (step : Step) → IsTrue (is_of Stand c.airport to)
    → Meets c (Arrival from to time hold) steps → Contains steps step → IsSo c.airport (DeadEnd step.arc) → ⊥
arrival-no_dead_end c from to time hold steps step stand meets on dead =
    dead-passed c to (λ junction. one-kind c.airport to Junction Stand (λ e. cc) junction stand) step dead steps meets.walk meets.ends on

pub departure-no_dead_end : (c : Conditions) (from to : Node) (time queue : ℕ) (steps : List Step) (step : Step) → IsTrue (is_of Runway c.airport to)
    → Meets c (Departure from to time queue) steps → Contains steps step → IsSo c.airport (DeadEnd step.arc) → ⊥
departure-no_dead_end c from to time queue steps step runway meets on dead =
    dead-passed c to (λ junction. one-kind c.airport to Junction Runway (λ e. cc) junction runway) step dead steps meets.walk
    (last-at (ReachesNodeWithin (layout_of c.airport) to _ time) (ReachesNode (layout_of c.airport) to) steps (λ s within. within.reaches) meets.ends) on

pub arrival-no_unused : (c : Conditions) (from to node : Node) (time hold : ℕ) (steps : List Step) (step : Step) → IsTrue (is_of Runway c.airport from)
    → Meets c (Arrival from to time hold) steps → Contains steps step → LeavesNode (layout_of c.airport) node step ⊎ ReachesNode (layout_of c.airport) node step → IsSo c.airport (NodeUnused node) → ⊥
arrival-no_unused c from to node time hold steps step runway meets on at unused =
    unused-passed c Runway node step unused.1 from steps runway (λ is. one-kind c.airport node Junction Runway (λ e. cc) unused.0 is) meets.walk
    (first-at (LeavesNodeWithin (layout_of c.airport) from time (time + hold)) (LeavesNode (layout_of c.airport) from) steps (λ s within. within.leaves) meets.begins) on at

pub departure-no_unused : (c : Conditions) (from to node : Node) (time queue : ℕ) (steps : List Step) (step : Step) → IsTrue (is_of Stand c.airport from)
    → Meets c (Departure from to time queue) steps → Contains steps step → LeavesNode (layout_of c.airport) node step ⊎ ReachesNode (layout_of c.airport) node step → IsSo c.airport (NodeUnused node) → ⊥
departure-no_unused c from to node time queue steps step stand meets on at unused =
    unused-passed c Stand node step unused.2 from steps stand (λ is. one-kind c.airport node Junction Stand (λ e. cc) unused.0 is) meets.walk meets.begins on at

-- ---- idle turns

-- a pair that is kept is forbidden as before
pub kept-forbidden : (keep : Arc × Arc → Bool) (x y : Arc) (pairs : List (Arc × Arc)) → IsTrue (keep (x, y)) → is_forbidden (filter keep pairs) x y ≡ is_forbidden pairs x y
kept-forbidden keep x y [] kept = refl
kept-forbidden keep x y (p ∷ pairs) kept = elim (cases_Bool (keep p)) [
  | inl stays ↦ rw stays (ap (λ b. (p.0.0 == x.0 && p.1.0 == y.0) || b) (kept-forbidden keep x y pairs kept))
  | inr goes ↦ rw (goes, false_from_ne_true (p.0.0 == x.0 && p.1.0 == y.0) (λ same. both_ways _ goes (subst (λ q. IsTrue (keep q)) (sym (pair-same same)) kept))) (kept-forbidden keep x y pairs kept)
]
  where
    pair-same : IsTrue (p.0.0 == x.0 && p.1.0 == y.0) → p ≡ (x, y)
    pair-same same =
        let parts = and_parts (p.0.0 == x.0) (p.1.0 == y.0) same in
        let one : p.0.0 ≡ x.0 = eqb-true _ _ parts.0 in
        let other : p.1.0 ≡ y.0 = eqb-true _ _ parts.1 in
        λ i. (record { 0 = one i }, record { 0 = other i })

turn-same : (airport : Airport) (x y : Arc) → IsTrue (is_shared airport (segment_of x) (segment_of y)) → permits (layout_of airport) x y ≡ permits (layout_of (without_idle airport)) x y
unfolding permits ends
turn-same airport x y shared =
    ap (λ b. (meet (head (layout_of airport) x) (tail (layout_of airport) y) && not (x.0 / 2 == y.0 / 2)) && not b)
    (sym (kept-forbidden (λ turn. is_shared airport (segment_of turn.0) (segment_of turn.1)) x y airport.forbidden shared))

module _ (c : Conditions) where
  abbrev without : Conditions
  without = record c { airport = without_idle c.airport }

  step-without : (s : Step) → IsFeasibleStep c s → IsFeasibleStep without s
  unfolding ends
  step-without s feasible = record { on_arc = feasible.on_arc; lasts = feasible.lasts; in_time = feasible.in_time; free = feasible.free }

  step-with : (s : Step) → IsFeasibleStep without s → IsFeasibleStep c s
  unfolding ends
  step-with s feasible = record { on_arc = feasible.on_arc; lasts = feasible.lasts; in_time = feasible.in_time; free = feasible.free }

  walk-without : (steps : List Step) → IsFeasibleWalk c steps → IsFeasibleWalk without steps
  walk-without [] walk = walk
  walk-without (s ∷ []) walk = step-without s walk
  walk-without (s ∷ t ∷ steps) walk = (
    step-without s walk.0,
    record { at_once = walk.1.at_once; permitted = subst IsTrue (turn-same c.airport s.arc t.arc (shared-steps c s t walk.0 (first-feasible c t steps walk.2))) walk.1.permitted },
    walk-without (t ∷ steps) walk.2,
  )

  walk-with : (steps : List Step) → IsFeasibleWalk without steps → IsFeasibleWalk c steps
  walk-with [] walk = walk
  walk-with (s ∷ []) walk = step-with s walk
  walk-with (s ∷ t ∷ steps) walk =
      let rest = walk-with (t ∷ steps) walk.2 in
      let here = step-with s walk.0 in (
        here,
        record { at_once = walk.1.at_once; permitted = subst IsTrue (sym (turn-same c.airport s.arc t.arc (shared-steps c s t here (first-feasible c t steps rest)))) walk.1.permitted },
        rest,
      )

  pub idle-same : (steps : List Step) → IsFeasibleWalk c steps ↔ IsFeasibleWalk without steps
  idle-same steps = (walk-without steps, walk-with steps)
