-- Walks of arrivals by the steps that stay and by how they begin after them.
use Rattle.std.proofs.Common.{◌≡◌, ◌↔◌, ◌∙◌, ℕ, ◌+◌, ◌-◌, ◌<◌, max, true, false, ◌&&◌, eqb, List, [], ◌∷◌, ◌++◌, length, get_or, drop, Option, Some, None, IsTrue, refl, sym, ap, subst}
use Rattle.std.specs.Prelude.{MatchOption}
use Rattle.std.specs.Option.{option_map_or}
use Rattle.std.specs.Bool.{Decides}
use Rattle.std.proofs.lemmas.Bool.{and_parts, and_from, eqb-true, eq-eqb, le-leb, leb-true, both_ways, false≢true}
use Rattle.std.proofs.Math.Seq.{drop-append_seam}
use Rattle.taxi_base.specs.declared.numbers.Arc.{Arc}
use Rattle.taxi_base.specs.declared.numbers.Node.{Node}
use Rattle.taxi_base.specs.declared.rows.Step.{Step}
use Rattle.taxi_base.specs.declared.answers.Request.TheVariants.{Arrival}
use Rattle.taxi_base.specs.Airport.{Layout, layout_of, tail, head}
use Rattle.taxi_base.specs.Walks.{Conditions, AtFirst, AtLast, IsFeasibleWalk, ReachesNode, LeavesNodeWithin, Resumes, IsRoute}
use Rattle.taxi_base.specs.State.{step_begun, steps_done, IsResumed}
use Rattle.walk_labels.specs.Requests.{Beginning, BeginsBy}
use Rattle.walk_labels.specs.Requests.Beginning.{at_node, resuming}
use Rattle.replies.specs.Sought.{UnderWay, search_of, onward}
use Rattle.taxi_base.proofs.WalkLaws.{at-last}
use Rattle.check_walks.proofs.EndLaws.{at-first, within-is}
use Rattle.check_walks.specs.Course.{IsWalkIn, beginning_for, done_for, GoesBy, LeadsOn, is_within, resumes}

-- ---- how one step begins

pub resumes-is : (begun : Step) (exit_from : ℕ) (step : Step) → IsTrue (resumes begun exit_from step) ↔ Resumes begun exit_from step
resumes-is begun exit_from step = (
  λ e. (let parts = and_parts _ _ e in
      let rest = and_parts _ _ parts.1 in
      let same = eqb-true _ _ parts.0 in
      record {
        arc = λ i. record { 0 = same i };
        enter = eqb-true _ _ rest.0;
        not_before = leb-true _ _ rest.1;
      }),
  λ r. and_from _ _ (eq-eqb _ _ (ap (λ (arc : Arc). arc.0) r.arc)) (and_from _ _ (eq-eqb _ _ r.enter) (le-leb _ _ r.not_before)),
)

module _ (layout : Layout) (node at : Node) (earliest latest : ℕ) (step : Step) (there : ◌≡◌ {A = Option Node} (Some at) (tail layout step.arc)) where
  pub node-begins : eqb at.0 node.0 ≡ true → IsTrue (is_within step.enter earliest latest) ↔ LeavesNodeWithin layout node earliest latest step
  node-begins same =
      let n = eqb-true at.0 node.0 same in
      let leaves : tail layout step.arc ≡ Some node = sym there ∙ (λ i. Some (record { 0 = n i })) in (
        λ e. let in_time = (within-is step.enter earliest latest).0 e in record { leaves = leaves; not_before = in_time.0; not_after = in_time.1 },
        λ b. (within-is step.enter earliest latest).1 (b.not_before, b.not_after),
      )

  pub node-elsewhere : eqb at.0 node.0 ≡ false → IsTrue false ↔ LeavesNodeWithin layout node earliest latest step
  node-elsewhere other = (λ e. absurd (false≢true e), λ b. absurd (both_ways _ other (eq-eqb at.0 node.0 (same-node (there ∙ b.leaves))))) where
    same-node : {x y : Node} → ◌≡◌ {A = Option Node} (Some x) (Some y) → x.0 ≡ y.0
    same-node e = cc

-- a first step that begins so, and a last one that leads to the node or does not
pub leads-is : (layout : Layout) (begin : Beginning) (to at : Node) (rest : List Step) (d : Step) → 0 < length rest → BeginsBy layout begin (get_or rest 0 d)
    → ◌≡◌ {A = Option Node} (Some at) (head layout (get_or rest (length rest - 1) d).arc) → IsTrue (eqb at.0 to.0) ↔ LeadsOn layout begin to rest
leads-is layout begin to at rest d some begins there = (
  λ e. (
    (at-first (BeginsBy layout begin) rest d some).1 begins,
    (at-last (ReachesNode layout to) rest d some).1 (let n = eqb-true at.0 to.0 e in sym there ∙ (λ i. Some (record { 0 = n i }))),
  ),
  λ leads. eq-eqb at.0 to.0 (same-node (there ∙ (at-last (ReachesNode layout to) rest d some).0 leads.1)),
)
  where
    same-node : {x y : Node} → ◌≡◌ {A = Option Node} (Some x) (Some y) → x.0 ≡ y.0
    same-node e = cc

-- ---- the walks of an arrival

module _ (c : Conditions) (from to : Node) (asked hold : ℕ) where
  pub arrival-search : (way : Option UnderWay) → search_of (Arrival from to asked hold) [] way ≡ Some (onward (beginning_for from asked hold way) (to ∷ []))
  arrival-search None = refl
  arrival-search (Some way) = refl

  abbrev Goes : Option UnderWay → List Step → Type 0
  Goes way steps = GoesBy (layout_of c.airport) (done_for way) (beginning_for from asked hold way) to steps

  of-route : (Begins : Step → Type 0) (steps : List Step) → IsFeasibleWalk c steps → (rest : List Step) → steps ≡ rest → AtFirst Begins rest → AtLast (ReachesNode (layout_of c.airport) to) rest
      → IsRoute c Begins (ReachesNode (layout_of c.airport) to) steps
  of-route Begins steps walk rest is begins ends = record {
    walk = walk;
    begins = subst (AtFirst Begins) (sym is) begins;
    ends = subst (AtLast (ReachesNode (layout_of c.airport) to)) (sym is) ends;
  }

  pub goes-walk : (way : Option UnderWay) (steps : List Step) → IsFeasibleWalk c steps → Goes way steps → IsWalkIn c (Arrival from to asked hold) way steps
  goes-walk None steps walk goes = of-route (LeavesNodeWithin (layout_of c.airport) from asked (asked + hold)) steps walk goes.0 goes.1 goes.2.0 goes.2.1
  goes-walk (Some way) steps walk goes = go (step_begun way.time way.steps) goes where
    go : (o : Option Step)
        → GoesBy (layout_of c.airport) (option_map_or (λ begun. steps_done way.time way.steps) o []) (option_map_or (λ begun. resuming begun way.time) o (at_node from (max asked way.time) (asked + hold))) to steps
        → MatchOption o (IsRoute c (LeavesNodeWithin (layout_of c.airport) from (max asked way.time) (asked + hold)) (ReachesNode (layout_of c.airport) to) steps)
        (λ begun. IsResumed c (steps_done way.time way.steps) begun way.time to steps)
    go None goes = of-route (LeavesNodeWithin (layout_of c.airport) from (max asked way.time) (asked + hold)) steps walk goes.0 goes.1 goes.2.0 goes.2.1
    go (Some begun) goes = record { rest = goes.0; joined = goes.1; walk = walk; begins = goes.2.0; ends = goes.2.1 }

  pub walk-goes : (way : Option UnderWay) (steps : List Step) → IsWalkIn c (Arrival from to asked hold) way steps → Goes way steps
  walk-goes None steps met = (steps, refl, (met.begins, met.ends))
  walk-goes (Some way) steps met = go (step_begun way.time way.steps) met where
    go : (o : Option Step)
        → MatchOption o (IsRoute c (LeavesNodeWithin (layout_of c.airport) from (max asked way.time) (asked + hold)) (ReachesNode (layout_of c.airport) to) steps)
        (λ begun. IsResumed c (steps_done way.time way.steps) begun way.time to steps)
        → GoesBy (layout_of c.airport) (option_map_or (λ begun. steps_done way.time way.steps) o []) (option_map_or (λ begun. resuming begun way.time) o (at_node from (max asked way.time) (asked + hold))) to steps
    go None met = (steps, refl, (met.begins, met.ends))
    go (Some begun) met = (met.rest, met.joined, (met.begins, met.ends))

  pub walk-feasible : (way : Option UnderWay) (steps : List Step) → IsWalkIn c (Arrival from to asked hold) way steps → IsFeasibleWalk c steps
  walk-feasible None steps met = met.walk
  walk-feasible (Some way) steps met = go (step_begun way.time way.steps) met where
    go : (o : Option Step)
        → MatchOption o (IsRoute c (LeavesNodeWithin (layout_of c.airport) from (max asked way.time) (asked + hold)) (ReachesNode (layout_of c.airport) to) steps)
        (λ begun. IsResumed c (steps_done way.time way.steps) begun way.time to steps) → IsFeasibleWalk c steps
    go None met = met.walk
    go (Some begun) met = met.walk

-- ---- steps that keep those that stay

pub goes-rest : (layout : Layout) (done : List Step) (begin : Beginning) (to : Node) (steps : List Step) → steps ≡ done ++ drop (length done) steps
    → LeadsOn layout begin to (drop (length done) steps) ↔ GoesBy layout done begin to steps
goes-rest layout done begin to steps kept = (
  λ leads. (drop (length done) steps, kept, leads),
  λ goes. subst (LeadsOn layout begin to) (sym (ap (λ xs. drop (length done) xs) goes.1 ∙ drop-append_seam done goes.0)) goes.2,
)

-- two steps are the same where their parts are
pub step-decides : (a b : Step) → Decides (eqb a.arc.0 b.arc.0 && (eqb a.enter b.enter && eqb a.leave b.leave)) (a ≡ b)
step-decides a b = (
  λ e. (let parts = and_parts _ _ e in
      let rest = and_parts _ _ parts.1 in
      let arcs = eqb-true _ _ parts.0 in
      let enters = eqb-true _ _ rest.0 in
      let leaves = eqb-true _ _ rest.1 in
      λ i. record { arc = record { 0 = arcs i }; enter = enters i; leave = leaves i }),
  λ e. and_from _ _ (eq-eqb _ _ (ap (λ (s : Step). s.arc.0) e)) (and_from _ _ (eq-eqb _ _ (ap (λ (s : Step). s.enter) e)) (eq-eqb _ _ (ap (λ (s : Step). s.leave) e))),
)
