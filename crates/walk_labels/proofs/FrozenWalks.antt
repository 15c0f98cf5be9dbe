-- A flight under way: the walks that keep its steps done are these steps before the walks that go on with the step begun.
use Rattle.std.proofs.Common.{◌≡◌, ℕ, suc, ◌+◌, ◌-◌, ◌<◌, ◌≤◌, List, [], ◌∷◌, ◌++◌, take, inl, inr, leb, Option, Some, slice_get, cond, sym, ◌∙◌, ap, subst, arith}
use Rattle.std.proofs.lemmas.Bool.{cases_lt, cond-false, lt-leb}
use Rattle.std.proofs.lemmas.List.Sums.{sum_by-cons}
use Rattle.taxi_base.specs.declared.numbers.Node.{Node}
use Rattle.taxi_base.specs.declared.rows.Step.{Step}
use Rattle.taxi_base.specs.Airport.{layout_of}
use Rattle.taxi_base.specs.Walks.{Conditions, IsFeasibleStep, IsFeasibleWalk, IsRoute, AtFirst, AtLast, ReachesNode, Resumes, end_of}
use Rattle.taxi_base.specs.State.{entered_count, step_begun, steps_done, IsResumed}
use Rattle.taxi_base.proofs.WalkLaws.{IsFeasibleStep-takes}
use Rattle.taxi_base.proofs.AgainLaws.{IsFeasibleWalk-back, end_of-back, begun-parts, count-entered}
use Rattle.walk_labels.specs.Places.{AreFit}

-- ---- the step begun

count_out : (time : ℕ) (s : Step) (steps : List Step) → time < s.enter → entered_count time (s ∷ steps) ≡ 0 + entered_count time steps
count_out time s steps past =
    sum_by-cons (λ (x : Step). cond (leb x.enter time) 1 0) s steps ∙ ap (λ (n : ℕ). n + entered_count time steps) (cond-false (leb s.enter time) 1 0 (lt-leb s.enter time past))

-- no step of a walk that begins later was entered
none_entered : (c : Conditions) → AreFit c → (time : ℕ) (s : Step) (rest : List Step) → IsFeasibleWalk c (s ∷ rest) → time < s.enter → entered_count time (s ∷ rest) ≡ 0
none_entered c fit time s [] walk past = count_out time s [] past
none_entered c fit time s (t ∷ rest) walk past =
    let none : entered_count time (t ∷ rest) ≡ 0 = none_entered c fit time t rest walk.2 (omega (arith, IsFeasibleStep-takes c fit.timed s walk.0, walk.1.at_once)) in
    count_out time s (t ∷ rest) past ∙ ap (λ (n : ℕ). 0 + n) none

-- the step begun, where so many were entered
begun_of : (n : ℕ) → List Step → Option Step
begun_of n steps = slice_get (take n steps) (n - 1)

begun_none : (steps : List Step) (s : Step) → begun_of 0 steps ≡ Some s → ⊥
unfolding begun_of
begun_none steps s e = cc e

begun_first : (s : Step) (rest : List Step) (begun : Step) → begun_of 1 (s ∷ rest) ≡ Some begun → s ≡ begun
unfolding begun_of
begun_first s rest begun e = cc

begun_later : (n : ℕ) (s : Step) (rest : List Step) (begun : Step) → begun_of (suc (suc n)) (s ∷ rest) ≡ Some begun → begun_of (suc n) rest ≡ Some begun
unfolding begun_of
begun_later n s rest begun e =
    let more : suc (suc n) - 1 ≡ suc n = omega arith in
    let less : n ≡ suc n - 1 = omega arith in
    let there : slice_get (s ∷ take (suc n) rest) (suc n) ≡ Some begun = subst (λ (m : ℕ). slice_get (take (suc (suc n)) (s ∷ rest)) m ≡ Some begun) more e in
    subst (λ (m : ℕ). slice_get (take (suc n) rest) m ≡ Some begun) less there

-- a step that was begun by a time before the end is not left before it
begun_leaves_by : (c : Conditions) → AreFit c → (time : ℕ) (begun : Step) (s : Step) (rest : List Step) → IsFeasibleWalk c (s ∷ rest)
    → begun_of (entered_count time (s ∷ rest)) (s ∷ rest) ≡ Some begun → time ≤ end_of (s ∷ rest) → time ≤ begun.leave
begun_leaves_by c fit time begun s [] walk e before =
    elim (cases_lt time s.enter) [
      | inl past ↦ absurd (begun_none (s ∷ []) begun (subst (λ (n : ℕ). begun_of n (s ∷ []) ≡ Some begun) (none_entered c fit time s [] walk past) e))
      | inr by ↦
          let is : s ≡ begun = begun_first s [] begun (subst (λ (n : ℕ). begun_of n (s ∷ []) ≡ Some begun) (count-entered time s [] by) e) in
          omega (arith, ap (λ (t : Step). t.leave) is)
    ]
begun_leaves_by c fit time begun s (t ∷ rest) walk e before =
    elim (cases_lt time s.enter) [
      | inl past ↦ absurd (begun_none (s ∷ t ∷ rest) begun (subst (λ (n : ℕ). begun_of n (s ∷ t ∷ rest) ≡ Some begun) (none_entered c fit time s (t ∷ rest) walk past) e))
      | inr by ↦ elim (cases_lt time t.enter) [
        | inl later ↦
            let one : entered_count time (s ∷ t ∷ rest) ≡ 1 = count-entered time s (t ∷ rest) by ∙ ap (λ (n : ℕ). 1 + n) (none_entered c fit time t rest walk.2 later) in
            let is : s ≡ begun = begun_first s (t ∷ rest) begun (subst (λ (n : ℕ). begun_of n (s ∷ t ∷ rest) ≡ Some begun) one e) in
            omega (arith, ap (λ (u : Step). u.leave) is, walk.1.at_once)
        | inr also ↦
            let n : ℕ = entered_count time rest in
            let fewer : entered_count time (t ∷ rest) ≡ suc n = count-entered time t rest also ∙ one_more n in
            let all : entered_count time (s ∷ t ∷ rest) ≡ suc (suc n) = count-entered time s (t ∷ rest) by ∙ ap (λ (m : ℕ). 1 + m) fewer ∙ one_more (suc n) in
            let there : begun_of (suc n) (t ∷ rest) ≡ Some begun = begun_later n s (t ∷ rest) begun (subst (λ (m : ℕ). begun_of m (s ∷ t ∷ rest) ≡ Some begun) all e) in
            begun_leaves_by c fit time begun t rest walk.2 (subst (λ (m : ℕ). begun_of m (t ∷ rest) ≡ Some begun) (sym fewer) there) before
      ]
    ]
  where
    one_more : (n : ℕ) → 1 + n ≡ suc n
    one_more n = omega arith

pub begun_leaves : (c : Conditions) → AreFit c → (time : ℕ) (begun : Step) (old : List Step) → IsFeasibleWalk c old → step_begun time old ≡ Some begun → time ≤ end_of old → time ≤ begun.leave
unfolding begun_of
begun_leaves c fit time begun [] walk e before = absurd walk
begun_leaves c fit time begun (s ∷ rest) walk e before = begun_leaves_by c fit time begun s rest walk e before

-- ---- the frozen start

module _ (c : Conditions) (done : List Step) (begun : Step) (later : List Step) (old : IsFeasibleWalk c (done ++ begun ∷ later)) (time : ℕ) (target : Node) where
  pub begun_made : IsFeasibleStep c begun
  begun_made = first later (IsFeasibleWalk-back c done begun later old)
    where
      first : (rest : List Step) → IsFeasibleWalk c (begun ∷ rest) → IsFeasibleStep c begun
      first [] walk = walk
      first (t ∷ rest) walk = walk.0

  -- a resumed walk is a walk that goes on with the step begun, behind the steps done, and ends when it does
  pub resumed_from : (steps : List Step) → IsResumed c done begun time target steps
      → (rest : List Step) × (steps ≡ done ++ rest) × IsRoute c (Resumes begun time) (ReachesNode (layout_of c.airport) target) rest × (end_of steps ≡ end_of rest)
  resumed_from steps resumed = go resumed.rest resumed.joined resumed.begins resumed.ends
    where
      go : (rest : List Step) → steps ≡ done ++ rest → AtFirst (Resumes begun time) rest → AtLast (ReachesNode (layout_of c.airport) target) rest
          → (rest : List Step) × (steps ≡ done ++ rest) × IsRoute c (Resumes begun time) (ReachesNode (layout_of c.airport) target) rest × (end_of steps ≡ end_of rest)
      go [] joined begins ends = absurd begins
      go (t ∷ rest) joined begins ends = (
        t ∷ rest,
        joined,
        record { walk = IsFeasibleWalk-back c done t rest (subst (IsFeasibleWalk c) joined resumed.walk); begins = begins; ends = ends },
        ap end_of joined ∙ end_of-back done t rest,
      )

  -- where none goes on none is resumed, and none ends sooner
  pub none_resumed : ((rest : List Step) → IsRoute c (Resumes begun time) (ReachesNode (layout_of c.airport) target) rest → ⊥) → (steps : List Step) → IsResumed c done begun time target steps → ⊥
  none_resumed none steps resumed = let o = resumed_from steps resumed in none o.0 o.2

  pub none_resumed_sooner : (end : ℕ) → ((rest : List Step) → IsRoute c (Resumes begun time) (ReachesNode (layout_of c.airport) target) rest → end ≤ end_of rest)
      → (steps : List Step) → IsResumed c done begun time target steps → end ≤ end_of steps
  none_resumed_sooner end none steps resumed = let o = resumed_from steps resumed in omega (arith, none o.0 o.2, o.3)

-- ---- an arrival under way

module _ (c : Conditions) (old : List Step) (walk : IsFeasibleWalk c old) (time : ℕ) (begun : Step) (is : step_begun time old ≡ Some begun) where
  later_steps : List Step
  later_steps = (begun-parts time old begun is).0

  whole : IsFeasibleWalk c (steps_done time old ++ begun ∷ later_steps)
  unfolding later_steps
  whole = subst (IsFeasibleWalk c) (begun-parts time old begun is).1 walk

  pub frozen_none : (target : Node) → ((rest : List Step) → IsRoute c (Resumes begun time) (ReachesNode (layout_of c.airport) target) rest → ⊥)
      → (steps : List Step) → IsResumed c (steps_done time old) begun time target steps → ⊥
  frozen_none = none_resumed c (steps_done time old) begun later_steps whole time

  pub frozen_none_sooner : (target : Node) (end : ℕ) → ((rest : List Step) → IsRoute c (Resumes begun time) (ReachesNode (layout_of c.airport) target) rest → end ≤ end_of rest)
      → (steps : List Step) → IsResumed c (steps_done time old) begun time target steps → end ≤ end_of steps
  frozen_none_sooner = none_resumed_sooner c (steps_done time old) begun later_steps whole time

  pub step_begun_made : IsFeasibleStep c begun
  step_begun_made = begun_made c (steps_done time old) begun later_steps whole time (record { 0 = 0 })
