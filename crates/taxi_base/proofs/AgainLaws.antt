-- Flights under way: the steps done and the way from the step begun are one walk, so the best way on is the best frozen walk.
use Rattle.std.proofs.Common.{◌≡◌, ℕ, zero, suc, ◌+◌, ◌-◌, ◌<◌, ◌≤◌, max, cond, leb, List, [], ◌∷◌, ◌++◌, length, take, IsTrue, Option, Some, None, refl, sym, ◌∙◌, ap, subst, arith, inl, inr, ◌⊎◌}
use Rattle.std.specs.Prelude.{MatchOption, slice_get}
use Rattle.std.proofs.Math.Seq.{take-append_seam, take-append-add}
use Rattle.std.proofs.lemmas.Bool.{cases_lt, le-leb, lt-leb}
use Rattle.std.proofs.lemmas.Option.{none-some}
use Rattle.std.proofs.lemmas.List.Sums.{sum_by-cons}
use Rattle.taxi_base.specs.declared.numbers.Node.{Node}
use Rattle.taxi_base.specs.declared.rows.Step.{Step}
use Rattle.taxi_base.specs.declared.answers.Request.{Request}
use Rattle.taxi_base.specs.declared.answers.Request.TheVariants.{Filed, Arrival, Departure}
use Rattle.taxi_base.specs.declared.answers.Found.{Found}
use Rattle.taxi_base.specs.declared.answers.Found.TheVariants.{Route, NoRoute}
use Rattle.taxi_base.specs.Airport.{layout_of, segment_of, permits, seconds}
use Rattle.taxi_base.specs.Walks.{Conditions, IsFeasibleStep, IsFeasibleWalk, AtFirst, AtLast, end_of, IsRoute, LeavesNodeWithin, ReachesNode, Resumes, Meets, EndsEarliest}
use Rattle.taxi_base.specs.Labels.{AnswersArrival}
use Rattle.taxi_base.specs.State.{entered_count, step_begun, steps_done, IsResumed, IsFrozenWalk}
use Rattle.taxi_base.specs.Again.{retargeted, IsTarget, MayGoAgain, after_steps, AnswersAgain, IsBestAgain}
use Rattle.taxi_base.proofs.WalkLaws.{IsSomeAnd-value}

-- ---- two parts of a walk

-- the steps of a walk from one on are a walk
pub IsFeasibleWalk-back : (c : Conditions) (front : List Step) (t : Step) (back : List Step) → IsFeasibleWalk c (front ++ t ∷ back) → IsFeasibleWalk c (t ∷ back)
IsFeasibleWalk-back c [] t back walk = walk
IsFeasibleWalk-back c (f ∷ []) t back walk = walk.2
IsFeasibleWalk-back c (f ∷ g ∷ front) t back walk = IsFeasibleWalk-back c (g ∷ front) t back walk.2

-- another walk that goes on from the same step may stand behind the front
IsFeasibleWalk-back_changed : (c : Conditions) (front : List Step) (s t : Step) (old new : List Step) → IsFeasibleWalk c (front ++ s ∷ old) → t.arc ≡ s.arc → t.enter ≡ s.enter
    → IsFeasibleWalk c (t ∷ new) → IsFeasibleWalk c (front ++ t ∷ new)
IsFeasibleWalk-back_changed c [] s t old new walk arc enter again = again
IsFeasibleWalk-back_changed c (f ∷ []) s t old new walk arc enter again =
    (walk.0, record { at_once = walk.1.at_once ∙ sym enter; permitted = subst (λ a. IsTrue (permits (layout_of c.airport) f.arc a)) (sym arc) walk.1.permitted }, again)
IsFeasibleWalk-back_changed c (f ∷ g ∷ front) s t old new walk arc enter again =
    (walk.0, walk.1, IsFeasibleWalk-back_changed c (g ∷ front) s t old new walk.2 arc enter again)

-- the end of a list is that of its back
pub end_of-back : (front : List Step) (t : Step) (back : List Step) → end_of (front ++ t ∷ back) ≡ end_of (t ∷ back)
end_of-back [] t back = refl
end_of-back (f ∷ []) t back = refl
end_of-back (f ∷ g ∷ front) t back = end_of-back (g ∷ front) t back

AtLast-back : (P : Step → Type 0) (front : List Step) (t : Step) (back : List Step) → AtLast P (front ++ t ∷ back) → AtLast P (t ∷ back)
AtLast-back P [] t back h = h
AtLast-back P (f ∷ []) t back h = h
AtLast-back P (f ∷ g ∷ front) t back h = AtLast-back P (g ∷ front) t back h

back-AtLast : (P : Step → Type 0) (front : List Step) (t : Step) (back : List Step) → AtLast P (t ∷ back) → AtLast P (front ++ t ∷ back)
back-AtLast P [] t back h = h
back-AtLast P (f ∷ []) t back h = h
back-AtLast P (f ∷ g ∷ front) t back h = back-AtLast P (g ∷ front) t back h

AtFirst-back_changed : (P : Step → Type 0) (front : List Step) (s t : Step) (old new : List Step) → (P s → P t) → AtFirst P (front ++ s ∷ old) → AtFirst P (front ++ t ∷ new)
AtFirst-back_changed P [] s t old new change h = change h
AtFirst-back_changed P (f ∷ front) s t old new change h = h

-- ---- the step begun

-- the step at a place parts the list
parted : (steps : List Step) (k : ℕ) (s : Step) → slice_get (take (suc k) steps) k ≡ Some s → (later : List Step) × (steps ≡ take k steps ++ s ∷ later)
parted [] k s h = absurd (none-some s h)
parted (t ∷ steps) zero s h = (steps, ap (λ u. u ∷ steps) (same h)) where
  same : Some t ≡ Some s → t ≡ s
  same e = cc
parted (t ∷ steps) (suc k) s h = let rest = parted steps k s h in (rest.0, ap (λ us. t ∷ us) rest.1)

-- where a step was begun, the steps done come before it
pub begun-parts : (time : ℕ) (old : List Step) (begun : Step) → step_begun time old ≡ Some begun → (later : List Step) × (old ≡ steps_done time old ++ begun ∷ later)
begun-parts time old begun h = go (entered_count time old) h where
  go : (k : ℕ) → slice_get (take k old) (k - 1) ≡ Some begun → (later : List Step) × (old ≡ take (k - 1) old ++ begun ∷ later)
  go zero h = absurd (none-some begun h)
  go (suc k) h =
      let e : suc k - 1 ≡ k = omega arith in
      subst (λ n. (later : List Step) × (old ≡ take n old ++ begun ∷ later)) (sym e) (parted old k begun (subst (λ n. slice_get (take (suc k) old) n ≡ Some begun) e h))

-- ---- ways on, and frozen walks

module _ (c : Conditions) (old : List Step) (time : ℕ) (begun : Step) (target : Node) where
  abbrev IsWayOn : List Step → Type 0
  IsWayOn rest = IsRoute c (Resumes begun time) (ReachesNode (layout_of c.airport) target) rest

  -- a walk that goes on with the step begun has a way on at its end
  pub resumed-way : (done steps : List Step) → IsResumed c done begun time target steps → (rest : List Step) × IsWayOn rest × (end_of steps ≡ end_of rest)
  resumed-way done steps resumed = go resumed.rest resumed.joined resumed.begins resumed.ends where
    go : (rest : List Step) → steps ≡ done ++ rest → AtFirst (Resumes begun time) rest → AtLast (ReachesNode (layout_of c.airport) target) rest
        → (rest : List Step) × IsWayOn rest × (end_of steps ≡ end_of rest)
    go [] joined begins ends = absurd begins
    go (t ∷ rest) joined begins ends = (
      t ∷ rest,
      record { walk = IsFeasibleWalk-back c done t rest (subst (IsFeasibleWalk c) joined resumed.walk); begins = begins; ends = ends },
      ap end_of joined ∙ end_of-back done t rest,
    )

  module _ (walk : IsFeasibleWalk c old) (under_way : step_begun time old ≡ Some begun) where
    way-resumed : (rest : List Step) → IsWayOn rest
        → IsResumed c (steps_done time old) begun time target (steps_done time old ++ rest) × (end_of (steps_done time old ++ rest) ≡ end_of rest)
    way-resumed [] way = absurd way.walk
    way-resumed (t ∷ rest) way =
        let parts = begun-parts time old begun under_way in (
          record {
            rest = t ∷ rest;
            joined = refl;
            walk = IsFeasibleWalk-back_changed c (steps_done time old) begun t parts.0 rest (subst (IsFeasibleWalk c) parts.1 walk) way.begins.arc way.begins.enter way.walk;
            begins = way.begins;
            ends = way.ends;
          },
          end_of-back (steps_done time old) t rest,
        )

    -- the best way on is the best frozen walk
    best-resumed : (rest : List Step) → EndsEarliest IsWayOn rest → EndsEarliest (IsResumed c (steps_done time old) begun time target) (steps_done time old ++ rest)
    best-resumed rest best =
        let made = way-resumed rest best.one in
        record {
          one = made.0;
          earliest = λ others resumed.
              let way = resumed-way (steps_done time old) others resumed in omega (arith, made.1, way.2, best.earliest way.0 way.1);
        }

module _ (c : Conditions) (old : List Step) (time : ℕ) (target : Node) (walk : IsFeasibleWalk c old) where
  module _ (from : Node) (asked hold : ℕ) where
    abbrev IsFrozenAt : Option Step → List Step → Type 0
    IsFrozenAt begun steps =
        MatchOption begun
        (IsRoute c (LeavesNodeWithin (layout_of c.airport) from (max asked time) (asked + hold)) (ReachesNode (layout_of c.airport) target) steps)
        (λ begun. IsResumed c (steps_done time old) begun time target steps)

    abbrev IsBestAt : Option Step → Found → Type 0
    IsBestAt begun (Route steps labels) = EndsEarliest (IsFrozenAt begun) steps
    IsBestAt begun (NoRoute labels) = (steps : List Step) → IsFrozenAt begun steps → ⊥

    abbrev IsAnswerAt : Option Step → Found → Type 0
    IsAnswerAt begun found =
        MatchOption begun
        (AnswersArrival c (LeavesNodeWithin (layout_of c.airport) from (max asked time) (asked + hold)) target found)
        (λ begun. (rest : Found) × (found ≡ after_steps (steps_done time old) rest) × AnswersArrival c (Resumes begun time) target rest)

    best-at : (begun : Option Step) → step_begun time old ≡ begun → (found : Found) → IsAnswerAt begun found → IsBestAt begun found
    best-at None e (Route steps labels) answers = answers.0
    best-at None e (NoRoute labels) answers = answers.0
    best-at (Some begun) e found answers = subst (IsBestAt (Some begun)) (sym answers.1) (of_rest answers.0 answers.2) where
      of_rest : (rest : Found) → AnswersArrival c (Resumes begun time) target rest → IsBestAt (Some begun) (after_steps (steps_done time old) rest)
      of_rest (Route steps labels) rest = best-resumed c old time begun target walk e steps rest.0
      of_rest (NoRoute labels) rest = λ steps resumed. let way = resumed-way c old time begun target (steps_done time old) steps resumed in rest.0 way.0 way.1

  -- The answer to a flight under way is the best of the walks that it may take, or that there is none.
  pub again-best : (request : Request) (found : Found) → AnswersAgain c old time target request found → IsBestAgain c old time target request found
  again-best Filed found answers = absurd answers
  again-best (Arrival from to asked hold) (Route steps labels) answers = best-at from asked hold (step_begun time old) refl (Route steps labels) answers
  again-best (Arrival from to asked hold) (NoRoute labels) answers = best-at from asked hold (step_begun time old) refl (NoRoute labels) answers
  again-best (Departure from to asked queue) (Route steps labels) answers = answers.0
  again-best (Departure from to asked queue) (NoRoute labels) answers = answers.0

-- ---- what a flight may take is what it asked for

-- Each walk that it may take is what it asked for, with the new node to reach.
pub frozen-meets : (c : Conditions) (old : List Step) (time : ℕ) (target : Node) (request : Request) (steps : List Step) → Meets c request old
    → IsFrozenWalk c old time target request steps → Meets c (retargeted request target) steps
frozen-meets c old time target Filed steps met frozen = absurd frozen
frozen-meets c old time target (Departure from to asked queue) steps met frozen = frozen
frozen-meets c old time target (Arrival from to asked hold) steps met frozen = go (step_begun time old) refl frozen where
  Begins : Step → Type 0
  Begins = LeavesNodeWithin (layout_of c.airport) from asked (asked + hold)

  Ends : Step → Type 0
  Ends = ReachesNode (layout_of c.airport) target

  first : (steps : List Step) → AtFirst (LeavesNodeWithin (layout_of c.airport) from (max asked time) (asked + hold)) steps → AtFirst Begins steps
  first [] h = h
  first (s ∷ steps) h = record { leaves = h.leaves; not_before = omega (arith, h.not_before); not_after = h.not_after }

  same_first : (s t : Step) → t.arc ≡ s.arc → t.enter ≡ s.enter → Begins s → Begins t
  same_first s t arc enter h = record { leaves = rw arc h.leaves; not_before = rw enter h.not_before; not_after = rw enter h.not_after }

  go : (begun : Option Step) → step_begun time old ≡ begun
      → MatchOption begun
      (IsRoute c (LeavesNodeWithin (layout_of c.airport) from (max asked time) (asked + hold)) (ReachesNode (layout_of c.airport) target) steps)
      (λ begun. IsResumed c (steps_done time old) begun time target steps)
      → IsRoute c Begins Ends steps
  go None e route = record { walk = route.walk; begins = first steps route.begins; ends = route.ends }
  go (Some begun) e resumed = on resumed.rest resumed.joined resumed.begins resumed.ends where
    on : (rest : List Step) → steps ≡ steps_done time old ++ rest → AtFirst (Resumes begun time) rest → AtLast Ends rest → IsRoute c Begins Ends steps
    on [] joined begins ends = absurd begins
    on (t ∷ rest) joined begins ends =
        let parts = begun-parts time old begun e in
        record {
          walk = resumed.walk;
          begins = subst (AtFirst Begins) (sym joined)
              (AtFirst-back_changed Begins (steps_done time old) begun t parts.0 rest (same_first begun t begins.arc begins.enter) (subst (AtFirst Begins) parts.1 met.begins));
          ends = subst (AtLast Ends) (sym joined) (back-AtLast Ends (steps_done time old) t rest ends);
        }

-- ---- the old route is one of them

pub count-entered : (time : ℕ) (s : Step) (steps : List Step) → s.enter ≤ time → entered_count time (s ∷ steps) ≡ 1 + entered_count time steps
count-entered time s steps h = sum_by-cons (λ (s : Step). cond (leb s.enter time) 1 0) s steps ∙ rw (le-leb s.enter time h) refl

count-later : (time : ℕ) (s : Step) (steps : List Step) → time < s.enter → entered_count time (s ∷ steps) ≡ entered_count time steps
count-later time s steps h = sum_by-cons (λ (s : Step). cond (leb s.enter time) 1 0) s steps ∙ rw (lt-leb s.enter time h) (omega arith)

slice_get-behind : (front : List Step) (s : Step) (back : List Step) → slice_get (front ++ s ∷ back) (length front) ≡ Some s
slice_get-behind [] s back = refl
slice_get-behind (f ∷ front) s back = slice_get-behind front s back

module _ (c : Conditions) (time : ℕ) where
  -- a step enters no later than it leaves
  enters-first : (s : Step) → IsFeasibleStep c s → s.enter ≤ s.leave
  enters-first s made =
      let known = IsSomeAnd-value (seconds c.airport c.class (segment_of s.arc)) (λ n. s.enter + n ≤ s.leave) made.lasts in omega (arith, known.2)

  none-entered : (s : Step) (steps : List Step) → IsFeasibleWalk c (s ∷ steps) → time < s.enter → entered_count time (s ∷ steps) ≡ 0
  none-entered s [] walk later = count-later time s [] later
  none-entered s (t ∷ steps) walk later =
      count-later time s (t ∷ steps) later ∙ none-entered t steps walk.2 (omega (arith, enters-first s walk.0, walk.1.at_once))

  -- a walk under way, about the step that is begun
  record IsParted (steps : List Step) : Type 0 where
    front : List Step
    begun : Step
    back : List Step
    joined : steps ≡ front ++ begun ∷ back
    count : entered_count time steps ≡ length front + 1
    on : time ≤ begun.leave

  under-way : (s : Step) (steps : List Step) → IsFeasibleWalk c (s ∷ steps) → s.enter ≤ time → time < end_of (s ∷ steps) → IsParted (s ∷ steps)
  under-way s [] walk entered on = record { front = []; begun = s; back = []; joined = refl; count = count-entered time s [] entered; on = omega arith }
  under-way s (t ∷ steps) walk entered on =
      elim (cases_lt time t.enter) [
        | inl later ↦ record {
          front = [];
          begun = s;
          back = t ∷ steps;
          joined = refl;
          count = count-entered time s (t ∷ steps) entered ∙ ap (λ n. 1 + n) (none-entered t steps walk.2 later);
          on = omega (arith, walk.1.at_once);
        }
        | inr by ↦
            let rest = under-way t steps walk.2 by on in
            record {
              front = s ∷ rest.front;
              begun = rest.begun;
              back = rest.back;
              joined = ap (λ us. s ∷ us) rest.joined;
              count = omega (arith, count-entered time s (t ∷ steps) entered, rest.count);
              on = rest.on;
            }
      ]

  module _ (steps : List Step) (parts : IsParted steps) where
    parted-begun : step_begun time steps ≡ Some parts.begun
    parted-begun =
        let e : length parts.front + 1 - 1 ≡ length parts.front = omega arith in
        rw (parts.count, e) (ap (λ us. slice_get (take (length parts.front + 1) us) (length parts.front)) parts.joined
        ∙ ap (λ us. slice_get us (length parts.front)) (take-append-add parts.front (parts.begun ∷ parts.back) 1)
        ∙ slice_get-behind parts.front parts.begun [])

    parted-done : steps_done time steps ≡ parts.front
    parted-done =
        let e : length parts.front + 1 - 1 ≡ length parts.front = omega arith in
        rw (parts.count, e) (ap (take (length parts.front)) parts.joined ∙ take-append_seam parts.front (parts.begun ∷ parts.back))

-- Where it may ask again, the old route is one of the walks to its own node.
pub old-frozen : (c : Conditions) (old : List Step) (time : ℕ) (target : Node) (request : Request) → Meets c request old → MayGoAgain time request old → IsTarget request target
    → IsFrozenWalk c old time target request old
old-frozen c old time target Filed met again same = absurd again
old-frozen c old time target (Departure from to asked queue) met again same = subst (λ node. Meets c (Departure from node asked queue) old) same met
old-frozen c [] time target (Arrival from to asked hold) met again same = absurd met.walk
old-frozen c (s ∷ steps) time target (Arrival from to asked hold) met again same =
    subst (λ node. IsFrozenWalk c (s ∷ steps) time node (Arrival from to asked hold) (s ∷ steps)) same (go (cases_lt time s.enter))
  where
    Ends : Step → Type 0
    Ends = ReachesNode (layout_of c.airport) to

    resumed : (parts : IsParted c time (s ∷ steps)) → IsResumed c parts.front parts.begun time to (s ∷ steps)
    resumed parts = record {
      rest = parts.begun ∷ parts.back;
      joined = parts.joined;
      walk = met.walk;
      begins = record { arc = refl; enter = refl; not_before = parts.on };
      ends = AtLast-back Ends parts.front parts.begun parts.back (subst (AtLast Ends) parts.joined met.ends);
    }

    go : (time < s.enter) ⊎ (s.enter ≤ time) → IsFrozenWalk c (s ∷ steps) time to (Arrival from to asked hold) (s ∷ steps)
    go (inl later) =
        let none : step_begun time (s ∷ steps) ≡ None = rw (none-entered c time s steps met.walk later) refl in
        rw none (record {
          walk = met.walk;
          begins = record { leaves = met.begins.leaves; not_before = omega (arith, met.begins.not_before); not_after = met.begins.not_after };
          ends = met.ends;
        })
    go (inr entered) =
        let parts = under-way c time s steps met.walk entered again in
        rw (parted-begun c time (s ∷ steps) parts, parted-done c time (s ∷ steps) parts) (resumed parts)
