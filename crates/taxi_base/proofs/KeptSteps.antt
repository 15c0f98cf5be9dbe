-- The steps of a walk that were entered by a time come first, and are a walk with another last leave.
use Rattle.std.proofs.Common.{◌≡◌, ℕ, cond, leb, ◌+◌, ◌-◌, ◌<◌, ◌≤◌, List, [], ◌∷◌, ◌++◌, length, take, IsSomeAnd, Option, Some, None, refl, sym, ◌∙◌, ap, subst, arith, inl, inr}
use Rattle.std.specs.Prelude.{slice_get, Contains, All, unwrap_or, map}
use Rattle.std.proofs.Math.Seq.{take-append_seam, take-append-add}
use Rattle.std.proofs.lemmas.Bool.{cases_lt, lt-leb}
use Rattle.std.proofs.lemmas.Option.{none-some}
use Rattle.std.proofs.lemmas.List.{length-append}
use Rattle.std.proofs.lemmas.List.Sums.{sum_by-cons}
use Rattle.std.proofs.lemmas.List.Elements.{All-nil, All-cons, All-append, All-weaker, All-head, All-tail, All-contains, All-contains_itself, Contains-append_left, Contains-append_right}
use Rattle.taxi_base.specs.declared.rows.Step.{Step}
use Rattle.taxi_base.specs.Airport.{segment_of, seconds}
use Rattle.taxi_base.specs.Walks.{Conditions, IsFeasibleStep, IsFeasibleWalk, IsFree, hold_under}
use Rattle.taxi_base.specs.State.{entered_count, step_begun, steps_done}
use Rattle.taxi_base.specs.Late.{kept_steps, arc_and_enter, KeepsEntered}
use Rattle.taxi_base.proofs.ListLaws.{Contains-first}
use Rattle.taxi_base.proofs.WalkLaws.{IsSomeAnd-value, IsFeasibleWalk-last_changed}
use Rattle.taxi_base.proofs.AgainLaws.{count-entered}

-- ---- a walk about the step that was begun last

-- A walk with the steps that were entered by a time, the last of them, and those that were not.
pub record IsAbout (time : ℕ) (steps front : List Step) (begun : Step) (back : List Step) : Type 0 where
  pub joined : steps ≡ front ++ begun ∷ back
  pub count : entered_count time steps ≡ length front + 1
  pub entered : All (λ s. s.enter ≤ time) (front ++ begun ∷ [])
  pub later : All (λ s. time < s.enter) back

count-later : (time : ℕ) (s : Step) (steps : List Step) → time < s.enter → entered_count time (s ∷ steps) ≡ entered_count time steps
count-later time s steps h = sum_by-cons (λ (s : Step). cond (leb s.enter time) 1 0) s steps ∙ rw (lt-leb s.enter time h) (omega arith)

module _ (c : Conditions) (time : ℕ) where
  -- no step of a walk enters before the first
  all-later : (s : Step) (steps : List Step) → IsFeasibleWalk c (s ∷ steps) → time < s.enter → All (λ s. time < s.enter) (s ∷ steps)
  all-later s [] walk later = All-cons (λ s. time < s.enter) s [] later (All-nil (λ s. time < s.enter))
  all-later s (t ∷ steps) walk later =
      let known = IsSomeAnd-value (seconds c.airport c.class (segment_of s.arc)) (λ n. s.enter + n ≤ s.leave) walk.0.lasts in
      All-cons (λ s. time < s.enter) s (t ∷ steps) later (all-later t steps walk.2 (omega (arith, known.2, walk.1.at_once)))

  none-entered : (s : Step) (steps : List Step) → IsFeasibleWalk c (s ∷ steps) → time < s.enter → entered_count time (s ∷ steps) ≡ 0
  none-entered s [] walk later = count-later time s [] later
  none-entered s (t ∷ steps) walk later =
      let known = IsSomeAnd-value (seconds c.airport c.class (segment_of s.arc)) (λ n. s.enter + n ≤ s.leave) walk.0.lasts in
      count-later time s (t ∷ steps) later ∙ none-entered t steps walk.2 (omega (arith, known.2, walk.1.at_once))

  record About (steps : List Step) : Type 0 where
    front : List Step
    begun : Step
    back : List Step
    about : IsAbout time steps front begun back

  about-walk : (s : Step) (steps : List Step) → IsFeasibleWalk c (s ∷ steps) → s.enter ≤ time → About (s ∷ steps)
  about-walk s [] walk by = record {
    front = [];
    begun = s;
    back = [];
    about = record {
      joined = refl;
      count = count-entered time s [] by;
      entered = All-cons (λ s. s.enter ≤ time) s [] by (All-nil (λ s. s.enter ≤ time));
      later = All-nil (λ s. time < s.enter);
    };
  }
  about-walk s (t ∷ steps) walk by =
      elim (cases_lt time t.enter) [
        | inl later ↦ record {
          front = [];
          begun = s;
          back = t ∷ steps;
          about = record {
            joined = refl;
            count = count-entered time s (t ∷ steps) by ∙ ap (λ n. 1 + n) (none-entered t steps walk.2 later);
            entered = All-cons (λ s. s.enter ≤ time) s [] by (All-nil (λ s. s.enter ≤ time));
            later = all-later t steps walk.2 later;
          };
        }
        | inr too ↦
            let rest = about-walk t steps walk.2 too in
            record {
              front = s ∷ rest.front;
              begun = rest.begun;
              back = rest.back;
              about = record {
                joined = ap (λ us. s ∷ us) rest.about.joined;
                count = omega (arith, count-entered time s (t ∷ steps) by, rest.about.count);
                entered = All-cons (λ s. s.enter ≤ time) s (rest.front ++ rest.begun ∷ []) by rest.about.entered;
                later = rest.about.later;
              };
            }
      ]

slice_get-behind : (front : List Step) (s : Step) (back : List Step) → slice_get (front ++ s ∷ back) (length front) ≡ Some s
slice_get-behind [] s back = refl
slice_get-behind (f ∷ front) s back = slice_get-behind front s back

module _ (time : ℕ) (steps front : List Step) (begun : Step) (back : List Step) (about : IsAbout time steps front begun back) where
  pub about-begun : step_begun time steps ≡ Some begun
  about-begun =
      let e : length front + 1 - 1 ≡ length front = omega arith in
      rw (about.count, e) (ap (λ us. slice_get (take (length front + 1) us) (length front)) about.joined
      ∙ ap (λ us. slice_get us (length front)) (take-append-add front (begun ∷ back) 1)
      ∙ slice_get-behind front begun [])

  pub about-done : steps_done time steps ≡ front
  about-done =
      let e : length front + 1 - 1 ≡ length front = omega arith in
      rw (about.count, e) (ap (take (length front)) about.joined ∙ take-append_seam front (begun ∷ back))

  pub about-kept : (leave : Step → ℕ) → kept_steps time leave steps ≡ front ++ record begun { leave = leave begun } ∷ []
  about-kept leave = rw (about-begun, about-done) refl

-- A walk of which a step was begun by a time, about that step.
pub walk-about : (c : Conditions) (time : ℕ) (steps : List Step) (begun : Step) → IsFeasibleWalk c steps → step_begun time steps ≡ Some begun
    → (front back : List Step) × IsAbout time steps front begun back
walk-about c time [] begun walk h = absurd walk
walk-about c time (s ∷ steps) begun walk h =
    elim (cases_lt time s.enter) [
      | inl later ↦
          let none : step_begun time (s ∷ steps) ≡ None = rw (none-entered c time s steps walk later) refl in
          absurd (none-some begun (sym none ∙ h))
      | inr by ↦
          let parts = about-walk c time s steps walk by in
          let same : parts.begun ≡ begun = some_same (sym (about-begun time (s ∷ steps) parts.front parts.begun parts.back parts.about) ∙ h) in
          (parts.front, parts.back, subst (λ b. IsAbout time (s ∷ steps) parts.front b parts.back) same parts.about)
    ]
  where
    some_same : {X : Type 0} {a b : X} → Some a ≡ Some b → a ≡ b
    some_same e = cc

-- Where no step was begun, none was entered.
pub walk-not_begun : (c : Conditions) (time : ℕ) (steps : List Step) → IsFeasibleWalk c steps → step_begun time steps ≡ None
    → All (λ s. time < s.enter) steps × (entered_count time steps ≡ 0)
walk-not_begun c time [] walk h = absurd walk
walk-not_begun c time (s ∷ steps) walk h =
    elim (cases_lt time s.enter) [
      | inl later ↦ (all-later c time s steps walk later, none-entered c time s steps walk later)
      | inr by ↦
          let parts = about-walk c time s steps walk by in
          absurd (none-some parts.begun (sym h ∙ about-begun time (s ∷ steps) parts.front parts.begun parts.back parts.about))
    ]

-- ---- the kept steps are a walk

-- the steps of a walk up to one are a walk
pub IsFeasibleWalk-front : (c : Conditions) (front : List Step) (s : Step) (back : List Step) → IsFeasibleWalk c (front ++ s ∷ back) → IsFeasibleWalk c (front ++ s ∷ [])
IsFeasibleWalk-front c [] s [] walk = walk
IsFeasibleWalk-front c [] s (t ∷ back) walk = walk.0
IsFeasibleWalk-front c (f ∷ []) s back walk = (walk.0, walk.1, IsFeasibleWalk-front c [] s back walk.2)
IsFeasibleWalk-front c (f ∷ g ∷ front) s back walk = (walk.0, walk.1, IsFeasibleWalk-front c (g ∷ front) s back walk.2)

-- the step at the seam of a walk can be made, and the next one enters when it leaves
pub seam : (c : Conditions) (front : List Step) (s : Step) (back : List Step) → IsFeasibleWalk c (front ++ s ∷ back) → IsFeasibleStep c s
seam c [] s [] walk = walk
seam c [] s (t ∷ back) walk = walk.0
seam c (f ∷ []) s back walk = seam c [] s back walk.2
seam c (f ∷ g ∷ front) s back walk = seam c (g ∷ front) s back walk.2

pub seam-next : (c : Conditions) (front : List Step) (s t : Step) (back : List Step) → IsFeasibleWalk c (front ++ s ∷ t ∷ back) → s.leave ≡ t.enter
seam-next c [] s t back walk = walk.1.at_once
seam-next c (f ∷ []) s t back walk = walk.2.1.at_once
seam-next c (f ∷ g ∷ front) s t back walk = seam-next c (g ∷ front) s t back walk.2

-- The last step may leave at another time, where the class can be through by then, and what it then holds is free.
pub IsFeasibleWalk-leave : (c : Conditions) (front : List Step) (s : Step) (leave : ℕ) → IsFeasibleWalk c (front ++ s ∷ [])
    → IsFeasibleStep c s → s.enter + unwrap_or (seconds c.airport c.class (segment_of s.arc)) 0 ≤ leave → leave ≤ c.airport.horizon
    → IsFree c (hold_under c (record s { leave = leave })) → IsFeasibleWalk c (front ++ record s { leave = leave } ∷ [])
IsFeasibleWalk-leave c front s leave walk made lasts in_time free =
    IsFeasibleWalk-last_changed c front s (record s { leave = leave }) walk refl refl (record {
      on_arc = made.on_arc;
      lasts = still (seconds c.airport c.class (segment_of s.arc)) made.lasts lasts;
      in_time = in_time;
      free = free;
    })
  where
    still : (o : Option ℕ) → IsSomeAnd o (λ n. s.enter + n ≤ s.leave) → s.enter + unwrap_or o 0 ≤ leave → IsSomeAnd o (λ n. s.enter + n ≤ leave)
    still None h by = h
    still (Some n) h by = by

-- ---- arcs and enters that stay

-- Steps that go on with the step that was begun keep the arcs and the enters of those that were entered.
pub about-KeepsEntered : (time : ℕ) (steps front : List Step) (begun : Step) (back : List Step) (t : Step) (later : List Step) → IsAbout time steps front begun back
    → t.arc ≡ begun.arc → t.enter ≡ begun.enter → KeepsEntered time steps (front ++ t ∷ later)
about-KeepsEntered time steps front begun back t later about arc enter =
    rw about.count (ap (map arc_and_enter) (take-append-add front (t ∷ later) 1)
    ∙ same front
    ∙ sym (ap (map arc_and_enter) (ap (take (length front + 1)) about.joined ∙ take-append-add front (begun ∷ back) 1)))
  where
    same : (front : List Step) → map arc_and_enter (front ++ t ∷ []) ≡ map arc_and_enter (front ++ begun ∷ [])
    same [] = λ i. (arc i, enter i) ∷ []
    same (f ∷ front) = ap (λ us. arc_and_enter f ∷ us) (same front)

-- And the kept steps are about their last one, at any later time.
pub about-again : (time later : ℕ) (steps front : List Step) (begun : Step) (back : List Step) (leave : ℕ) → IsAbout time steps front begun back → time ≤ later
    → IsAbout later (front ++ record begun { leave = leave } ∷ []) front (record begun { leave = leave }) []
about-again time later steps front begun back leave about by = record {
  joined = refl;
  count = all-entered later (front ++ record begun { leave = leave } ∷ []) entered ∙ length-append front (record begun { leave = leave } ∷ []);
  entered = entered;
  later = All-nil (λ s. later < s.enter);
} where
  entered : All (λ s. s.enter ≤ later) (front ++ record begun { leave = leave } ∷ [])
  entered = All-append (λ s. s.enter ≤ later) front (record begun { leave = leave } ∷ [])
      (All-weaker (Contains front) (λ s. s.enter ≤ later) (λ s there. omega (arith, by, All-contains (λ s. s.enter ≤ time) (front ++ begun ∷ []) s about.entered (Contains-append_left front (begun ∷ []) s there)))
      front (All-contains_itself front))
      (All-cons (λ s. s.enter ≤ later) (record begun { leave = leave }) []
      (omega (arith, by, All-contains (λ s. s.enter ≤ time) (front ++ begun ∷ []) begun about.entered (Contains-append_right front (begun ∷ []) begun (Contains-first begun []))))
      (All-nil (λ s. s.enter ≤ later)))

  all-entered : (time : ℕ) (steps : List Step) → All (λ s. s.enter ≤ time) steps → entered_count time steps ≡ length steps
  all-entered time [] all = refl
  all-entered time (s ∷ steps) all =
      omega (arith, count-entered time s steps (All-head (λ s. s.enter ≤ time) s steps all), all-entered time steps (All-tail (λ s. s.enter ≤ time) s steps all))
