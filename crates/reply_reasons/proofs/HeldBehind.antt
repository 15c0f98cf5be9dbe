-- Whom a departure waits for: the route that is picked waits on a step for the window of the step before, which ends, and ends before its time for
-- the window of its last step, which ends too.
use Rattle.std.proofs.Common.{◌≡◌, ◌∙◌, ℕ, ◌+◌, ◌-◌, ◌<◌, ◌≤◌, min, max, List, [], ◌∷◌, Option, Some, inl, inr, refl, sym, ap, subst, arith, eqb}
use Rattle.std.specs.Prelude.{unwrap_or, IsSomeAnd, ⊤}
use Rattle.std.proofs.lemmas.Bool.{cases_lt, cases_Bool, eqb-false}
use Rattle.taxi_base.specs.declared.numbers.Arc.{Arc}
use Rattle.taxi_base.specs.declared.numbers.Class.{Class}
use Rattle.taxi_base.specs.declared.numbers.Node.{Node}
use Rattle.taxi_base.specs.declared.rows.LabelRow.{LabelRow}
use Rattle.taxi_base.specs.declared.rows.Step.{Step}
use Rattle.taxi_base.specs.Airport.{Airport, layout_of, segment_of, seconds}
use Rattle.taxi_base.specs.Windows.{IsWindow}
use Rattle.taxi_base.specs.Walks.{Conditions, IsFeasibleStep, AtFirst, AtLast, begin_of, last_of, IsRoute, ReachesNodeWithin}
use Rattle.taxi_base.specs.Labels.{window_of, IsStepOf, IsEntryLabel, seconds_of, IsLastStep, IsAfter, IsTracedFrom, finish, before, IsPickedDeparture}
use Rattle.taxi_base.specs.State.{State, holds_in}
use Rattle.taxi_base.specs.Faults.{conditions_in}
use Rattle.taxi_base.proofs.WindowLaws.{IsWindow-by}
use Rattle.taxi_base.proofs.WalkLaws.{IsSomeAnd-value, IsFree-inside, conditions_among-bounded}
use Rattle.reply_reasons.specs.Waits.{held_until, seconds_waited}
use Rattle.reply_reasons.proofs.HeldSeconds.{IsHeld, held-after}
use Rattle.reply_reasons.proofs.HeldAhead.{waited-on}

first-weaker : (P Q : Step → Type 0) → ((s : Step) → P s → Q s) → (steps : List Step) → AtFirst P steps → AtFirst Q steps
first-weaker P Q weaker [] p = absurd p
first-weaker P Q weaker (s ∷ steps) p = weaker s p

module _ (airport : Airport) (class : Class) (others : State) where
  abbrev c : Conditions
  c = conditions_in airport class others

  -- where a step waits, the segment of the step before is held when that one's hold ends
  abbrev pub IsHeldBehind : Step → Step → Type 0
  IsHeldBehind s next = 0 < seconds_waited airport class next → IsHeld airport others (segment_of s.arc) (held_until airport class s)

  abbrev pub AreHeldBehind : List Step → Type 0
  AreHeldBehind [] = ⊤
  AreHeldBehind (s ∷ []) = ⊤
  AreHeldBehind (s ∷ t ∷ steps) = IsHeldBehind s t × AreHeldBehind (t ∷ steps)

  behind-cons : (s : Step) (steps : List Step) → AtFirst (λ t. IsHeldBehind s t) steps → AreHeldBehind steps → AreHeldBehind (s ∷ steps)
  behind-cons s [] first held = absurd first
  behind-cons s (t ∷ steps) first held = (first, held)

  last-cons : (P : Step → Type 0) (s : Step) (steps : List Step) → AtLast P steps → AtLast P (s ∷ steps)
  last-cons P s [] p = absurd p
  last-cons P s (t ∷ steps) p = p

  -- no window ends after the horizon
  window-by : (label : LabelRow) → IsWindow (c.free (segment_of label.arc)) (window_of label) → label.until ≤ airport.horizon
  window-by label window = IsWindow-by (c.free (segment_of label.arc)) (window_of label) airport.horizon (conditions_among-bounded airport class (holds_in airport others) (segment_of label.arc)) window

  module _ (to : Node) (earliest latest : ℕ) where
    abbrev Ends : Step → Type 0
    Ends = ReachesNodeWithin (layout_of airport) to earliest latest

    -- a walk from a label begins by the horizon, and its first hold ends by the end of the window
    entry-by : (label : LabelRow) → IsEntryLabel c Ends label → (label.value ≤ airport.horizon) × (label.until < airport.horizon → c.clearance ≤ label.until)
    entry-by label entry = go entry.value.0 entry.value.1.one entry.value.2 where
      of_step : (s : Step) → IsFeasibleStep c s → IsStepOf c label s → s.enter ≡ label.value → (label.value ≤ airport.horizon) × (label.until < airport.horizon → c.clearance ≤ label.until)
      of_step s made is value =
          let timed = IsSomeAnd-value (seconds airport class (segment_of s.arc)) (λ n. s.enter + n ≤ s.leave) made.lasts in
          (omega (arith, timed.2, made.in_time, value), λ short. omega (arith, short, is.1.1))

      go : (steps : List Step) → IsRoute c (IsStepOf c label) Ends steps → begin_of steps ≡ label.value → (label.value ≤ airport.horizon) × (label.until < airport.horizon → c.clearance ≤ label.until)
      go [] route value = absurd route.walk
      go (s ∷ []) route value = of_step s route.walk route.begins value
      go (s ∷ t ∷ steps) route value = of_step s route.walk.0 route.begins value

    -- ---- the last step

    module _ (label : LabelRow) (step : Step) (entry : IsEntryLabel c Ends label) (last : IsLastStep c Ends label step) where
      made : IsFeasibleStep c step
      made = last.route.walk

      here : IsWindow (c.free (segment_of step.arc)) (window_of label)
      here = subst (λ (x : Arc). IsWindow (c.free (segment_of x)) (window_of label)) (sym last.route.begins.0) entry.window

      timed : (n : ℕ) × (seconds airport class (segment_of step.arc) ≡ Some n) × (step.enter + n ≤ step.leave)
      timed = IsSomeAnd-value (seconds airport class (segment_of step.arc)) (λ n. step.enter + n ≤ step.leave) made.lasts

      timed-as : seconds_of c label ≡ timed.0
      timed-as = ap (λ (a : Arc). unwrap_or (seconds airport class (segment_of a)) 0) (sym last.route.begins.0) ∙ ap (λ (o : Option ℕ). unwrap_or o 0) timed.1

      -- no other step by the arc inside the window enters later
      none-later : (enter leave : ℕ) → earliest ≤ leave → leave ≤ latest → enter + seconds_of c label ≤ leave → leave ≤ airport.horizon → label.from ≤ enter
          → min airport.horizon (leave + c.clearance) ≤ label.until → enter ≤ label.value
      none-later enter leave low high lasts in_time since until =
          let other : Step = record { arc = step.arc; enter = enter; leave = leave } in
          let other_made : IsFeasibleStep c other = record {
            on_arc = made.on_arc;
            lasts = subst (λ o. IsSomeAnd o (λ k. enter + k ≤ leave)) (sym timed.1) (omega (arith, lasts, timed-as));
            in_time = in_time;
            free = IsFree-inside c (window_of label) other here (since, until);
          } in
          let route : IsRoute c (IsStepOf c label) Ends (other ∷ []) =
          record { walk = other_made; begins = (last.route.begins.0, (since, until)); ends = record { reaches = last.route.ends.reaches; not_before = low; not_after = high } } in
          let most : enter ≤ begin_of entry.value.0 = entry.value.1.latest (other ∷ []) route in
          let value : begin_of entry.value.0 ≡ label.value = entry.value.2 in
          omega (arith, most, value)

      -- where it might end later its segment is held when its hold ends
      ends-held : label.value + seconds_of c label < latest → min airport.horizon (label.value + seconds_of c label + c.clearance) < airport.horizon
          → IsHeld airport others (segment_of label.arc) (min airport.horizon (label.value + seconds_of c label + c.clearance))
      ends-held early short =
          let inside = last.route.begins.1 in
          let time : ℕ = seconds_of c label in
          elim (cases_lt (label.value + time + c.clearance) label.until) [
            | inl inner ↦
                let later : label.value + 1 ≤ label.value = none-later (label.value + 1) (max step.leave (label.value + 1 + time)) (omega (arith, last.route.ends.not_before))
                (omega (arith, last.route.ends.not_after, early)) (omega arith) (omega (arith, made.in_time, short)) (omega (arith, inside.0, last.value))
                (omega (arith, inside.1, inner)) in
                absurd (omega (arith, later))
            | inr outer ↦
                let same : min airport.horizon (label.value + time + c.clearance) ≡ label.until = omega (arith, outer, inside.1, short, timed.2, timed-as, last.value) in
                subst (IsHeld airport others (segment_of label.arc)) (sym same)
                (held-after airport others (segment_of label.arc) (window_of label) entry.window (omega (arith, same, short)))
          ]

    -- ---- the steps from a label on

    -- where it is left before its time, and its hold ends before the horizon, its segment is held then
    abbrev pub IsHeldAfter : Step → Type 0
    IsHeldAfter s = s.leave < latest → held_until airport class s < airport.horizon → IsHeld airport others (segment_of s.arc) (held_until airport class s)

    record IsHeldFrom (label : LabelRow) (enter : ℕ) (steps : List Step) : Type 0 where
      behind : AreHeldBehind steps
      first : AtFirst (λ s. (s.arc ≡ label.arc) × (s.enter ≡ enter) × (s.leave ≡ label.value + seconds_of c label)) steps
      last : AtLast IsHeldAfter steps

    after-held : (label later : LabelRow) (t : Step) → IsEntryLabel c Ends label → IsAfter c Ends label later → t.arc ≡ later.arc → t.enter ≡ label.value + seconds_of c label
        → t.leave ≡ later.value + seconds_of c later → 0 < seconds_waited airport class t
        → IsHeld airport others (segment_of label.arc) (min airport.horizon (label.value + seconds_of c label + c.clearance))
    after-held label later t entry is arc enter leave waits =
        let late : t.enter < later.value = omega (arith, leave, waits, waited-on airport class others later t arc) in
        let shut : last_of c (window_of label) ≡ t.enter = omega (arith, late, is.value, enter) in
        let by = entry-by label entry in
        elim (cases_Bool (eqb label.until airport.horizon)) [
          | inl at_end ↦ let end : airport.horizon ≡ t.enter = rw at_end at shut in absurd (omega (arith, end, late, (entry-by later is.entry).0))
          | inr inner ↦
              let end : label.until - c.clearance ≡ t.enter = rw inner at shut in
              let short : label.until < airport.horizon = omega (arith, window-by label entry.window, eqb-false label.until airport.horizon inner) in
              let same : min airport.horizon (label.value + seconds_of c label + c.clearance) ≡ label.until = omega (arith, end, enter, short, by.1 short) in
              subst (IsHeld airport others (segment_of label.arc)) (sym same) (held-after airport others (segment_of label.arc) (window_of label) entry.window short)
        ]

    held-from : (label : LabelRow) (enter : ℕ) (steps : List Step) → IsEntryLabel c Ends label → IsTracedFrom c Ends label enter steps → IsHeldFrom label enter steps
    held-from label enter _ entry (finish _ _ step is) =
        record { behind = tt; first = (refl, refl, refl); last = λ early short. ends-held label step entry is early short }
    held-from label enter _ entry (before _ later _ steps no_last is traced) =
        let rest = held-from later (label.value + seconds_of c label) steps is.one.entry traced in
        let s : Step = record { arc = label.arc; enter = enter; leave = label.value + seconds_of c label } in
        record {
          behind = behind-cons s steps
              (first-weaker (λ t. (t.arc ≡ later.arc) × (t.enter ≡ label.value + seconds_of c label) × (t.leave ≡ later.value + seconds_of c later)) (λ t. IsHeldBehind s t)
              (λ t h waits. after-held label later t entry is.one h.0 h.1 h.2 waits) steps rest.first) rest.behind;
          first = (refl, refl, refl);
          last = last-cons IsHeldAfter s steps rest.last;
        }

    -- ---- a picked route

    pub record IsHeldDeparture (steps : List Step) : Type 0 where
      pub behind : AreHeldBehind steps
      pub first : AtFirst (λ s. seconds_waited airport class s ≡ 0) steps
      pub last : AtLast IsHeldAfter steps

    pub departure-held : (from : Node) (steps : List Step) → IsPickedDeparture c Ends from steps → IsHeldDeparture steps
    departure-held from steps picked =
        let held = held-from picked.label picked.label.value steps picked.first.one.entry picked.traced in
        record {
          behind = held.behind;
          first = first-weaker (λ s. (s.arc ≡ picked.label.arc) × (s.enter ≡ picked.label.value) × (s.leave ≡ picked.label.value + seconds_of c picked.label)) (λ s. seconds_waited airport class s ≡ 0)
              (λ s h. omega (arith, h.1, h.2, waited-on airport class others picked.label s h.0)) steps held.first;
          last = held.last;
        }
