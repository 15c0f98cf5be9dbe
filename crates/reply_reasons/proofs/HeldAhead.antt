-- Whom an arrival waits for: the route that is picked waits on a step for the window of the next one to begin, and begins after its time for the
-- window of the first to begin.
use Rattle.std.proofs.Common.{◌≡◌, ◌∙◌, ℕ, ◌+◌, ◌-◌, ◌<◌, ◌≤◌, min, List, [], ◌∷◌, ◌++◌, Option, Some, inl, inr, refl, sym, ap, subst, arith}
use Rattle.std.specs.Prelude.{unwrap_or, IsSomeAnd, ⊤}
use Rattle.std.proofs.lemmas.Bool.{cases_lt}
use Rattle.taxi_base.specs.declared.numbers.Arc.{Arc}
use Rattle.taxi_base.specs.declared.numbers.Class.{Class}
use Rattle.taxi_base.specs.declared.numbers.Node.{Node}
use Rattle.taxi_base.specs.declared.rows.LabelRow.{LabelRow}
use Rattle.taxi_base.specs.declared.rows.Step.{Step}
use Rattle.taxi_base.specs.Airport.{Airport, layout_of, segment_of, seconds}
use Rattle.taxi_base.specs.Windows.{IsWindow}
use Rattle.taxi_base.specs.Walks.{Conditions, IsFeasibleStep, AtFirst, AtLast, end_of, IsRoute, LeavesNodeWithin}
use Rattle.taxi_base.specs.Labels.{window_of, IsStepOf, IsExitLabel, seconds_of, IsFirstStep, IsBefore, IsTracedTo, begin, after, IsPickedArrival}
use Rattle.taxi_base.specs.State.{State}
use Rattle.taxi_base.specs.Faults.{conditions_in}
use Rattle.taxi_base.proofs.WalkLaws.{IsSomeAnd-value, IsFree-inside, AtLast-weaker}
use Rattle.reply_reasons.specs.Waits.{seconds_waited}
use Rattle.reply_reasons.proofs.HeldSeconds.{IsHeld, held-before}

-- ---- one step more at the end

last-push : (P : Step → Type 0) (steps : List Step) (x : Step) → P x → AtLast P (steps ++ x ∷ [])
last-push P [] x p = p
last-push P (s ∷ []) x p = p
last-push P (s ∷ t ∷ steps) x p = last-push P (t ∷ steps) x p

first-push : (P : Step → Type 0) (steps : List Step) (x : Step) → AtFirst P steps → AtFirst P (steps ++ x ∷ [])
first-push P [] x p = absurd p
first-push P (s ∷ steps) x p = p

module _ (airport : Airport) (class : Class) (others : State) where
  abbrev c : Conditions
  c = conditions_in airport class others

  -- where a step waits, the segment of the next is held in its last second there
  abbrev pub IsHeldAhead : Step → Step → Type 0
  IsHeldAhead s next = 0 < seconds_waited airport class s → IsHeld airport others (segment_of next.arc) (s.leave - 1)

  abbrev pub AreHeldAhead : List Step → Type 0
  AreHeldAhead [] = ⊤
  AreHeldAhead (s ∷ []) = ⊤
  AreHeldAhead (s ∷ t ∷ steps) = IsHeldAhead s t × AreHeldAhead (t ∷ steps)

  ahead-push : (steps : List Step) (x : Step) → AreHeldAhead steps → AtLast (λ s. IsHeldAhead s x) steps → AreHeldAhead (steps ++ x ∷ [])
  ahead-push [] x held last = absurd last
  ahead-push (s ∷ []) x held last = (last, tt)
  ahead-push (s ∷ t ∷ steps) x held last = (held.0, ahead-push (t ∷ steps) x held.1 last)

  -- a step by a label's arc waits for as long as it takes more than the label's seconds
  pub waited-on : (label : LabelRow) (s : Step) → s.arc ≡ label.arc → seconds_waited airport class s ≡ s.leave - s.enter - seconds_of c label
  waited-on label s arc = ap (λ (a : Arc). s.leave - s.enter - unwrap_or (seconds airport class (segment_of a)) 0) arc

  module _ (from : Node) (earliest latest : ℕ) where
    abbrev Begins : Step → Type 0
    Begins = LeavesNodeWithin (layout_of airport) from earliest latest

    -- ---- the first step

    module _ (label : LabelRow) (step : Step) (exit : IsExitLabel c Begins label) (first : IsFirstStep c Begins label step) where
      made : IsFeasibleStep c step
      made = first.route.walk

      here : IsWindow (c.free (segment_of step.arc)) (window_of label)
      here = subst (λ (x : Arc). IsWindow (c.free (segment_of x)) (window_of label)) (sym first.route.ends.0) exit.window

      timed : (n : ℕ) × (seconds airport class (segment_of step.arc) ≡ Some n) × (step.enter + n ≤ step.leave)
      timed = IsSomeAnd-value (seconds airport class (segment_of step.arc)) (λ n. step.enter + n ≤ step.leave) made.lasts

      timed-as : seconds_of c label ≡ timed.0
      timed-as = ap (λ (a : Arc). unwrap_or (seconds airport class (segment_of a)) 0) (sym first.route.ends.0) ∙ ap (λ (o : Option ℕ). unwrap_or o 0) timed.1

      -- no other step by the arc inside the window leaves sooner
      none-sooner : (enter leave : ℕ) → earliest ≤ enter → enter ≤ latest → enter + seconds_of c label ≤ leave → leave ≤ airport.horizon → label.from ≤ enter
          → min airport.horizon (leave + c.clearance) ≤ label.until → label.value ≤ leave
      none-sooner enter leave low high lasts in_time since until =
          let other : Step = record { arc = step.arc; enter = enter; leave = leave } in
          let other_made : IsFeasibleStep c other = record {
            on_arc = made.on_arc;
            lasts = subst (λ o. IsSomeAnd o (λ k. enter + k ≤ leave)) (sym timed.1) (omega (arith, lasts, timed-as));
            in_time = in_time;
            free = IsFree-inside c (window_of label) other here (since, until);
          } in
          let route : IsRoute c Begins (IsStepOf c label) (other ∷ []) =
          record { walk = other_made; begins = record { leaves = first.route.begins.leaves; not_before = low; not_after = high }; ends = (first.route.ends.0, (since, until)) } in
          let least : end_of exit.value.0 ≤ leave = exit.value.1.earliest (other ∷ []) route in
          let value : end_of exit.value.0 ≡ label.value = exit.value.2 in
          omega (arith, least, value)

      -- it takes no more than the class's time
      takes-least : label.value ≤ step.enter + seconds_of c label
      takes-least =
          let inside = first.route.ends.1 in
          none-sooner step.enter (step.enter + seconds_of c label) first.route.begins.not_before first.route.begins.not_after (omega arith) (omega (arith, timed.2, timed-as, made.in_time)) inside.0
          (omega (arith, timed.2, timed-as, inside.1))

      -- where it might begin sooner its segment is held a second before
      begins-held : earliest < step.enter → IsHeld airport others (segment_of step.arc) (step.enter - 1)
      begins-held late =
          let inside = first.route.ends.1 in
          elim (cases_lt label.from step.enter) [
            | inl inner ↦
                let sooner : label.value ≤ step.leave - 1 = none-sooner (step.enter - 1) (step.leave - 1) (omega arith) (omega (arith, first.route.begins.not_after))
                (omega (arith, timed.2, timed-as)) (omega (arith, made.in_time)) (omega arith) (omega (arith, inside.1)) in
                absurd (omega (arith, sooner, first.value, timed.2, late))
            | inr outer ↦ held-before airport others (segment_of step.arc) (window_of label) here (step.enter - 1) (omega (arith, late, inside.0, outer))
          ]

    -- ---- the steps to a label

    record IsHeldTo (label : LabelRow) (leave : ℕ) (steps : List Step) : Type 0 where
      ahead : AreHeldAhead steps
      first : AtFirst (λ s. earliest < s.enter → IsHeld airport others (segment_of s.arc) (s.enter - 1)) steps
      last : AtLast (λ s. (s.arc ≡ label.arc) × (s.leave ≡ leave) × (label.value ≤ s.enter + seconds_of c label)) steps

    before-held : (label prior : LabelRow) (s : Step) → IsExitLabel c Begins label → IsBefore c Begins label prior → s.arc ≡ prior.arc → s.leave ≡ label.value - seconds_of c label
        → prior.value ≤ s.enter + seconds_of c prior → 0 < seconds_waited airport class s → IsHeld airport others (segment_of label.arc) (s.leave - 1)
    before-held label prior s exit is arc leave least waits =
        held-before airport others (segment_of label.arc) (window_of label) exit.window (s.leave - 1) (omega (arith, leave, least, waits, waited-on prior s arc, is.value))

    held-to : (label : LabelRow) (leave : ℕ) (steps : List Step) → IsExitLabel c Begins label → IsTracedTo c Begins label leave steps → IsHeldTo label leave steps
    held-to label leave _ exit (begin _ _ step is) =
        record { ahead = tt; first = begins-held label step exit is; last = (is.route.ends.0, refl, takes-least label step exit is) }
    held-to label leave _ exit (after _ prior _ steps no_first is traced) =
        let front = held-to prior (label.value - seconds_of c label) steps is.one.exit traced in
        let x : Step = record { arc = label.arc; enter = label.value - seconds_of c label; leave = leave } in
        record {
          ahead = ahead-push steps x front.ahead
              (AtLast-weaker (λ s. (s.arc ≡ prior.arc) × (s.leave ≡ label.value - seconds_of c label) × (prior.value ≤ s.enter + seconds_of c prior)) (λ s. IsHeldAhead s x)
              (λ s h waits. before-held label prior s exit is.one h.0 h.1 h.2 waits) steps front.last);
          first = first-push (λ s. earliest < s.enter → IsHeld airport others (segment_of s.arc) (s.enter - 1)) steps x front.first;
          last = last-push (λ s. (s.arc ≡ label.arc) × (s.leave ≡ leave) × (label.value ≤ s.enter + seconds_of c label)) steps x (refl, refl, omega arith);
        }

    -- ---- a picked route

    pub record IsHeldArrival (steps : List Step) : Type 0 where
      pub ahead : AreHeldAhead steps
      pub first : AtFirst (λ s. earliest < s.enter → IsHeld airport others (segment_of s.arc) (s.enter - 1)) steps
      pub last : AtLast (λ s. seconds_waited airport class s ≡ 0) steps

    pub arrival-held : (to : Node) (steps : List Step) → IsPickedArrival c Begins to steps → IsHeldArrival steps
    arrival-held to steps picked =
        let held = held-to picked.label picked.label.value steps picked.last.one.exit picked.traced in
        record {
          ahead = held.ahead;
          first = held.first;
          last = AtLast-weaker (λ s. (s.arc ≡ picked.label.arc) × (s.leave ≡ picked.label.value) × (picked.label.value ≤ s.enter + seconds_of c picked.label)) (λ s. seconds_waited airport class s ≡ 0)
              (λ s h. omega (arith, h.1, h.2, waited-on picked.label s h.0)) steps held.last;
        }
