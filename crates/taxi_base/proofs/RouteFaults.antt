-- The first fault of a route, step by step.
use Rattle.std.proofs.Common.{◌≡◌, ℕ, suc, ◌+◌, ◌<◌, ◌≤◌, true, false, List, length, get_or, drop, Option, Some, None, refl, ap, ◌∙◌, arith}
use Rattle.std.specs.Prelude.{nat_lt}
use Rattle.std.specs.Option.{option_map_or}
use Rattle.std.proofs.lemmas.Bool.{false_from_ne_true, ltb-true}
use Rattle.std.proofs.Math.ListN.{drop_of_length-le}
use Rattle.std.proofs.Math.Seq.{drop-cons}
use Rattle.taxi_base.specs.declared.numbers.Arc.{Arc}
use Rattle.taxi_base.specs.declared.numbers.Class.{Class}
use Rattle.taxi_base.specs.declared.rows.Step.{Step}
use Rattle.taxi_base.specs.declared.answers.StepCause.{StepCause}
use Rattle.taxi_base.specs.declared.answers.StepFault.{StepFault}
use Rattle.taxi_base.specs.Airport.{Airport, segment_of, seconds}
use Rattle.taxi_base.specs.State.{State}
use Rattle.taxi_base.specs.Faults.{may_follow, taken_cause, cause_of, fault_after, route_fault}

module _ (airport : Airport) (class : Class) (state : State) where
  -- a step that is neither barred, nor too short, nor past the horizon, nor after a turn that is not permitted fails only
  -- where its segment is taken
  pub cause-taken : (before : Option Arc) (step : Step) (n : ℕ) → seconds airport class (segment_of step.arc) ≡ Some n
      → may_follow airport before step.arc ≡ true → nat_lt step.leave (step.enter + n) ≡ false → step.leave ≤ airport.horizon
      → cause_of airport class state before step ≡ taken_cause airport class state step
  cause-taken before step n least turn slow in_time =
      let early : nat_lt airport.horizon step.leave ≡ false = false_from_ne_true _ (λ e. absurd (omega (arith, ltb-true airport.horizon step.leave e))) in
      rw (least, turn, slow, early) refl

  abbrev fault : ℕ → StepCause → StepFault
  fault number cause = record { number = number; cause = cause }

  pub fault-start : (steps : List Step) → route_fault airport class state steps ≡ fault_after airport class state 1 None steps
  unfolding route_fault
  fault-start steps = refl

  pub fault-end : (number : ℕ) (before : Option Arc) (steps : List Step) (k : ℕ) → length steps ≤ k → fault_after airport class state number before (drop k steps) ≡ None
  fault-end number before steps k past = ap (fault_after airport class state number before) (drop_of_length-le steps past)

  pub fault-here : (number : ℕ) (before : Option Arc) (steps : List Step) (k : ℕ) (d : Step) (cause : StepCause) → k < length steps
      → cause_of airport class state before (get_or steps k d) ≡ Some cause
      → fault_after airport class state number before (drop k steps) ≡ Some (record { number = number; cause = cause })
  fault-here number before steps k d cause low fails =
      ap (fault_after airport class state number before) (drop-cons steps k d low)
      ∙ ap (λ (c : Option StepCause). option_map_or (λ cause. Some (fault number cause)) c (fault_after airport class state (number + 1) (Some (get_or steps k d).arc) (drop (suc k) steps))) fails
