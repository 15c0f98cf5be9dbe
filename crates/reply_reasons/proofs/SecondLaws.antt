-- Who is in the way at a second: what is told of a segment that may not be shut for that second alone.
use Rattle.std.proofs.Common.{◌≡◌, ℕ, ◌+◌, ◌<◌, ◌≤◌, false, nat_lt, nat_le, List, length, Option, Some, None, option_map, refl, ap, arith, inl, inr}
use Rattle.std.proofs.lemmas.Bool.{cases_Bool, lt-ltb, le-ltb, lt-leb}
use Rattle.taxi_base.specs.declared.numbers.Segment.{Segment}
use Rattle.taxi_base.specs.declared.rows.Span.{Span}
use Rattle.taxi_base.specs.declared.answers.StepCause.{StepCause}
use Rattle.taxi_base.specs.declared.answers.StepCause.TheVariants.{Taken}
use Rattle.taxi_base.specs.declared.answers.StepFault.{StepFault}
use Rattle.taxi_base.specs.Airport.{Airport}
use Rattle.taxi_base.specs.Walks.{free_among}
use Rattle.taxi_base.specs.State.{State, holds_in}
use Rattle.taxi_base.specs.Faults.{holder_at, first_taken, hold_fault}
use Rattle.taxi_base.proofs.FaultLaws.{first_taken-None, first_taken-at}
use Rattle.reply_reasons.specs.InTheWay.{in_the_way}

abbrev taken_then : ℕ → List ℕ → StepFault
taken_then t name = record { number = 1; cause = Taken t name }

told-alike : (t : ℕ) (o : Option (List ℕ)) → option_map (λ cause. record { number = 1; cause = cause }) (option_map (λ name. Taken t name) o) ≡ option_map (taken_then t) o
told-alike t None = refl
told-alike t (Some name) = refl

module _ (airport : Airport) (state : State) (s : Segment) (t : ℕ) where
  abbrev this_second : Span
  this_second = record { from = t; until = t + 1 }

  -- no holder is in the way where there is no such segment, or no such second
  pub no-segment : length airport.segments ≤ s.0 → in_the_way airport state s t ≡ None
  unfolding in_the_way
  no-segment past = rw (le-ltb s.0 (length airport.segments) past) refl

  pub no-second : s.0 < length airport.segments → airport.horizon ≤ t → in_the_way airport state s t ≡ None
  unfolding in_the_way
  no-second on past = rw (lt-ltb s.0 (length airport.segments) on, le-ltb t airport.horizon past) refl

  -- why the segment may not be shut for the second
  pub at-second : s.0 < length airport.segments → t < airport.horizon
      → hold_fault airport state (record { segment = s; span = this_second }) ≡ option_map (taken_then t) (in_the_way airport state s t)
  unfolding hold_fault in_the_way
  at-second on in_time =
      let some : nat_le (t + 1) t ≡ false = lt-leb (t + 1) t (omega arith) in
      let early : nat_lt airport.horizon (t + 1) ≡ false = le-ltb airport.horizon (t + 1) (omega arith) in
      elim (cases_Bool (free_among airport (holds_in airport state) s t)) [
        | inl unheld ↦
            let none : first_taken (free_among airport (holds_in airport state) s) this_second ≡ None =
            (first_taken-None (free_among airport (holds_in airport state) s) this_second).1 (λ u low high. let e : u ≡ t = omega arith in rw e unheld) in
            rw (some, early, none, unheld, lt-ltb s.0 (length airport.segments) on, lt-ltb t airport.horizon in_time) refl
        | inr held ↦
            let first : first_taken (free_among airport (holds_in airport state) s) this_second ≡ Some t =
            first_taken-at (free_among airport (holds_in airport state) s) this_second t (omega arith) (omega arith) held (λ u low high. absurd (omega arith)) in
            rw (some, early, first, held, lt-ltb s.0 (length airport.segments) on, lt-ltb t airport.horizon in_time) (told-alike t (holder_at airport state s t))
      ]

-- ---- what was told

pub told-none : (t : ℕ) (o : Option (List ℕ)) → None ≡ option_map (taken_then t) o → o ≡ None
told-none t None e = refl
told-none t (Some name) e = absurd (cc e)

pub told-some : (t : ℕ) (o : Option (List ℕ)) (fault : StepFault) → Some fault ≡ option_map (taken_then t) o → (name : List ℕ) × (o ≡ Some name) × (fault.cause ≡ Taken t name)
told-some t None fault e = absurd (cc e)
told-some t (Some name) fault e = let same : fault ≡ taken_then t name = cc e in (name, refl, ap (λ (f : StepFault). f.cause) same)

-- the holder that is told is the one that was found
pub same-holder : (t : ℕ) (name : List ℕ) (at : ℕ) (by : List ℕ) → ◌≡◌ {A = StepCause} (Taken t name) (Taken at by) → ◌≡◌ {A = Option (List ℕ)} (Some name) (Some by)
same-holder t name at by e = cc e
