-- The flight that is said to be late, and its step.
use Rattle.std.proofs.Common.{◌≡◌, ℕ, List, Some}
use Rattle.taxi_base.specs.declared.rows.Step.{Step}
use Rattle.taxi_base.specs.declared.answers.Flight.{Flight}
use Rattle.taxi_base.specs.State.{State, flight_named, step_begun}
use Rattle.taxi_base.specs.Late.{Delay}
use Rattle.replies.specs.Repairs.{delay_of}

-- the flight of that name, on the step that it has begun, makes the delay that is known
pub delay-whole : (state : State) (name : List ℕ) (time until : ℕ) (delay : Delay) → delay_of state name time until ≡ Some delay → (x : Flight) → flight_named name state.flights ≡ Some x
    → (begun : Step) → step_begun time x.steps ≡ Some begun → record { flight = x; begun = begun; time = time; until = until } ≡ delay
delay-whole state name time until delay known x found begun e = same (rw (found, e) at known) where
  same : {a b : Delay} → Some a ≡ Some b → a ≡ b
  same h = cc
