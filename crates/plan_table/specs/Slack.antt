-- How much later could a step be left, or a work party end?
use Rattle.std.specs.Prelude.{ℕ, ◌+◌, ◌-◌, ◌≤◌, ◌↔◌, ◌==◌, if◌then◌else◌}
use Rattle.taxi_base.specs.declared.rows.Step.{Step}
use Rattle.taxi_base.specs.declared.answers.Flight.{Flight}
use Rattle.taxi_base.specs.declared.answers.Party.{Party}
use Rattle.taxi_base.specs.Airport.{Airport}
use Rattle.taxi_base.specs.Walks.{IsFeasibleStep}
use Rattle.taxi_base.specs.State.{State, without, party_hold, conditions_of, IsFeasibleHold}

-- a step left so many seconds later, and a work party that ends so many seconds later
abbrev pub left_later : ℕ → Step → Step
left_later d step = record step { leave = step.leave + d }

abbrev pub ended_later : ℕ → Party → Party
ended_later d party = record party { until = party.until + d }

-- what could be any number of seconds up to its slack later, and not one more
abbrev pub IsSlack : (ℕ → Type 0) → ℕ → Type 0
IsSlack Could slack = (d : ℕ) → Could d ↔ (d ≤ slack)

-- the slack of a flight's step: left so much later it is still feasible among the other holders. The flight's own other steps do not count
abbrev pub IsStepSlack : Airport → State → Flight → Step → ℕ → Type 0
IsStepSlack airport state flight step = IsSlack (λ d. IsFeasibleStep (conditions_of airport state flight) (left_later d step))

-- the slack of a work party: its segment may be shut for so much longer among the other holders
abbrev pub IsPartySlack : Airport → State → Party → ℕ → Type 0
IsPartySlack airport state party = IsSlack (λ d. IsFeasibleHold airport (without party.name state) (party_hold (ended_later d party)))

-- the last second at which a step may be left whose segment is free up to then
abbrev pub latest_leave : ℕ → ℕ → ℕ → ℕ
latest_leave horizon clearance end = if end == horizon then horizon else end - clearance
