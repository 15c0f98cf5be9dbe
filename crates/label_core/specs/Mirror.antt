-- What is a network in a mirror of time? Second t is seen as k - t, the last step as the first, and a turn the
-- other way round.
use Rattle.std.specs.Prelude.{◌≡◌, ℕ, ◌-◌, ◌≤◌, List, Option, Some, reverse, map}
use Rattle.std.specs.Option.{option_map}
use Rattle.label_core.specs.Walks.{Network, Start, Step}
use Rattle.label_core.specs.BackwardWalks.{Finish}

-- the network in the mirror
abbrev pub mirror_network : {C : Type 0} → ℕ → Network C → Network C
mirror_network k net = record {
  from = λ c. k - net.last c;
  last = λ c. k - net.from c;
  seconds = net.seconds;
  turn = λ c d. net.turn d c;
}

-- the starts that the finishes are in the mirror
abbrev pub mirror_start : ℕ → Finish → Start
mirror_start k f = record { earliest = k - f.latest_out; latest = k - f.earliest_out; exit_from = 0 }

abbrev pub mirror_starts : {C : Type 0} → ℕ → (C → Option Finish) → C → Option Start
mirror_starts k finishes c = option_map (mirror_start k) (finishes c)

-- a step in the mirror
abbrev pub mirror_step : {C : Type 0} → ℕ → Step C → Step C
mirror_step k s = record { cell = s.cell; enter = k - s.leave; leave = k - s.enter }

-- a walk in the mirror, its last step first
abbrev pub mirror_walk : {C : Type 0} → ℕ → List (Step C) → List (Step C)
mirror_walk k walk = reverse (map (mirror_step k) walk)

-- all times of the network and of the finishes are k at most
pub record IsUpTo {C : Type 0} (k : ℕ) (net : Network C) (finishes : C → Option Finish) : Type 0 where
  pub windows_from : (c : C) → net.from c ≤ k
  pub windows_last : (c : C) → net.last c ≤ k
  pub finishes_by : (c : C) (f : Finish) → finishes c ≡ Some f → f.earliest_out ≤ k
