-- What does a walk add to the values of cells? A value of a cell is a time at which a walk can leave it.
use Rattle.std.specs.Prelude.{◌≡◌, ℕ, ◌+◌, ◌≤◌, IsTrue, Option, Some, max}
use Rattle.label_core.specs.Walks.{Network, Start}

-- the soonest that cell c can be entered by what is ready at t
abbrev pub entry : {C : Type 0} → Network C → C → ℕ → ℕ
entry net c t = max t (net.from c)

-- a walk that begins in cell c leaves it at t at the soonest
pub record IsStartEntry {C : Type 0} (net : Network C) (starts : C → Option Start) (c : C) (t : ℕ) : Type 0 where
  pub start : Start
  pub here : starts c ≡ Some start
  pub value : t ≡ max start.exit_from (entry net c start.earliest + net.seconds c)
  pub not_late : entry net c start.earliest ≤ start.latest
  pub in_time : t ≤ net.last c

-- a walk that can leave cell c at v, and goes on by cell d, leaves d at t at the soonest
pub record IsExpansion {C : Type 0} (net : Network C) (c : C) (v : ℕ) (d : C) (t : ℕ) : Type 0 where
  pub by_turn : IsTrue (net.turn c d)
  pub value : t ≡ entry net d v + net.seconds d
  pub still_held : entry net d v ≤ net.last c
  pub in_time : t ≤ net.last d
