-- What does a walk add at its front? A value of a cell is here a time at which a walk to a finish can enter it.
use Rattle.std.specs.Prelude.{◌≡◌, ℕ, ◌+◌, ◌≤◌, IsTrue, Option, Some, min}
use Rattle.label_core.specs.Walks.{Network}
use Rattle.label_core.specs.BackwardWalks.{Finish}

-- a walk that ends in cell c enters it at t at the latest
pub record IsFinishEntry {C : Type 0} (net : Network C) (finishes : C → Option Finish) (c : C) (t : ℕ) : Type 0 where
  pub finish : Finish
  pub here : finishes c ≡ Some finish
  pub value : t + net.seconds c ≡ min finish.latest_out (net.last c)
  pub not_early : finish.earliest_out ≤ min finish.latest_out (net.last c)
  pub in_window : net.from c ≤ t

-- a walk that can enter cell d at v, and comes to it by cell c, enters c at t at the latest
pub record IsExpansionBack {C : Type 0} (net : Network C) (d : C) (v : ℕ) (c : C) (t : ℕ) : Type 0 where
  pub by_turn : IsTrue (net.turn c d)
  pub value : t + net.seconds c ≡ min v (net.last c)
  pub already_held : net.from d ≤ min v (net.last c)
  pub in_window : net.from c ≤ t
