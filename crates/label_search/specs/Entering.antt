-- Which cells can be those before a cell that is entered at a second?
use Rattle.std.specs.Prelude.{◌≡◌, ◌+◌, ◌<◌, ◌≤◌, ℕ, List, Option}
use Rattle.label_core.specs.Labels.{IsExpansion}
use Rattle.label_search.specs.declared.labels.Label.{Label}
use Rattle.label_search.specs.declared.pick.Entering.{Entering}
use Rattle.label_search.specs.Problem.{Problem}
use Rattle.label_search.specs.Labels.{HasValue}

-- when a walk leaves the cell that enters it so
abbrev pub leave_of : Problem → Entering → ℕ
leave_of p to = to.enter + p.network.seconds to.cell

-- the first second of the cell's window is told, and a walk that enters it so leaves it in time
pub record IsEntering (p : Problem) (to : Entering) : Type 0 where
  pub from : to.from ≡ p.network.from to.cell
  pub in_time : leave_of p to ≤ p.network.last to.cell

-- a walk by cell x, as its label says, can go on to enter the cell so
abbrev pub LeadsTo : Problem → List (Option Label) → Entering → ℕ → Type 0
LeadsTo p known to x = (u : ℕ) × HasValue known x u × IsExpansion p.network x u to.cell (leave_of p to)

-- the cell leads to it, and none that is wanted and does so is before it
pub record IsFirstOf (p : Problem) (known : List (Option Label)) (to : Entering) (Wanted : ℕ → Type 0) (first : ℕ) : Type 0 where
  pub leads : LeadsTo p known to first
  pub none_before : (x : ℕ) → x < first → Wanted x → LeadsTo p known to x → ⊥

-- no label is before the window of its cell
abbrev pub AreInWindows : Problem → List (Option Label) → Type 0
AreInWindows p known = (x u : ℕ) → HasValue known x u → p.network.from x ≤ u
