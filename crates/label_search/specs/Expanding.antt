-- What does it do to the labels that a cell is expanded?
use Rattle.std.specs.Prelude.{◌≡◌, ◌<◌, ◌≤◌, ◌^◌, ℕ, ◌⊎◌, length}
use Rattle.label_core.specs.Walks.{Network}
use Rattle.label_core.specs.Labels.{IsExpansion}
use Rattle.label_core.specs.Tables.{HasAsGood}
use Rattle.label_search.specs.declared.labels.Label.{Label}
use Rattle.label_search.specs.declared.expand.Ready.{Ready}
use Rattle.label_search.specs.Problem.{Problem}
use Rattle.label_search.specs.Labels.{Standing, HasValue, SameLengths, Same, WasOffered}

-- what cell c offers at the value
abbrev pub label_by : ℕ → ℕ → Label
label_by c value = record { value = value; via = c }

-- a cell was offered its expansion of cell c, which has value v
pub record WasExpandedTo (network : Network ℕ) (c v : ℕ) (old new : Standing) (d : ℕ) : Type 0 where
  pub value : ℕ
  pub expands : IsExpansion network c v d value
  pub offered : WasOffered old new d (label_by c value)

-- each cell was offered its expansion of cell c or stands as before, and those that are done have a label that is as good
pub record IsExpanded (network : Network ℕ) (c v : ℕ) (IsDone : ℕ → Type 0) (old new : Standing) : Type 0 where
  pub lengths : SameLengths old new
  pub each : (d : ℕ) → Same old new d ⊎ WasExpandedTo network c v old new d
  pub done : (d t : ℕ) → IsDone d → IsExpansion network c v d t → HasAsGood (HasValue new.known) d t

-- there are a place and a key for each of so many cells, or for more
pub record HasRoom (count : ℕ) (s : Standing) : Type 0 where
  pub known : count ≤ length s.known
  pub keys : count ≤ length s.keys

-- the cell is one of the problem, its last second is told, and the second at which it can be left is small
pub record IsReady (p : Problem) (from : Ready) : Type 0 where
  pub inside : from.cell < p.count
  pub last : from.last ≡ p.network.last from.cell
  pub small : from.at < 2 ^ 31
