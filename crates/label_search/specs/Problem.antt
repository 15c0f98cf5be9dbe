-- What is a search asked? A network of numbered cells, how walks may begin, and where they shall end.
use Rattle.std.specs.Prelude.{◌≡◌, ℕ, ◌+◌, ◌^◌, ◌<◌, ◌≤◌, ◌⊎◌, Bool, IsTrue, Option, Some}
use Rattle.label_core.specs.Walks.{Network, Start}
use Rattle.label_core.specs.Labels.{entry, IsStartEntry}
use Rattle.label_search.specs.declared.cells.Cell.{Cell}
use Rattle.label_search.specs.declared.cells.Opening.{Opening}
use Rattle.label_search.specs.declared.cells.Run.{Run}

-- Cells are numbered below the count. Those that may follow a cell lie in its runs, of which it has so many. Runs are known by
-- numbers, and one number may be that of a run of many cells. Those that may come before a cell lie in its runs before, and those
-- in which walks may begin in the first runs.
pub record Problem : Type 0 where
  pub network : Network ℕ
  pub starts : ℕ → Option Start
  pub target : ℕ → Bool
  pub count : ℕ
  pub runs : ℕ → ℕ
  pub number : ℕ → ℕ → ℕ
  pub numbers : ℕ
  pub run : ℕ → Run
  pub runs_before : ℕ → ℕ
  pub run_before : ℕ → ℕ → Run
  pub first_runs : ℕ
  pub first_run : ℕ → Run

-- the cell is in the run
pub record IsIn (run : Run) (cell : ℕ) : Type 0 where
  pub from_first : run.first ≤ cell
  pub until_end : cell < run.until

-- the part is of cells of the whole run, and has each of those that are wanted
pub record IsPartWith (Wanted : ℕ → Type 0) (whole part : Run) : Type 0 where
  pub within : (c : ℕ) → IsIn part c → IsIn whole c
  pub wanted_in : (c : ℕ) → IsIn whole c → Wanted c → IsIn part c

-- a walk can begin in the cell
abbrev pub CanBegin : Problem → ℕ → Type 0
CanBegin p c = (t : ℕ) × IsStartEntry p.network p.starts c t

-- walks may come to the cell: one may begin there, or a turn leads to it
abbrev pub MayComeTo : Problem → ℕ → Type 0
MayComeTo p c = ((s : Start) × (p.starts c ≡ Some s)) ⊎ ((b : ℕ) × IsTrue (p.network.turn b c))

-- each cell takes a second or longer, times are small enough to be added, turns and starts are at cells below the count, and the
-- numbers of runs are below theirs
pub record IsProblem (p : Problem) : Type 0 where
  pub takes : (c : ℕ) → 1 ≤ p.network.seconds c
  pub small_seconds : (c : ℕ) → p.network.seconds c < 2 ^ 31
  pub small_last : (c : ℕ) → p.network.last c < 2 ^ 31
  pub turns_in_runs : (c d : ℕ) → IsTrue (p.network.turn c d) → (k : ℕ) × (k < p.runs c) × IsIn (p.run (p.number c k)) d
  pub turns_in_runs_before : (c d : ℕ) → IsTrue (p.network.turn c d) → (k : ℕ) × (k < p.runs_before d) × IsIn (p.run_before d k) c
  pub numbers_inside : (c k : ℕ) → c < p.count → k < p.runs c → p.number c k < p.numbers
  pub turns_inside : (c d : ℕ) → IsTrue (p.network.turn c d) → (c < p.count) × (d < p.count)
  pub starts_inside : (c : ℕ) (s : Start) → p.starts c ≡ Some s → c < p.count
  pub starts_in_runs : (c : ℕ) (s : Start) → p.starts c ≡ Some s → (k : ℕ) × (k < p.first_runs) × IsIn (p.first_run k) c
  pub first_runs_inside : (k : ℕ) → k < p.first_runs → (p.first_run k).until ≤ p.count

-- the cell as the network has it
abbrev pub cell_of : Network ℕ → ℕ → Cell
cell_of network c = record { from = network.from c; last = network.last c; seconds = network.seconds c }

abbrev pub start_of : Opening → Start
start_of o = record { earliest = o.earliest; latest = o.latest; exit_from = o.exit_from }

-- the part is of cells that may follow cell c, and has each cell of the whole run to which walks may go on, if what is ready at
-- `ready` can enter it until `last` and leave it in time
pub record IsPartOf (p : Problem) (c ready last : ℕ) (whole part : Run) : Type 0 where
  pub permitted : (d : ℕ) → IsIn part d → IsTrue (p.network.turn c d)
  pub wanted_in : (b d : ℕ) → IsIn whole d → IsTrue (p.network.turn b d) → entry p.network d ready ≤ last
      → entry p.network d ready + p.network.seconds d ≤ p.network.last d → IsIn part d

-- the part is of cells that may come before cell d, and has each of the whole run in whose window the second is
pub record IsPartBefore (p : Problem) (d second : ℕ) (whole part : Run) : Type 0 where
  pub permitted : (c : ℕ) → IsIn part c → IsTrue (p.network.turn c d)
  pub open_in : (c : ℕ) → IsIn whole c → IsTrue (p.network.turn c d) → p.network.from c ≤ second → second ≤ p.network.last c → IsIn part c
