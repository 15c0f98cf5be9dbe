-- What is a search backward asked? A network of numbered cells, how walks may end, and where they shall begin.
use Rattle.std.specs.Prelude.{◌≡◌, ℕ, ◌^◌, ◌+◌, ◌-◌, ◌<◌, ◌≤◌, ◌⊎◌, min, Bool, IsTrue, Option, Some}
use Rattle.label_core.specs.Walks.{Network}
use Rattle.label_core.specs.BackwardWalks.{Finish}
use Rattle.label_core.specs.BackwardLabels.{IsFinishEntry}
use Rattle.label_core.specs.Mirror.{mirror_network, mirror_starts}
use Rattle.label_search.specs.declared.cells.Cell.{Cell}
use Rattle.label_search.specs.declared.cells.Closing.{Closing}
use Rattle.label_search.specs.declared.cells.Run.{Run}
use Rattle.label_search.specs.declared.values.CellValue.{CellValue}
use Rattle.label_search.specs.declared.pick.CellStep.{CellStep}
use Rattle.label_search.specs.Problem.{Problem, IsIn}

-- Cells are numbered below the count. Those that may come before a cell lie in its runs, of which it has so many. Runs are known
-- by numbers, and one number may be that of a run of many cells. Those that may follow a cell lie in its runs after, and those in
-- which walks may end in the last runs.
pub record BackwardProblem : Type 0 where
  pub network : Network ℕ
  pub finishes : ℕ → Option Finish
  pub source : ℕ → Bool
  pub count : ℕ
  pub runs : ℕ → ℕ
  pub number : ℕ → ℕ → ℕ
  pub numbers : ℕ
  pub run : ℕ → Run
  pub runs_after : ℕ → ℕ
  pub run_after : ℕ → ℕ → Run
  pub last_runs : ℕ
  pub last_run : ℕ → Run

-- each cell takes a second or longer, times are small enough to be mirrored and added, turns and finishes are at cells below the
-- count, and the numbers of runs are below theirs
pub record IsBackwardProblem (b : BackwardProblem) : Type 0 where
  pub takes : (c : ℕ) → 1 ≤ b.network.seconds c
  pub small_seconds : (c : ℕ) → b.network.seconds c < 2 ^ 31
  pub small_from : (c : ℕ) → b.network.from c < 2 ^ 31
  pub small_last : (c : ℕ) → b.network.last c < 2 ^ 31
  pub small_finishes : (c : ℕ) (f : Finish) → b.finishes c ≡ Some f → f.earliest_out < 2 ^ 31
  pub turns_in_runs : (c d : ℕ) → IsTrue (b.network.turn c d) → (k : ℕ) × (k < b.runs d) × IsIn (b.run (b.number d k)) c
  pub turns_in_runs_after : (c d : ℕ) → IsTrue (b.network.turn c d) → (k : ℕ) × (k < b.runs_after c) × IsIn (b.run_after c k) d
  pub numbers_inside : (c k : ℕ) → c < b.count → k < b.runs c → b.number c k < b.numbers
  pub turns_inside : (c d : ℕ) → IsTrue (b.network.turn c d) → (c < b.count) × (d < b.count)
  pub finishes_inside : (c : ℕ) (f : Finish) → b.finishes c ≡ Some f → c < b.count
  pub finishes_in_runs : (c : ℕ) (f : Finish) → b.finishes c ≡ Some f → (k : ℕ) × (k < b.last_runs) × IsIn (b.last_run k) c
  pub last_runs_inside : (k : ℕ) → k < b.last_runs → (b.last_run k).until ≤ b.count

-- walks may go on from the cell: one may end there, or it has a turn
abbrev pub MayGoFrom : BackwardProblem → ℕ → Type 0
MayGoFrom b c = ((f : Finish) × (b.finishes c ≡ Some f)) ⊎ ((d : ℕ) × IsTrue (b.network.turn c d))

-- a walk can end in the cell
abbrev pub CanEnd : BackwardProblem → ℕ → Type 0
CanEnd b c = (t : ℕ) × IsFinishEntry b.network b.finishes c t

abbrev pub finish_of : Closing → Finish
finish_of o = record { earliest_out = o.earliest_out; latest_out = o.latest_out }

-- the part is of cells that may come before cell d, and has each cell of the whole run from which walks may come, if it can be
-- left from `from` on for what is entered by `ready`, and entered in its window
pub record IsBackwardPartOf (b : BackwardProblem) (d ready from : ℕ) (whole part : Run) : Type 0 where
  pub permitted : (c : ℕ) → IsIn part c → IsTrue (b.network.turn c d)
  pub wanted_in : (c e : ℕ) → IsIn whole c → IsTrue (b.network.turn c e) → from ≤ min ready (b.network.last c)
      → b.network.from c + b.network.seconds c ≤ min ready (b.network.last c) → IsIn part c

-- the part is of cells that may follow cell c, and has each of the whole run in whose window the second is
pub record IsPartAfter (b : BackwardProblem) (c second : ℕ) (whole part : Run) : Type 0 where
  pub permitted : (d : ℕ) → IsIn part d → IsTrue (b.network.turn c d)
  pub open_in : (d : ℕ) → IsIn whole d → IsTrue (b.network.turn c d) → b.network.from d ≤ second → second ≤ b.network.last d → IsIn part d

-- ---- the mirror

-- the second in which time is mirrored: the last that is small enough
abbrev pub mirror_second : ℕ
mirror_second = 2147483647

-- the problem in the mirror
abbrev pub mirror_problem : BackwardProblem → Problem
mirror_problem b = record {
  network = mirror_network mirror_second b.network;
  starts = mirror_starts mirror_second b.finishes;
  target = b.source;
  count = b.count;
  runs = b.runs;
  number = b.number;
  numbers = b.numbers;
  run = b.run;
  runs_before = b.runs_after;
  run_before = b.run_after;
  first_runs = b.last_runs;
  first_run = b.last_run;
}

-- a cell, a value, and a step, in the mirror
abbrev pub mirror_cell : Cell → Cell
mirror_cell cell = record { from = mirror_second - cell.last; last = mirror_second - cell.from; seconds = cell.seconds }

abbrev pub mirror_value : CellValue → CellValue
mirror_value row = record { cell = row.cell; value = mirror_second - row.value }

abbrev pub mirror_cell_step : CellStep → CellStep
mirror_cell_step s = record { cell = s.cell; enter = mirror_second - s.leave; leave = mirror_second - s.enter }
