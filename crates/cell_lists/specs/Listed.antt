-- Which network is a list of cells?
use Rattle.std.specs.Prelude.{ℕ, zero, suc, ◌+◌, ◌*◌, ◌/◌, ◌%◌, if◌then◌else◌, ◌^◌, ◌<◌, ◌≤◌, nat_le, nat_lt, Bool, false, ◌&&◌, ◌||◌, List, length, None, slice_index_or, IfSome}
use Rattle.std.specs.Option.{option_map}
use Rattle.label_search.specs.declared.cells.Run.{Run}
use Rattle.cell_lists.specs.declared.listed_cells.ListedCell.{ListedCell}
use Rattle.label_search.specs.Problem.{Problem, start_of}
use Rattle.label_search.specs.Backward.{BackwardProblem, finish_of}

-- what stands for a cell that isn't in the list
abbrev pub no_cell : ListedCell
no_cell = record {
  cell = record { from = 0; last = 0; seconds = 1 };
  opening = None;
  closing = None;
  is_goal = false;
  near = record { first = 0; until = 0 };
  far = record { first = 0; until = 0 };
}

abbrev pub cell_at : List ListedCell → ℕ → ListedCell
cell_at cells c = slice_index_or cells c no_cell

-- whether a run has the cell
abbrev pub run_has : Run → ℕ → Bool
run_has run c = nat_le run.first c && nat_lt c run.until

-- whether one of the two runs has the cell
abbrev pub is_beside : ListedCell → ℕ → Bool
is_beside x c = run_has x.near c || run_has x.far c

abbrev pub run_of : ListedCell → ℕ → Run
run_of x zero = x.near
run_of x (suc k) = x.far

-- the two runs of each cell, by their numbers
abbrev pub number_of : ℕ → ℕ → ℕ
number_of c zero = 2 * c
number_of c (suc k) = 2 * c + 1

abbrev pub numbered_run : List ListedCell → ℕ → Run
numbered_run cells n = run_of (cell_at cells (n / 2)) (n % 2)

-- a cell alone, and no cell if cell d is not beside it
abbrev pub run_alone : ℕ → Run
run_alone c = record { first = c; until = c + 1 }

abbrev pub run_if_beside : ListedCell → ℕ → ℕ → Run
run_if_beside x c d = record { first = c; until = if is_beside x d then c + 1 else c }

-- the cells in the runs may follow
abbrev pub listed_problem : List ListedCell → Problem
listed_problem cells = record {
  network = record {
    from = λ c. (cell_at cells c).cell.from;
    last = λ c. (cell_at cells c).cell.last;
    seconds = λ c. (cell_at cells c).cell.seconds;
    turn = λ c d. is_beside (cell_at cells c) d;
  };
  starts = λ c. option_map start_of (cell_at cells c).opening;
  target = λ c. (cell_at cells c).is_goal;
  count = length cells;
  runs = λ c. 2;
  number = number_of;
  numbers = 2 * length cells;
  run = numbered_run cells;
  runs_before = λ d. length cells;
  run_before = λ d k. run_alone k;
  first_runs = 1;
  first_run = λ k. record { first = 0; until = length cells };
}

-- the cells in the runs may come before
abbrev pub listed_backward : List ListedCell → BackwardProblem
listed_backward cells = record {
  network = record {
    from = λ c. (cell_at cells c).cell.from;
    last = λ c. (cell_at cells c).cell.last;
    seconds = λ c. (cell_at cells c).cell.seconds;
    turn = λ c d. is_beside (cell_at cells d) c;
  };
  finishes = λ c. option_map finish_of (cell_at cells c).closing;
  source = λ c. (cell_at cells c).is_goal;
  count = length cells;
  runs = λ c. 2;
  number = number_of;
  numbers = 2 * length cells;
  run = numbered_run cells;
  runs_after = λ c. length cells;
  run_after = λ c k. run_alone k;
  last_runs = 1;
  last_run = λ k. record { first = 0; until = length cells };
}

-- the cell takes a second or longer, its times are small, and its runs are of the first n cells
pub record IsFit (n : ℕ) (x : ListedCell) : Type 0 where
  pub takes : 1 ≤ x.cell.seconds
  pub small_seconds : x.cell.seconds < 2 ^ 31
  pub small_from : x.cell.from < 2 ^ 31
  pub small_last : x.cell.last < 2 ^ 31
  pub small_closing : IfSome x.closing (λ f. f.earliest_out < 2 ^ 31)
  pub near_inside : x.near.until ≤ n
  pub far_inside : x.far.until ≤ n
