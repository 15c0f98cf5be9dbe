-- Which problem has only the seconds up to one?
use Rattle.std.specs.Prelude.{ℕ, min}
use Rattle.label_core.specs.Walks.{Network}
use Rattle.label_search.specs.declared.cells.Cell.{Cell}
use Rattle.label_search.specs.Problem.{Problem}

-- no step may leave after the second
abbrev pub cut_network : ℕ → Network ℕ → Network ℕ
cut_network until net = record {
  from = net.from;
  last = λ c. min (net.last c) until;
  seconds = net.seconds;
  turn = net.turn;
}

-- a cell of which only the seconds up to one count
abbrev pub cut_cell : ℕ → Cell → Cell
cut_cell until cell = record { from = cell.from; last = min cell.last until; seconds = cell.seconds }

abbrev pub cut_problem : ℕ → Problem → Problem
cut_problem until p = record {
  network = cut_network until p.network;
  starts = p.starts;
  target = p.target;
  count = p.count;
  runs = p.runs;
  number = p.number;
  numbers = p.numbers;
  run = p.run;
  runs_before = p.runs_before;
  run_before = p.run_before;
  first_runs = p.first_runs;
  first_run = p.first_run;
}
