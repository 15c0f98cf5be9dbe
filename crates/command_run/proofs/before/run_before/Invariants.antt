use Rattle.std.proofs.Common.{◌≡◌, ◌≤◌}
use Rattle.taxi_text.specs.Lines.{lines_of, lines_left}
use Rattle.command_run.proofs.Supplied.{AreBefore, IsKeptSoFar}
use Rattle.command_run.proofs.before.run_before.Given as goal

-- the commands among the lines before this one are answered
abbrev pub invariant-loop-line : goal.invariant-loop-line
invariant-loop-line g l =
    record {
      can : (goal.iterator-loop-line g).can_next l.line-iterator;
      finite : (goal.iterator-loop-line g).is_finite l.line-iterator;
      airport : g.R.Router.airport l.router ≡ g.R.Router.airport l.initial.router;
      so_far : IsKeptSoFar (g.R.Router.airport l.initial.router) (lines_of l.fn.commands) (lines_left l.line-iterator) (g.R.Router.state l.router) (AreBefore l.next);
      within : l.next ≤ l.fn.number;
    }
