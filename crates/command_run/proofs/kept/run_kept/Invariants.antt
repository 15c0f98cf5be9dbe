use Rattle.std.proofs.Common.{◌≡◌}
use Rattle.taxi_text.specs.Lines.{lines_of, lines_left}
use Rattle.command_run.proofs.Supplied.{IsKeptSoFar}
use Rattle.command_run.proofs.kept.run_kept.Given as goal

-- the commands among the lines before this one are answered, and something is kept of their blocks
abbrev pub invariant-loop-line : goal.invariant-loop-line
invariant-loop-line g l =
    record {
      can : (goal.iterator-loop-line g).can_next l.line-iterator;
      finite : (goal.iterator-loop-line g).is_finite l.line-iterator;
      airport : g.K.Keeper.airport l.keeper ≡ g.K.Keeper.airport l.initial.keeper;
      so_far : IsKeptSoFar (g.K.Keeper.airport l.initial.keeper) (lines_of l.fn.commands) (lines_left l.line-iterator) (g.K.Keeper.state l.keeper) (g.K.Keeper.Kept l.keeper);
    }
