use Rattle.std.proofs.Common.{◌≡◌}
use Rattle.taxi_text.specs.Lines.{lines_of, lines_left}
use Rattle.generated_run.proofs.Counted.{IsCounted}
use Rattle.generated_run.proofs.run.count_replies.Given as goal

-- the commands among the lines before this one are answered and counted, and the checker has followed
abbrev pub invariant-loop-line : goal.invariant-loop-line
invariant-loop-line g l =
    record {
      can : (goal.iterator-loop-line g).can_next l.line-iterator;
      finite : (goal.iterator-loop-line g).is_finite l.line-iterator;
      router : g.R.Router.airport l.router ≡ l.fn.airport;
      checker : g.C.BlockChecker.airport l.checker ≡ l.fn.airport;
      same : g.C.BlockChecker.state l.checker ≡ g.R.Router.state l.router;
      so_far : IsCounted l.fn.airport (lines_of l.fn.commands) (lines_left l.line-iterator) (g.R.Router.state l.router) l.summary;
    }
