use Rattle.std.proofs.Common.{◌≡◌}
use Rattle.taxi_text.specs.Lines.{lines_of, lines_left}
use Rattle.transcript_check.proofs.CheckLaws.{IsCheckedSoFar}
use Rattle.transcript_check.proofs.checking.check_transcript.Given as goal

-- the blocks of the commands before this line pass in turn, and the rest of the transcript stands behind them
abbrev pub invariant-loop-line : goal.invariant-loop-line
invariant-loop-line g l =
    record {
      can : (goal.iterator-loop-line g).can_next l.line-iterator;
      finite : (goal.iterator-loop-line g).is_finite l.line-iterator;
      airport : g.C.BlockChecker.airport l.checker ≡ l.fn.airport;
      so_far : IsCheckedSoFar l.fn.airport (lines_of l.fn.commands) (lines_left l.line-iterator) l.fn.transcript (g.C.BlockChecker.state l.checker) l.rest l.count;
    }
