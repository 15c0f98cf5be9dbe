use Rattle.std.proofs.Common.{◌≡◌, ◌≤◌, take, length}
use Rattle.command_run.specs.Supplied.{IsSuppliedRun}
use Rattle.engine_texts.specs.Log.{texts_of}
use Rattle.engine_texts.proofs.again.answer_all.Given as goal

-- the lines before this one are answered
abbrev pub invariant-loop-line : goal.invariant-loop-line
invariant-loop-line l =
    record {
      airport : l.engine.airport ≡ l.initial.engine.airport;
      within : l.line-index ≤ length l.fn.lines;
      run : IsSuppliedRun l.initial.engine.airport (texts_of (take l.line-index l.fn.lines)) l.engine.state;
    }
