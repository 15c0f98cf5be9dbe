use Rattle.std.proofs.Common.{ℕ, Result, Ok, Err, IfOk, IfErr, sym, ap, subst}
use Rattle.std.specs.Prelude.{IsErrOf}
use Rattle.std.proofs.lemmas.Result.{err_from_is_err_and}
use Rattle.taxi_base.specs.Airport.{Airport}
use Rattle.program_files.specs.Inputs.{commands_limit}
use Rattle.command_run.specs.declared.refused.RunRefused.{RunRefused}
use Rattle.command_run.specs.declared.refused.RunRefused.TheVariants as refused
use Rattle.command_run.specs.HowFar.{Told, Pieces, Outputs}
use Rattle.command_run.specs.Told.{IsWholeTold, IsStoppedTold, IsPromptTold}
use Rattle.command_run.proofs.Told.{unread-cut}
use Rattle.taxi_tools.specs.Objects.{object_of}
use Rattle.taxi_tools.specs.RunEnds.{AreStopped}
use Rattle.taxi_tools.proofs.objects.run_teller.Goals as goal

pub returns-in_err-teller-clause-stopped : goal.returns-in_err-teller-clause-stopped
returns-in_err-teller-clause-stopped g c =
    let stopped = err_from_is_err_and c.from_residual.result c.from_residual.ensures.1 in
    let rest = g.S.Shelf.rest c.args.shelf.now in
    let given = g.S.Shelf.given c.args.shelf.now in
    let written = g.K.Sink.written c.args.out.now in
    rw stopped.1
    (subst (AreStopped c.args.airport commands_limit (rest, rest) (given, given) (written, written)) (sym stopped.2)
    (unread-cut object_of c.args.airport commands_limit rest written, λ e. absurd (cc e)))

pub returns-clause-whole : goal.returns-clause-whole
returns-clause-whole g c =
    subst (λ (a : Airport). IfOk c.run_told-count.result (IsWholeTold object_of a commands_limit (g.S.Shelf.rest c.args.shelf.now, g.S.Shelf.rest c.run_told-count.new.shelf) (g.K.Sink.written c.args.out.now, g.K.Sink.written c.run_told-count.new.out)))
    c.in_ok-teller.ensures.airport c.run_told-count.ensures.whole

-- with that a failed write is prompt
both : (airport : Airport) (limit : ℕ) (left : Told) (given : Pieces) (written : Outputs) (result : Result ℕ RunRefused) → IfErr result (IsStoppedTold object_of airport limit left written)
    → (IsErrOf result refused.WriteFault → IsPromptTold object_of airport left given written) → IfErr result (AreStopped airport limit left given written)
both airport limit left given written (Ok count) stopped prompt = tt
both airport limit left given written (Err why) stopped prompt = (stopped, λ is. prompt (ap Err is))

pub returns-clause-stopped : goal.returns-clause-stopped
returns-clause-stopped g c =
    let s = g.S.Shelf in
    let left : Told = (s.rest c.args.shelf.now, s.rest c.run_told-count.new.shelf) in
    let given : Pieces = (s.given c.args.shelf.now, s.given c.run_told-count.new.shelf) in
    let written : Outputs = (g.K.Sink.written c.args.out.now, g.K.Sink.written c.run_told-count.new.out) in
    subst (λ (a : Airport). IfErr c.run_told-count.result (AreStopped a commands_limit left given written)) c.in_ok-teller.ensures.airport
    (both _ commands_limit left given written c.run_told-count.result c.run_told-count.ensures.stopped c.run_told-count.ensures.pace)
