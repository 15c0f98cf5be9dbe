use Rattle.std.proofs.Common.{ap, sym, subst, IfOk, IfErr}
use Rattle.std.proofs.lemmas.Result.{err_from_is_err_and}
use Rattle.taxi_base.specs.Airport.{Airport}
use Rattle.program_files.specs.Inputs.{commands_limit}
use Rattle.taxi_engine.specs.Engine.{EngineState}
use Rattle.command_run.specs.Answered.{IsWholeRun, IsStopped}
use Rattle.command_run.proofs.Blocks.{unread-run}
use Rattle.taxi_cli.proofs.routing.run_engine.Goals as goal

pub returns-in_err-engine-clause-stopped : goal.returns-in_err-engine-clause-stopped
returns-in_err-engine-clause-stopped g c =
    let stopped = err_from_is_err_and c.from_residual.result c.from_residual.ensures.1 in
    rw stopped.1
    (subst (IsStopped c.args.airport commands_limit (g.S.Shelf.rest c.args.shelf.now, g.S.Shelf.rest c.args.shelf.now) (g.S.Shelf.given c.args.shelf.now, g.S.Shelf.given c.args.shelf.now) (g.K.Sink.written c.args.out.now, g.K.Sink.written c.args.out.now)) (sym stopped.2)
    (unread-run c.args.airport commands_limit (g.S.Shelf.rest c.args.shelf.now) (g.K.Sink.written c.args.out.now)))

pub returns-clause-whole : goal.returns-clause-whole
returns-clause-whole g c =
    let same = ap (λ (e : EngineState). e.airport) c.in_ok-engine.ensures in
    subst (λ (a : Airport). IfOk c.run_commands-count.result (IsWholeRun a commands_limit (g.S.Shelf.rest c.args.shelf.now, g.S.Shelf.rest c.run_commands-count.new.shelf) (g.K.Sink.written c.args.out.now, g.K.Sink.written c.run_commands-count.new.out)))
    same c.run_commands-count.ensures.whole

pub returns-clause-stopped : goal.returns-clause-stopped
returns-clause-stopped g c =
    let same = ap (λ (e : EngineState). e.airport) c.in_ok-engine.ensures in
    subst (λ (a : Airport). IfErr c.run_commands-count.result (IsStopped a commands_limit (g.S.Shelf.rest c.args.shelf.now, g.S.Shelf.rest c.run_commands-count.new.shelf) (g.S.Shelf.given c.args.shelf.now, g.S.Shelf.given c.run_commands-count.new.shelf) (g.K.Sink.written c.args.out.now, g.K.Sink.written c.run_commands-count.new.out)))
    same c.run_commands-count.ensures.stopped
