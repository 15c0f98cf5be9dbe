use Rattle.std.proofs.Common.{◌≡◌, ◌∙◌, Bool, Some, IfOk, sym, ap, subst}
use Rattle.taxi_base.specs.Airport.{Airport}
use Rattle.taxi_base.specs.State.{State}
use Rattle.run_figures.specs.Counts.{AreCounts}
use Rattle.run_figures.specs.Figures.{IsFigures}
use Rattle.engine_texts.specs.Log.{lines_in}
use Rattle.engine_texts.specs.Session.{SessionState, log_of}
use Rattle.engine_texts.specs.Texts.{AreFigures}
use Rattle.engine_texts.proofs.Runs.{ok-map}
use Rattle.engine_texts.proofs.session.Session.figures.Goals as goal

-- the counts are of the run that left in force what the engine has
pub returns : goal.returns
returns c =
    let inside = c.self.inside in
    let engine = inside.engine in
    let whole = c.if-not-self.false in
    let run = (c.self.invariant.logged whole).run in
    let counts = subst (λ (a : Airport). AreCounts a run.run.blocks inside.log.counts) (sym c.airport.ensures.airport) run.kept in
    let told = subst (λ (s : State). IfOk c.write_figures.result (λ text. IsFigures engine.airport run.run.blocks s text.items)) c.ledger.ensures.state
    (subst (λ (a : Airport). IfOk c.write_figures.result (λ text. IsFigures a run.run.blocks c.ledger.result.now.state text.items)) c.airport.ensures.airport (c.write_figures.ensures run.run.blocks counts)) in
    let session : SessionState = record { engine = engine; log = log_of inside.whole (lines_in inside.log.lines); told = inside.told.items } in
    subst (λ (s : SessionState). IfOk c.write_figures.result (λ text. AreFigures s text.items)) c.self.view_is
    (ok-map c.write_figures.result (λ text. IsFigures engine.airport run.run.blocks engine.state text.items) (λ text. AreFigures session text.items)
    (λ text figures. record { commands = lines_in inside.log.lines; logged = ap (λ (w : Bool). log_of w (lines_in inside.log.lines)) whole; run = run.run; figures = figures }) told)
