use Rattle.std.proofs.Common.{◌<◌, ◌∙◌, length, IfOk, MatchOption, sym, ap, subst}
use Rattle.taxi_base.specs.Airport.{Airport}
use Rattle.taxi_base.specs.State.{State}
use Rattle.taxi_text.specs.FirstLines.{lent}
use Rattle.taxi_text.specs.Lines.{commands_of}
use Rattle.taxi_engine.specs.Engine.{EngineState}
use Rattle.command_run.specs.Supplied.{IsRunBefore}
use Rattle.taxi_tools.specs.Outcomes.{IsExplanation}
use Rattle.taxi_tools.proofs.explanations.explanation.Goals as goal

-- the run before the line was at the airport that was given, and left in force what the ledger has
pub returns : goal.returns
returns c =
    let before = c.run_before-line in
    let parts = c.into_parts-airport in
    let commands = commands_of c.args.commands.now in
    let number = c.args.number in
    let kept = parts.ensures.airport ∙ before.ensures.airport in
    let begun = ap (λ (e : EngineState). e.airport) c.in_ok-engine.ensures in
    let run =
    subst (λ (state : State). IfOk before.result (λ next. IsRunBefore parts.result.0 commands number (lent next) state)) (sym parts.ensures.state)
    (subst (λ (airport : Airport). IfOk before.result (λ next. IsRunBefore airport commands number (lent next) before.new.router.state)) (sym kept) before.ensures.run) in
    subst (λ (airport : Airport). IfOk c.text_of_line-text.result (λ found. MatchOption found (length commands < number) (λ text. IsExplanation airport commands number text.items)))
    (kept ∙ begun) (c.text_of_line-text.ensures commands number c.requires run)
