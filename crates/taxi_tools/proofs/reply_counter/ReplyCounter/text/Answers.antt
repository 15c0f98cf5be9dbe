use Rattle.std.proofs.Common.{◌≡◌, IfOk, sym, subst}
use Rattle.taxi_base.specs.Airport.{Airport}
use Rattle.taxi_base.specs.State.{State}
use Rattle.commitments.specs.Book.{Fits}
use Rattle.plan_table.specs.Plan.{IsPlan}
use Rattle.run_figures.specs.Counts.{AreCounts}
use Rattle.run_figures.specs.Figures.{IsFigures}
use Rattle.checkpoint_file.specs.Lines.{checkpoint_text}
use Rattle.tool_words.specs.declared.words.RunTool.{RunTool}
use Rattle.taxi_tools.specs.Outcomes.{IsTextAfter}
use Rattle.taxi_tools.proofs.reply_counter.ReplyCounter.text.Goals as goal

pub write_plan-requires-clause-fits : goal.write_plan-requires-clause-fits
write_plan-requires-clause-fits c = subst (λ (a : Airport). Fits a c.ledger-ledger.result.now) (sym c.airport-airport.ensures.airport) c.ledger-ledger.ensures.fits

pub returns-in-Plan : goal.returns-in-Plan
returns-in-Plan c = λ blocks counts.
    let told = subst (λ (s : State). IfOk c.write_plan.result (λ text. IsPlan c.args.self.now.engine.airport s c.in-Plan.start text.items)) c.ledger-ledger.ensures.state
    (subst (λ (a : Airport). IfOk c.write_plan.result (λ text. IsPlan a c.ledger-ledger.result.now.state c.in-Plan.start text.items)) c.airport-airport.ensures.airport c.write_plan.ensures) in
    subst (λ (t : RunTool). IfOk c.write_plan.result (λ text. IsTextAfter c.args.self.now.engine.airport blocks c.args.self.now.engine.state t text.items)) (sym c.in-Plan.is) told

pub returns-in-Figures : goal.returns-in-Figures
returns-in-Figures c = λ blocks counts.
    let here = subst (λ (a : Airport). AreCounts a blocks c.args.self.now.counts) (sym c.airport-airport.ensures.airport) counts in
    let told = subst (λ (s : State). IfOk c.write_figures.result (λ text. IsFigures c.args.self.now.engine.airport blocks s text.items)) c.ledger-ledger.ensures.state
    (subst (λ (a : Airport). IfOk c.write_figures.result (λ text. IsFigures a blocks c.ledger-ledger.result.now.state text.items)) c.airport-airport.ensures.airport (c.write_figures.ensures blocks here)) in
    subst (λ (t : RunTool). IfOk c.write_figures.result (λ text. IsTextAfter c.args.self.now.engine.airport blocks c.args.self.now.engine.state t text.items)) (sym c.in-Figures.is) told

pub returns-in-Checkpoint : goal.returns-in-Checkpoint
returns-in-Checkpoint c = λ blocks counts.
    let told = subst (λ (s : State). IfOk c.write_checkpoint.result (λ text. text.items ≡ checkpoint_text c.args.self.now.engine.airport s)) c.ledger-ledger.ensures.state
    (subst (λ (a : Airport). IfOk c.write_checkpoint.result (λ text. text.items ≡ checkpoint_text a c.ledger-ledger.result.now.state)) c.airport-airport.ensures.airport c.write_checkpoint.ensures) in
    subst (λ (t : RunTool). IfOk c.write_checkpoint.result (λ text. IsTextAfter c.args.self.now.engine.airport blocks c.args.self.now.engine.state t text.items)) (sym c.in-Checkpoint.is) told
