use Rattle.std.proofs.Common.{IfOk, subst}
use Rattle.taxi_base.specs.Airport.{Airport}
use Rattle.taxi_text.specs.Lines.{commands_of}
use Rattle.taxi_tools.specs.Outcomes.{IsRunText}
use Rattle.taxi_tools.proofs.run_tools.run_text.Goals as goal

pub returns : goal.returns
returns c = subst (λ (a : Airport). IfOk c.text_of-text.result (λ text. IsRunText a (commands_of c.args.commands.now) c.args.tool.now text.items)) c.in_ok-counter.ensures.airport c.text_of-text.ensures
