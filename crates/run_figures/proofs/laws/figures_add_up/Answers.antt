use Rattle.run_figures.proofs.SumLaws.{replies-sum, refusals-sum, waits-sum}
use Rattle.run_figures.proofs.laws.figures_add_up.Goals as goal

pub returns : goal.returns
returns c = record { replies = replies-sum; refusals = refusals-sum; waits = waits-sum }
