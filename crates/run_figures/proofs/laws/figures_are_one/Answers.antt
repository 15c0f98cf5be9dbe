use Rattle.run_figures.proofs.OneText.{figures-one}
use Rattle.run_figures.proofs.laws.figures_are_one.Goals as goal

pub returns : goal.returns
returns c = figures-one
