use Rattle.run_figures.proofs.Orderly.{all-orderly, least-taxied, holds-forward}
use Rattle.run_figures.proofs.laws.no_figure_is_negative.Goals as goal

pub returns : goal.returns
returns c = record { flights = all-orderly; sums = least-taxied; holds = holds-forward }
