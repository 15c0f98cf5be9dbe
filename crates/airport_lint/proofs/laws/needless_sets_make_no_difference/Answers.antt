use Rattle.airport_lint.proofs.SetLaws.{needed-conflict}
use Rattle.airport_lint.proofs.laws.needless_sets_make_no_difference.Goals as goal

pub returns : goal.returns
returns c = needed-conflict
