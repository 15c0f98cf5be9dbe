use Rattle.taxi_base.proofs.WalkLaws.{conditions_in_windows-among, conditions_among-bounded}
use Rattle.taxi_base.proofs.laws.windows_stand_for_holds.Goals as goal

pub returns-clause-same : goal.returns-clause-same
returns-clause-same c = conditions_in_windows-among

pub returns-clause-bounded : goal.returns-clause-bounded
returns-clause-bounded c = conditions_among-bounded
