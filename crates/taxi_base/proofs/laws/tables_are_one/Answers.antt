use Rattle.taxi_base.specs.Airport.{layout_of}
use Rattle.taxi_base.specs.Walks.{LeavesNodeWithin, ReachesNodeWithin, Resumes}
use Rattle.taxi_base.specs.Labels.{IsExitBefore, IsEntryAfter}
use Rattle.taxi_base.proofs.LabelLaws.{IsTable-same}
use Rattle.taxi_base.proofs.laws.tables_are_one.Goals as goal

pub returns-clause-leaving : goal.returns-clause-leaving
returns-clause-leaving _ = λ c from earliest latest bound. IsTable-same (IsExitBefore c (LeavesNodeWithin (layout_of c.airport) from earliest latest) bound)

pub returns-clause-resumed : goal.returns-clause-resumed
returns-clause-resumed _ = λ c begun exit_from bound. IsTable-same (IsExitBefore c (Resumes begun exit_from) bound)

pub returns-clause-reaching : goal.returns-clause-reaching
returns-clause-reaching _ = λ c to earliest latest bound. IsTable-same (IsEntryAfter c (ReachesNodeWithin (layout_of c.airport) to earliest latest) bound)
