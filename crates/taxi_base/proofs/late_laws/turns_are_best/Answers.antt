use Rattle.taxi_base.proofs.TurnLaws.{turn-best}
use Rattle.taxi_base.proofs.late_laws.turns_are_best.Goals as goal

pub returns : goal.returns
returns c = turn-best
