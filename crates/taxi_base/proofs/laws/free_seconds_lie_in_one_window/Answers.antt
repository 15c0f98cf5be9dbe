use Rattle.taxi_base.proofs.WindowLaws.{window_around, IsWindow-same}
use Rattle.taxi_base.proofs.laws.free_seconds_lie_in_one_window.Goals as goal

pub returns-clause-one : goal.returns-clause-one
returns-clause-one c = window_around

pub returns-clause-only : goal.returns-clause-only
returns-clause-only c = IsWindow-same
