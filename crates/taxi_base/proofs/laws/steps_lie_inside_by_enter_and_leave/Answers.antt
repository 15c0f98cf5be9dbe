use Rattle.taxi_base.proofs.WalkLaws.{IsInside-last}
use Rattle.taxi_base.proofs.laws.steps_lie_inside_by_enter_and_leave.Goals as goal

pub returns : goal.returns
returns c = IsInside-last
