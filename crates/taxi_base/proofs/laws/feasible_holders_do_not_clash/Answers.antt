use Rattle.taxi_base.proofs.StateLaws.{IsClashFree-feasible, IsFeasibleState-without, IsSound-without}
use Rattle.taxi_base.proofs.laws.feasible_holders_do_not_clash.Goals as goal

pub returns-clause-clash_free : goal.returns-clause-clash_free
returns-clause-clash_free c = IsClashFree-feasible

pub returns-clause-feasible : goal.returns-clause-feasible
returns-clause-feasible c = IsFeasibleState-without

pub returns-clause-sound : goal.returns-clause-sound
returns-clause-sound c = IsSound-without
