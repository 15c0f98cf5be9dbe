use Rattle.taxi_base.specs.Late.{base_state}
use Rattle.taxi_base.proofs.StateLaws.{IsClashFree-feasible}
use Rattle.taxi_base.proofs.BaseLaws.{base-feasible}
use Rattle.taxi_base.proofs.late_laws.base_states_are_feasible.Goals as goal

pub returns-clause-feasible : goal.returns-clause-feasible
returns-clause-feasible c = base-feasible

pub returns-clause-clash_free : goal.returns-clause-clash_free
returns-clause-clash_free c = λ airport state delay feasible is. IsClashFree-feasible airport (base_state airport state delay) (base-feasible airport state delay feasible is)
