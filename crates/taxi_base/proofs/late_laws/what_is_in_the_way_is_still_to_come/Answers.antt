use Rattle.taxi_base.proofs.BaseLaws.{steps-later, party-later}
use Rattle.taxi_base.proofs.late_laws.what_is_in_the_way_is_still_to_come.Goals as goal

pub returns-clause-steps : goal.returns-clause-steps
returns-clause-steps c = λ airport state delay flight step feasible is there other on meets. steps-later airport state delay feasible is flight there other step on meets

pub returns-clause-parties : goal.returns-clause-parties
returns-clause-parties c = λ airport state delay party feasible is there meets. party-later airport state delay feasible is party there meets
