use Rattle.taxi_base.proofs.StateLaws.{IsSound-with_flight, IsSound-with_party, IsSound-with_route}
use Rattle.taxi_base.proofs.laws.sound_states_stay_sound.Goals as goal

pub returns-clause-flight : goal.returns-clause-flight
returns-clause-flight c = IsSound-with_flight

pub returns-clause-party : goal.returns-clause-party
returns-clause-party c = IsSound-with_party

pub returns-clause-route : goal.returns-clause-route
returns-clause-route c = IsSound-with_route
