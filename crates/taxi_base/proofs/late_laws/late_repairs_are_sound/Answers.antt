use Rattle.taxi_base.proofs.LateLaws.{repaired-sound}
use Rattle.taxi_base.proofs.StayLaws.{repaired-flight, repaired-party, repaired-keeps}
use Rattle.taxi_base.proofs.late_laws.late_repairs_are_sound.Goals as goal

pub returns-clause-sound : goal.returns-clause-sound
returns-clause-sound c = λ airport state after delay meetings tells sound is repaired. repaired-sound airport state delay sound meetings tells after is repaired

pub returns-clause-flights : goal.returns-clause-flights
returns-clause-flights c = λ airport state after delay meetings tells flight sound is repaired. repaired-flight airport state delay sound meetings tells after is repaired flight

pub returns-clause-parties : goal.returns-clause-parties
returns-clause-parties c = λ airport state after delay meetings tells party sound is repaired. repaired-party airport state delay sound meetings tells after is repaired party

pub returns-clause-entered : goal.returns-clause-entered
returns-clause-entered c = λ airport state after delay meetings tells flight begun sound is repaired. repaired-keeps airport state delay sound meetings tells after is repaired flight begun
