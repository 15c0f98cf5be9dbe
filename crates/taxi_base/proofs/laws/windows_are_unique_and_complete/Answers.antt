use Rattle.taxi_base.proofs.WindowLaws.{AreWindows-same, AreWindows-member, AreWindows-whole}
use Rattle.taxi_base.proofs.WindowsMade.{windows_before-are}
use Rattle.taxi_base.proofs.laws.windows_are_unique_and_complete.Goals as goal

pub returns-clause-made : goal.returns-clause-made
returns-clause-made c = windows_before-are

pub returns-clause-unique : goal.returns-clause-unique
returns-clause-unique c = AreWindows-same

pub returns-clause-sound : goal.returns-clause-sound
returns-clause-sound c = AreWindows-member

pub returns-clause-complete : goal.returns-clause-complete
returns-clause-complete c = AreWindows-whole
