use Rattle.airport_file.proofs.AcceptedLaws.{accepted-well}
use Rattle.airport_file.proofs.laws.accepted_airports_keep_the_rules.Goals as goal

pub returns : goal.returns
returns c = accepted-well
