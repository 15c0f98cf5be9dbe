use Rattle.airport_rules.proofs.WellFormed.{IsWellFormed-plan}
use Rattle.airport_rules.proofs.laws.well_formed_airports.Goals as goal

pub returns : goal.returns
returns c = IsWellFormed-plan
