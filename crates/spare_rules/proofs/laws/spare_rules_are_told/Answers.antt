use Rattle.spare_rules.proofs.Told.{turn-told, set-told}
use Rattle.spare_rules.proofs.laws.spare_rules_are_told.Goals as goal

pub returns-clause-turns : goal.returns-clause-turns
returns-clause-turns c = turn-told

pub returns-clause-sets : goal.returns-clause-sets
returns-clause-sets c = set-told
