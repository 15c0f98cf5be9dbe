use Rattle.airport_rules.proofs.SoundLaws.{IsSound-empty, IsSound-judge}
use Rattle.airport_rules.proofs.laws.sound_plans.Goals as goal

pub returns-clause-empty : goal.returns-clause-empty
returns-clause-empty c = IsSound-empty

pub returns-clause-judged : goal.returns-clause-judged
returns-clause-judged c = IsSound-judge
