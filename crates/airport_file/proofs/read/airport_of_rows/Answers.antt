-- The empty plan is sound.
use Rattle.airport_rules.proofs.SoundLaws.{IsSound-empty}
use Rattle.airport_file.proofs.read.airport_of_rows.Goals as goal

pub judge_rows-requires-clause-sound : goal.judge_rows-requires-clause-sound
judge_rows-requires-clause-sound c = rw c.new-plan.ensures IsSound-empty
