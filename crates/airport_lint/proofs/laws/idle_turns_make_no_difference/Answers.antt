use Rattle.airport_lint.proofs.PassedLaws.{idle-same}
use Rattle.airport_lint.proofs.laws.idle_turns_make_no_difference.Goals as goal

pub returns : goal.returns
returns c = idle-same
