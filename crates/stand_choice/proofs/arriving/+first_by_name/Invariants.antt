use Rattle.std.proofs.Common.{length}
use Rattle.stand_choice.proofs.arriving.+first_by_name.Given as goal

abbrev pub decreases-first_by_name : goal.decreases-first_by_name
decreases-first_by_name l = length l.nodes.now
