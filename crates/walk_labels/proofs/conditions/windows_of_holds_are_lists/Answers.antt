use Rattle.walk_labels.proofs.FitConditions.{lists_of_holds}
use Rattle.walk_labels.proofs.conditions.windows_of_holds_are_lists.Goals as goal

pub returns : goal.returns
returns c = lists_of_holds
