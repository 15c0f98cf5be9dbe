use Rattle.label_search.proofs.GroupLaws.{mark_more}
use Rattle.label_search.proofs.groups.mark.Goals as goal

pub returns : goal.returns
returns c = mark_more c.args.groups.now c.args.cell c.requires
