use Rattle.std.proofs.Common.{sym}
use Rattle.taxi_base.proofs.WalkLaws.{end_of-at}
use Rattle.taxi_base.proofs.steps.end_of.Goals as goal

pub returns : goal.returns
returns c = sym (end_of-at c.args.steps.now _ c.requires)
