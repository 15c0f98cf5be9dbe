use Rattle.class_ways.proofs.WalkLaws.{walk-way}
use Rattle.class_ways.proofs.laws.walks_are_on_ways.Goals as goal

pub returns : goal.returns
returns c = walk-way
