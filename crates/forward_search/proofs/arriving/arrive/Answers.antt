use Rattle.std.proofs.Common.{refl}
use Rattle.forward_search.proofs.arriving.arrive.Goals as goal

pub returns : goal.returns
returns c leave = c.arrive_to_one_of.ensures.one leave c.args.to refl
