use Rattle.std.proofs.Common.{◌≡◌, ◌-◌, ◌<◌, length, subst}
use Rattle.interval_list.specs.Cells.{Cell, place_of}
use Rattle.interval_list.proofs.Linked.{last_is}
use Rattle.interval_list.proofs.chain.Chain.last.Goals as goal
use mathlib.Core.List.{List}

pub returns : goal.returns
returns c =
    let chain = c.self.inside in
    let P : List Cell → Type 0 = λ cs. 0 < length cs → chain.last.at ≡ place_of cs (length cs - 1) in
    subst P c.self.view_is (last_is chain.nodes.cells chain.last.at c.self.invariant.1.1)
