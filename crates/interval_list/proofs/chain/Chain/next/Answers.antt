use Rattle.std.proofs.Common.{◌≡◌, suc, ◌+◌, ◌<◌, List, length, ap, ◌∙◌, subst, arith}
use Rattle.interval_list.specs.declared.node.Node.{Node}
use Rattle.interval_list.specs.Cells.{Cell, place_of}
use Rattle.interval_list.proofs.Linked.{next_is}
use Rattle.interval_list.proofs.chain.Chain.next.Goals as goal

pub returns : goal.returns
returns c =
    let chain = c.self.inside in let cells = chain.nodes.cells in let i = c.args.i in let on : i + 1 ≡ suc i = omega arith in
    let Leads : List Cell → Type 0 = λ cs. i + 1 < length cs → c.node.result.now.next.at ≡ place_of cs (i + 1) in
    subst Leads c.self.view_is (λ more. rw on (ap (λ (n : Node). n.next.at) c.node.ensures ∙ next_is chain.first.at cells i c.self.invariant.1.0 (omega (arith, more))))
