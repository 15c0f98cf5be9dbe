use Rattle.std.proofs.Common.{◌≡◌, suc, ◌-◌, ◌<◌, List, length, sym, ap, ◌∙◌, subst, arith}
use Rattle.interval_list.specs.declared.node.Node.{Node}
use Rattle.interval_list.specs.Cells.{Cell, place_of, node_of}
use Rattle.interval_list.proofs.Linked.{prev_is}
use Rattle.interval_list.proofs.chain.Chain.prev.Goals as goal

pub returns : goal.returns
returns c =
    let chain = c.self.inside in let cells = chain.nodes.cells in let i = c.args.i in
    let within : i < length cells = subst (λ (cs : List Cell). i < length cs) (sym c.self.view_is) c.requires.0 in
    let Leads : List Cell → Type 0 = λ cs. 0 < i → c.node.result.now.prev.at ≡ place_of cs (i - 1) in
    subst Leads c.self.view_is (λ some.
    let back : suc (i - 1) ≡ i = omega arith in
    let before : (node_of cells (suc (i - 1))).prev.at ≡ place_of cells (i - 1) = prev_is cells chain.last.at (i - 1) c.self.invariant.1.1 (omega (arith, within)) in
    ap (λ (n : Node). n.prev.at) c.node.ensures ∙ subst (λ k. (node_of cells k).prev.at ≡ place_of cells (i - 1)) back before)
