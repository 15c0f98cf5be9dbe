use Rattle.std.proofs.Common.{◌≡◌, ap, ◌∙◌, subst, sym, arith}
use mathlib.Core.List.{List}
use lib.ListN.{length}
use Rattle.interval_list.specs.declared.node.Node.{Node}
use Rattle.interval_list.specs.Cells.{Cell, AreLinked, places, windows_of, with_node}
use Rattle.interval_list.specs.Edits.{replaced}
use Rattle.interval_list.proofs.Edited.{length-replaced}
use Rattle.interval_list.proofs.Linked.{forward-with_node, back-with_node, places-with_node, windows_of-with_node}
use Rattle.interval_list.proofs.chain.Chain.set.Goals as goal

pub invariant_of-self : goal.invariant_of-self
invariant_of-self c =
    let chain = c.self.inside in let cells = chain.nodes.cells in let i = c.args.i in
    let n : Node = record { next = c.node-node.result.now.next; prev = c.node-node.result.now.prev; window = c.args.window } in
    let Linked : List Cell → Type 0 = λ cs. (chain.len ≡ length cs) × AreLinked chain.first.at chain.last.at cs in
    subst Linked (sym c.set.ensures) (
      omega (arith, c.self.invariant.0, length-replaced cells i (Rattle.interval_list.specs.Cells.place_of cells i, n)),
      (
        forward-with_node chain.first.at cells i n c.self.invariant.1.0 (ap (λ (m : Node). m.next.at) c.node-node.ensures),
        back-with_node cells chain.last.at i n c.self.invariant.1.1 (ap (λ (m : Node). m.prev.at) c.node-node.ensures),
      ),
    )

pub returns-clause-windows : goal.returns-clause-windows
returns-clause-windows c =
    ap windows_of c.set.ensures ∙ windows_of-with_node c.self.inside.nodes.cells c.args.i _ ∙ ap (λ (cs : List Cell). replaced (windows_of cs) c.args.i c.args.window) c.self.view_is

pub returns-clause-places : goal.returns-clause-places
returns-clause-places c = ap places c.set.ensures ∙ places-with_node c.self.inside.nodes.cells c.args.i _ ∙ ap places c.self.view_is
