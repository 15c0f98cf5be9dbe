use Rattle.std.proofs.Common.{◌≡◌, ◌-◌, ◌<◌, ◌≤◌, sym, ap, ◌∙◌, subst, arith}
use mathlib.Core.List.{List}
use lib.ListN.{length}
use denote.RawPtr.{Ptr}
use Rattle.interval_list.specs.declared.node.Node.{Node}
use Rattle.interval_list.specs.Cells.{Cell, place_of, node_of, cells_leading}
use Rattle.interval_list.specs.Edits.{removed}
use Rattle.interval_list.proofs.Edited.{length-removed}
use Rattle.interval_list.proofs.Linked.{length-led}
use Rattle.interval_list.proofs.Relinked.{take-leads, take-leads_back, take-result}
use Rattle.interval_list.proofs.chain.Chain.take.Goals as goal

pub lead-requires : goal.lead-requires
lead-requires c =
    let chain = c.self.inside in let cells = chain.nodes.cells in let i = c.args.i in
    let within : i < length cells = subst (λ (cs : List Cell). i < length cs) (sym c.self.view_is) c.requires.0 in
    let is_node : c.node-node.result.now ≡ node_of cells i = c.node-node.ensures in
    let Leads : Ptr × List Cell → Type 0 = λ s. 0 < i → (i - 1 < length s.1) × (s.0 ≡ place_of s.1 (i - 1)) in
    subst Leads (λ k. (ap (λ (n : Node). n.prev.at) (sym is_node) k, sym c.take-lone.ensures.1 k)) (take-leads cells i chain.first.at chain.last.at c.self.invariant.1 within)

pub lead_back-requires : goal.lead_back-requires
lead_back-requires c =
    let chain = c.self.inside in let cells = chain.nodes.cells in let i = c.args.i in let len = chain.len in
    let within : i < length cells = subst (λ (cs : List Cell). i < length cs) (sym c.self.view_is) c.requires.0 in
    let next = (node_of cells i).next.at in
    let is_next : c.node-node.result.now.next.at ≡ next = ap (λ (n : Node). n.next.at) (c.node-node.ensures) in
    let led : c.lead.new.nodes.cells ≡ cells_leading (removed cells i) i next = c.lead.ensures.nodes ∙ (λ k. cells_leading (c.take-lone.ensures.1 k) i (is_next k)) in
    let Asked : Ptr × List Cell → Type 0 = λ s. (len - 1 ≡ length s.1) × (i ≤ len - 1) × (i < len - 1 → s.0 ≡ place_of s.1 i) in
    subst Asked (λ k. (sym is_next k, sym led k)) (
      omega (arith, c.self.invariant.0, length-led (removed cells i) i next, length-removed cells i within),
      omega (arith, c.self.invariant.0, within),
      λ more. take-leads_back cells i chain.first.at chain.last.at c.self.invariant.1 within (omega (arith, c.self.invariant.0, more)),
    )

pub invariant_of-self : goal.invariant_of-self
invariant_of-self c =
    let chain = c.self.inside in
    (take-result chain.nodes.cells c.args.self.now c.take-lone.new.self.cells c.lead.new.nodes.cells c.lead_back.new.nodes.cells c.args.i chain.len chain.first.at chain.last.at
    c.lead.new.first.at c.lead_back.new.last.at c.node-node.result.now.next.at c.node-node.result.now.prev.at
    c.self.view_is c.requires.0 c.self.invariant c.take-lone.ensures.1 (ap (λ (n : Node). n.next.at) (c.node-node.ensures))
    (ap (λ (n : Node). n.prev.at) (c.node-node.ensures)) c.lead.ensures.first c.lead.ensures.nodes c.lead_back.ensures.last c.lead_back.ensures.nodes).0

pub returns-clause-windows : goal.returns-clause-windows
returns-clause-windows c =
    let chain = c.self.inside in
    (take-result chain.nodes.cells c.args.self.now c.take-lone.new.self.cells c.lead.new.nodes.cells c.lead_back.new.nodes.cells c.args.i chain.len chain.first.at chain.last.at
    c.lead.new.first.at c.lead_back.new.last.at c.node-node.result.now.next.at c.node-node.result.now.prev.at
    c.self.view_is c.requires.0 c.self.invariant c.take-lone.ensures.1 (ap (λ (n : Node). n.next.at) (c.node-node.ensures))
    (ap (λ (n : Node). n.prev.at) (c.node-node.ensures)) c.lead.ensures.first c.lead.ensures.nodes c.lead_back.ensures.last c.lead_back.ensures.nodes).1

pub returns-clause-places : goal.returns-clause-places
returns-clause-places c =
    let chain = c.self.inside in
    (take-result chain.nodes.cells c.args.self.now c.take-lone.new.self.cells c.lead.new.nodes.cells c.lead_back.new.nodes.cells c.args.i chain.len chain.first.at chain.last.at
    c.lead.new.first.at c.lead_back.new.last.at c.node-node.result.now.next.at c.node-node.result.now.prev.at
    c.self.view_is c.requires.0 c.self.invariant c.take-lone.ensures.1 (ap (λ (n : Node). n.next.at) (c.node-node.ensures))
    (ap (λ (n : Node). n.prev.at) (c.node-node.ensures)) c.lead.ensures.first c.lead.ensures.nodes c.lead_back.ensures.last c.lead_back.ensures.nodes).2
