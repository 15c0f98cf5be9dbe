use Rattle.std.proofs.Common.{◌≡◌, ◌+◌, ◌-◌, ◌<◌, ◌≤◌, List, length, sym, ap, ◌∙◌, subst, arith}
use Rattle.interval_list.specs.declared.node.Node.{Node}
use Rattle.interval_list.specs.Cells.{Cell, IsAt, IsGap, place_of, cells_leading}
use Rattle.interval_list.specs.Edits.{inserted}
use Rattle.interval_list.proofs.Relinked.{put-leads, put-leads_back, put-result}
use Rattle.interval_list.proofs.Edited.{length-inserted, is_at-inserted, put_and_set}
use Rattle.interval_list.proofs.Linked.{length-led}
use Rattle.interval_list.proofs.chain.Chain.put.Goals as goal

pub set-requires : goal.set-requires
set-requires c =
    let cells = c.self.inside.nodes.cells in let i = c.args.i in let at = c.put-place.result.at in
    let within : i ≤ length cells = subst (λ (cs : List Cell). i ≤ length cs) (sym c.self.view_is) c.requires.gap.0 in
    subst (λ (cs : List Cell). IsAt cs at i) (sym c.put-place.ensures.0) (is_at-inserted cells i at c.args.lone.node within)

pub lead-requires : goal.lead-requires
lead-requires c =
    let cells = c.self.inside.nodes.cells in let i = c.args.i in let at = c.put-place.result.at in
    let n : Node = record { next = c.args.next; prev = c.args.prev; window = c.args.window } in
    let gap : IsGap cells i n.prev.at n.next.at = subst (λ (cs : List Cell). IsGap cs i n.prev.at n.next.at) (sym c.self.view_is) c.requires.gap in
    let came : c.set.new.self.cells ≡ inserted cells i (at, n) = put_and_set cells c.put-place.new.self.cells c.set.new.self.cells i at c.args.lone.node n gap.0 c.put-place.ensures.0 c.set.ensures in
    let Leads : List Cell → Type 0 = λ ys. 0 < i → (i - 1 < length ys) × (c.args.prev.at ≡ place_of ys (i - 1)) in
    subst Leads (sym came) (put-leads cells i at n gap)

pub lead_back-requires : goal.lead_back-requires
lead_back-requires c =
    let cells = c.self.inside.nodes.cells in let i = c.args.i in let at = c.put-place.result.at in
    let n : Node = record { next = c.args.next; prev = c.args.prev; window = c.args.window } in
    let gap : IsGap cells i n.prev.at n.next.at = subst (λ (cs : List Cell). IsGap cs i n.prev.at n.next.at) (sym c.self.view_is) c.requires.gap in
    let came : c.set.new.self.cells ≡ inserted cells i (at, n) = put_and_set cells c.put-place.new.self.cells c.set.new.self.cells i at c.args.lone.node n gap.0 c.put-place.ensures.0 c.set.ensures in
    let led : c.lead.new.nodes.cells ≡ cells_leading (inserted cells i (at, n)) i at = c.lead.ensures.nodes ∙ ap (λ (ys : List Cell). cells_leading ys i at) came in
    let len = c.self.inside.len in
    let Asked : List Cell → Type 0 = λ zs. (len + 1 ≡ length zs) × (i + 1 ≤ len + 1) × (i + 1 < len + 1 → c.args.next.at ≡ place_of zs (i + 1)) in
    subst Asked (sym led) (
      omega (arith, c.self.invariant.0, length-led (inserted cells i (at, n)) i at, length-inserted cells i (at, n)),
      omega (arith, c.self.invariant.0, gap.0),
      λ more. put-leads_back cells i at n gap (omega (arith, c.self.invariant.0, more)),
    )

pub invariant_of-self : goal.invariant_of-self
invariant_of-self c =
    let chain = c.self.inside in
    (put-result chain.nodes.cells c.args.self.now c.put-place.new.self.cells c.set.new.self.cells c.lead.new.nodes.cells c.lead_back.new.nodes.cells c.args.i chain.len c.put-place.result.at chain.first.at chain.last.at
    c.lead.new.first.at c.lead_back.new.last.at c.args.lone.node c.args.prev c.args.next c.args.window
    c.self.view_is c.requires.gap c.self.invariant c.put-place.ensures.0 c.set.ensures
    c.lead.ensures.first c.lead.ensures.nodes c.lead_back.ensures.last c.lead_back.ensures.nodes).0

pub returns-clause-windows : goal.returns-clause-windows
returns-clause-windows c =
    let chain = c.self.inside in
    (put-result chain.nodes.cells c.args.self.now c.put-place.new.self.cells c.set.new.self.cells c.lead.new.nodes.cells c.lead_back.new.nodes.cells c.args.i chain.len c.put-place.result.at chain.first.at chain.last.at
    c.lead.new.first.at c.lead_back.new.last.at c.args.lone.node c.args.prev c.args.next c.args.window
    c.self.view_is c.requires.gap c.self.invariant c.put-place.ensures.0 c.set.ensures
    c.lead.ensures.first c.lead.ensures.nodes c.lead_back.ensures.last c.lead_back.ensures.nodes).1

pub returns-clause-places : goal.returns-clause-places
returns-clause-places c =
    let chain = c.self.inside in
    (put-result chain.nodes.cells c.args.self.now c.put-place.new.self.cells c.set.new.self.cells c.lead.new.nodes.cells c.lead_back.new.nodes.cells c.args.i chain.len c.put-place.result.at chain.first.at chain.last.at
    c.lead.new.first.at c.lead_back.new.last.at c.args.lone.node c.args.prev c.args.next c.args.window
    c.self.view_is c.requires.gap c.self.invariant c.put-place.ensures.0 c.set.ensures
    c.lead.ensures.first c.lead.ensures.nodes c.lead_back.ensures.last c.lead_back.ensures.nodes).2
