-- The turns from an arc are a part of the arcs that leave its head.
use Rattle.std.proofs.Common.{◌≡◌, ◌∙◌, [], sym, subst, Some}
use Rattle.std.proofs.lemmas.Option.{get_or_from_slice_get}
use Rattle.segment_graph.specs.declared.links.Side.TheVariants.{Head}
use Rattle.segment_graph.specs.Graphs.{AreArcs}
use Rattle.segment_graph.specs.Groups.{groups_of, head_in, tail_in}
use Rattle.segment_graph.proofs.Ends.{end_in-exists}
use Rattle.segment_graph.proofs.Gathered.{IfOk_then}
use Rattle.segment_graph.proofs.Turns.{AreTurnsFrom-filter}
use Rattle.segment_graph.proofs.tables.turns_from.Goals as goal

pub returns-in-Some : goal.returns-in-Some
returns-in-Some c =
    let links = c.args.links.now in
    let node = c.in-Some.node in
    let ahead : head_in links c.args.x ≡ Some node = sym c.head_in.ensures ∙ c.in-Some.is in
    let low = end_in-exists Head links _ c.args.x node c.requires.ends ahead in
    let is = get_or_from_slice_get c.args.leaving.now node.0 c.row.result.now [] c.row.ensures in
    let all : AreArcs (λ a. tail_in links a ≡ Some node) c.row.result.now = subst (AreArcs (λ a. tail_in links a ≡ Some node)) is (c.requires.leaving.each node low) in
    IfOk_then c.permitted_from.result c.permitted_from.ensures (λ row kept. rw kept (AreTurnsFrom-filter links (groups_of c.args.barred.now) c.args.x node c.row.result.now ahead all))
