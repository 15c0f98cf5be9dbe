-- The turns to an arc are a part of the arcs that enter its tail.
use Rattle.std.proofs.Common.{◌≡◌, ◌∙◌, [], sym, subst, Some}
use Rattle.std.proofs.lemmas.Option.{get_or_from_slice_get}
use Rattle.segment_graph.specs.declared.links.Side.TheVariants.{Tail}
use Rattle.segment_graph.specs.Graphs.{AreArcs}
use Rattle.segment_graph.specs.Groups.{groups_of, head_in, tail_in}
use Rattle.segment_graph.proofs.Ends.{end_in-exists}
use Rattle.segment_graph.proofs.Gathered.{IfOk_then}
use Rattle.segment_graph.proofs.Turns.{AreTurnsTo-filter}
use Rattle.segment_graph.proofs.tables.turns_to.Goals as goal

pub returns-in-Some : goal.returns-in-Some
returns-in-Some c =
    let links = c.args.links.now in
    let node = c.in-Some.node in
    let behind : tail_in links c.args.y ≡ Some node = sym c.tail_in.ensures ∙ c.in-Some.is in
    let low = end_in-exists Tail links _ c.args.y node c.requires.ends behind in
    let is = get_or_from_slice_get c.args.entering.now node.0 c.row.result.now [] c.row.ensures in
    let all : AreArcs (λ a. head_in links a ≡ Some node) c.row.result.now = subst (AreArcs (λ a. head_in links a ≡ Some node)) is (c.requires.entering.each node low) in
    IfOk_then c.permitted_to.result c.permitted_to.ensures (λ row kept. rw kept (AreTurnsTo-filter links (groups_of c.args.barred.now) c.args.y node c.row.result.now behind all))
