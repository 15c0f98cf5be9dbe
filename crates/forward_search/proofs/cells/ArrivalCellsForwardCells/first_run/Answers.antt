use Rattle.std.proofs.Common.{◌≡◌, ℕ, ◌<◌, List, length, get_or, IsTrue, sym, ◌∙◌, ap, subst}
use Rattle.taxi_base.specs.declared.numbers.Arc.{Arc}
use Rattle.taxi_base.specs.declared.numbers.Node.{Node}
use Rattle.taxi_base.specs.Airport.{Layout, arc_exists}
use Rattle.place_cells.specs.Turns.{leaving_arcs, no_arc}
use Rattle.place_cells.specs.Ground.{Ground}
use Rattle.place_cells.specs.Grounds.{ground_of}
use Rattle.place_cells.proofs.LaidLaws.{windows_of-length}
use Rattle.forward_search.specs.declared.starting.Start.{Start}
use Rattle.forward_search.specs.declared.starting.Start.TheVariants as start
use Rattle.forward_search.specs.Arrivals.{beginning_of, first_arcs}
use Rattle.forward_search.proofs.ArrivalLaws.{earliest_of, latest_of, first_exist, first_begun, begins_in_part}
use Rattle.forward_search.proofs.cells.ArrivalCellsForwardCells.first_run.Goals as goal

-- what is read among the arcs that leave the node is a first arc
is_first : (layout : Layout) (s : Start) (node : Node) (earliest latest : ℕ) → s ≡ start.Node node earliest latest → (leaving : List Arc) → leaving ≡ leaving_arcs layout node
    → (i : ℕ) → get_or leaving i no_arc ≡ get_or (first_arcs layout (beginning_of s 0)) i no_arc
is_first layout s node earliest latest is leaving same i =
    ap (λ (list : List Arc). get_or list i no_arc) same ∙ sym (ap (λ (t : Start). get_or (first_arcs layout (beginning_of t 0)) i no_arc) is)

pub part-requires : goal.part-requires
part-requires c =
    let s = c.args.self.now in
    let layout : Layout = s.ground.graph.now in
    let read = is_first layout s.start c.in-Node.from c.in-Node.earliest c.in-Node.latest c.in-Node.is c.leaving.result.now c.leaving.ensures c.args.run in
    subst (λ (a : Arc). IsTrue (arc_exists layout a)) (sym read) (first_exist layout (beginning_of s.start 0) c.args.run c.requires)

pub returns-in-Node : goal.returns-in-Node
returns-in-Node c =
    let s = c.args.self.now in
    let ground = s.ground in
    let g : Ground = ground_of ground in
    let lists : length g.windows ≡ length g.layout.links = windows_of-length ground.store.now ∙ ground.lists in
    let read = is_first g.layout s.start c.in-Node.from c.in-Node.earliest c.in-Node.latest c.in-Node.is c.leaving.result.now c.leaving.ensures c.args.run in
    begins_in_part g lists ground.numbers.now.numbered ground.room (beginning_of s.start 0) s.to.now c.args.run c.requires (get_or c.leaving.result.now c.args.run no_arc) read c.in-Node.earliest c.in-Node.latest
    (sym (ap (λ (t : Start). earliest_of (beginning_of t 0)) c.in-Node.is)) (sym (ap (λ (t : Start). latest_of (beginning_of t 0)) c.in-Node.is)) c.part.result.run c.part.ensures.part

pub returns-in-Frozen : goal.returns-in-Frozen
returns-in-Frozen c =
    let s = c.args.self.now in
    let ground = s.ground in
    let g : Ground = ground_of ground in
    let lists : length g.windows ≡ length g.layout.links = windows_of-length ground.store.now ∙ ground.lists in
    let on = subst (λ (t : Start). c.args.run < length (first_arcs g.layout (beginning_of t 0))) c.in-Frozen.is c.requires in
    let read : get_or (first_arcs g.layout (beginning_of s.start 0)) c.args.run no_arc ≡ c.in-Frozen.arc =
    ap (λ (t : Start). get_or (first_arcs g.layout (beginning_of t 0)) c.args.run no_arc) c.in-Frozen.is ∙ first_begun g.layout (record { arc = c.in-Frozen.arc; enter = c.in-Frozen.enter; leave = 0 }) 0 c.args.run on in
    begins_in_part g lists ground.numbers.now.numbered ground.room (beginning_of s.start 0) s.to.now c.args.run c.requires c.in-Frozen.arc (sym read) c.in-Frozen.enter c.in-Frozen.enter
    (sym (ap (λ (t : Start). earliest_of (beginning_of t 0)) c.in-Frozen.is)) (sym (ap (λ (t : Start). latest_of (beginning_of t 0)) c.in-Frozen.is)) c.part-in-Frozen.result.run c.part-in-Frozen.ensures.part
