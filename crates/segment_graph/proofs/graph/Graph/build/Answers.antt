-- The tables are those of the layout.
use Rattle.std.proofs.Common.{◌≡◌, ◌<◌, length, get_or, arith, rules, vec_len}
use Rattle.taxi_base.specs.Airport.{Layout}
use Rattle.segment_graph.proofs.Ends.{arc_exists-low}
use Rattle.segment_graph.proofs.Turns.{AreNodeRows-leaving, AreNodeRows-entering, AreArcRows-next, AreArcRows-previous}
use Rattle.segment_graph.proofs.graph.Graph.build.Goals as goal

pub barred_turns-requires : goal.barred_turns-requires
barred_turns-requires c = λ k d low.
    let layout : Layout = record { nodes = c.args.nodes; links = c.args.links.items; forbidden = c.args.forbidden.items } in
    let within : k < length c.args.forbidden.items = rw c.deref-3.ensures.value at low in
    let exists = c.requires.forbidden k d within in
    let small = arc_exists-low layout (get_or c.args.forbidden.items k d).0 exists.0 in
    let counted : vec_len c.args.links ≡ length c.args.links.items = search rules in
    rw c.deref-3.ensures.value (omega (arith, c.len.ensures))

pub invariant_of-result : goal.invariant_of-result
invariant_of-result c =
    let layout : Layout = record { nodes = c.args.nodes; links = c.args.links.items; forbidden = c.args.forbidden.items } in
    let barred = rw c.deref-3.ensures.value at c.in_ok-barred.ensures in
    record {
      laid_out = c.requires;
      leave = AreNodeRows-leaving layout c.in_ok-leaving.leaving (rw c.deref.ensures.value at c.in_ok-leaving.ensures);
      enter = AreNodeRows-entering layout c.in_ok-entering.entering (rw c.deref-2.ensures.value at c.in_ok-entering.ensures);
      onward = AreArcRows-next layout _ _ c.in_ok-next.next barred (rw (c.deref-4.ensures.value, c.deref-5.ensures.value) at c.in_ok-next.ensures);
      back = AreArcRows-previous layout _ _ c.in_ok-previous.previous barred (rw (c.deref-6.ensures.value, c.deref-7.ensures.value) at c.in_ok-previous.ensures);
    }
