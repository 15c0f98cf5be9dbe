-- One more arc goes to the group of its end.
use Rattle.std.proofs.Common.{◌≡◌, ◌+◌, ◌<◌, ◌∙◌, length, sym, arith, rules, length-set, Some, vec_len}
use Rattle.std.proofs.lemmas.List.{length-map}
use Rattle.taxi_base.specs.declared.numbers.Arc.{Arc}
use Rattle.segment_graph.specs.Groups.{groups_of, end_in, AreEndRows}
use Rattle.segment_graph.proofs.Ends.{end_in-exists}
use Rattle.segment_graph.proofs.Gathered.{IfOk_then, get_or-empty, groups_of-set, AreGrouped-none, AreGrouped-push, AreGrouped-skip, AreEndRows-from}
use Rattle.segment_graph.proofs.tables.rows_by_end.Goals as goal
use Rattle.segment_graph.proofs.tables.rows_by_end.Goals.{in-Some+in_ok-push-in-Some, in-None}

pub loop-number-init : goal.loop-number-init
loop-number-init c = (c.in_ok-groups.ensures.count, AreGrouped-none _ _ (λ k. get_or-empty c.in_ok-groups.groups.items k c.in_ok-groups.ensures.empty))

pub index_mut-requires : goal.index_mut-requires
index_mut-requires c =
    let arc : Arc = record { 0 = c.loop-number.number } in
    let exists = end_in-exists c.args.side c.args.links.now c.args.nodes arc c.in-Some.node c.requires.ends (sym c.end_in.ensures ∙ c.in-Some.is) in
    let counted : vec_len c.loop-number.groups ≡ length c.loop-number.groups.items = search rules in
    omega (arith, c.loop-number.invariant.0)

pub loop-number-preserved : goal.loop-number-preserved
loop-number-preserved c =
    let links = c.args.links.now in
    let arc : Arc = record { 0 = c.loop-number.number } in
    let groups = c.loop-number.groups.items in
    elim c.match-end_in.branch [
      | in-Some+in_ok-push-in-Some w ↦
          let node = w.in-Some.node in
          let is : end_in c.args.side links arc ≡ Some node = sym c.end_in.ensures ∙ w.in-Some.is in
          let exists = end_in-exists c.args.side links c.args.nodes arc node c.requires.ends is in
          let in_groups : node.0 < length groups = omega (arith, c.loop-number.invariant.0) in
          let in_lists : node.0 < length (groups_of groups) = omega (arith, length-map groups (λ group. group.items)) in
          rw w.groups-is (
            length-set groups node.0 w.push.new.self ∙ c.loop-number.invariant.0,
            rw (groups_of-set groups node.0 w.index_mut.result.now w.push.new.self arc in_groups w.index_mut.ensures.value w.in_ok-push-in-Some.ensures.items)
                (AreGrouped-push (end_in c.args.side links) arc node (groups_of groups) c.loop-number.invariant.1 is in_lists),
          )
      | in-None w ↦
          rw w.groups-is (c.loop-number.invariant.0, AreGrouped-skip (end_in c.args.side links) arc (groups_of groups) c.loop-number.invariant.1 (sym c.end_in.ensures ∙ w.in-None.is))
    ]

pub returns : goal.returns
returns c =
    let links = c.args.links.now in
    let groups = c.loop-number.groups.items in
    let all : c.loop-number.number ≡ length links + length links = omega arith in
    let count : length (groups_of groups) ≡ c.args.nodes = length-map groups (λ group. group.items) ∙ c.loop-number.invariant.0 in
    let are = AreEndRows-from c.args.side links c.args.nodes c.loop-number.number (groups_of groups) all count c.loop-number.invariant.1 in
    IfOk_then c.packed.result {Q = AreEndRows c.args.side links c.args.nodes} c.packed.ensures (λ rows is. rw (is, c.deref.ensures.value) are)
