-- One more forbidden turn goes to its first arc's group.
use Rattle.std.proofs.Common.{◌<◌, ◌∙◌, length, get_or, take, arith, length-set}
use Rattle.std.proofs.lemmas.List.{take_more, length-map}
use Rattle.taxi_base.specs.declared.numbers.Arc.{Arc}
use Rattle.segment_graph.specs.Groups.{groups_of}
use Rattle.segment_graph.proofs.Gathered.{get_or-empty, groups_of-set, AreBarred-none, AreBarred-push}
use Rattle.segment_graph.proofs.tables.barred_turns.Goals as goal

pub loop-pair-init : goal.loop-pair-init
loop-pair-init c = (c.in_ok-groups.ensures.count, AreBarred-none _ (λ k. get_or-empty c.in_ok-groups.groups.items k c.in_ok-groups.ensures.empty))

pub loop-pair-preserved : goal.loop-pair-preserved
loop-pair-preserved c =
    let forbidden = c.args.forbidden.now in
    let i = c.loop-pair.pair-index in
    let none : Arc × Arc = (record { 0 = 0 }, record { 0 = 0 }) in
    let pair : Arc × Arc = get_or forbidden i none in
    let groups = c.loop-pair.groups.items in
    let low : i < length forbidden = c.loop-pair-test.true in
    let in_arcs = c.requires i none low in
    let in_groups : pair.0.0 < length groups = omega (arith, c.loop-pair.invariant.0) in
    let in_lists : pair.0.0 < length (groups_of groups) = omega (arith, length-map groups (λ group. group.items)) in (
      length-set groups pair.0.0 c.push.new.self ∙ c.loop-pair.invariant.0,
      rw (take_more forbidden i none low, groups_of-set groups pair.0.0 c.index_mut.result.now c.push.new.self pair.1 in_groups c.index_mut.ensures.value c.in_ok-push.ensures.items)
          (AreBarred-push (take i forbidden) pair.0 pair.1 (groups_of groups) c.loop-pair.invariant.1 in_lists),
    )
