-- One more segment, whose ends are counted.
use Rattle.std.proofs.Common.{◌<◌, arith, rules, map, length, length-set, slice_set, ◌+◌}
use Rattle.std.proofs.lemmas.List.{map-append, get_or_read}
use Rattle.airport_rules.specs.Indexed.{link_of_way}
use Rattle.airport_rules.proofs.CountLaws.{AreCounted-link}
use Rattle.airport_rules.proofs.plan.Plan.add_segment.Goals as goal

pub invariant_of-self-2 : goal.invariant_of-self-2
invariant_of-self-2 c =
    let way = c.args.way.now in
    let nodes = c.self.inside.nodes in
    let ends = c.self.inside.ends.items in
    let from : way.from.0 < length nodes = search rules in
    let to : way.to.0 < length nodes = search rules in
    let first = get_or_read ends way.from.0 c.index_mut.result.now (omega (arith, c.self.invariant.0.each)) c.index_mut.ensures.value 0 in
    let second = get_or_read (slice_set ends way.from.0 (c.index_mut.result.now + 1)) way.to.0 c.index_mut-2.result.now (simp length-set (omega (arith, c.self.invariant.0.each))) c.index_mut-2.ensures.value 0 in (
      rw (second, first, c.push_reserved.ensures.items, c.in_ok-reserve.ensures.items, map-append)
          (AreCounted-link (length nodes) (map link_of_way c.self.inside.ways.items) ends (link_of_way way) c.self.invariant.0 from to),
      c.self.invariant.1,
    )
