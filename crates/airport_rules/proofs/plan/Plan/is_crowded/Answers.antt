-- The counts are the numbers of ends.
use Rattle.std.proofs.Common.{◌≡◌, ◌<◌, ◌≤◌, arith, rules, map, length}
use Rattle.std.specs.Prelude.{◌==◌, if◌then◌else◌}
use Rattle.std.proofs.lemmas.Bool.Decides.{nat_tests}
use Rattle.std.proofs.lemmas.List.{get_or_read}
use Rattle.airport_rules.specs.Indexed.{link_of_way}
use Rattle.airport_rules.proofs.CountLaws.{is_crowded-tests}
use Rattle.airport_rules.proofs.plan.Plan.is_crowded.Goals as goal
use Rattle.airport_rules.proofs.plan.Plan.is_crowded.Goals.{then-eq, else-eq}

pub returns-then-index-new : goal.returns-then-index-new
returns-then-index-new c =
    let way = c.args.way.now in
    let new = c.if-eq.new in
    let nodes = c.self.inside.nodes in
    let ends = c.self.inside.ends.items in
    let own : new ≡ (if way.from.0 == way.to.0 then 2 else 1) = elim c.if-eq.branch [ then-eq w ↦ grind (arith, nat_tests, c.eq.ensures) | else-eq w ↦ grind (arith, nat_tests, c.eq.ensures) ] in
    let few : new ≤ 32 = elim c.if-eq.branch [ then-eq w ↦ omega (arith, w.new-is) | else-eq w ↦ omega (arith, w.new-is) ] in
    let from : way.from.0 < length nodes = search rules in
    let to : way.to.0 < length nodes = search rules in
    let first = get_or_read ends way.from.0 c.index.result.now (omega (arith, c.self.invariant.0.each)) c.index.ensures 0 in
    let tests = is_crowded-tests (length nodes) (map link_of_way c.self.inside.ways.items) ends (link_of_way way) new c.self.invariant.0 from to own few in
    rw (← c.self.view_is, tests) (grind (arith, nat_tests, first, c.if-index-new.true))

pub returns-else-index-new : goal.returns-else-index-new
returns-else-index-new c =
    let way = c.args.way.now in
    let new = c.if-eq.new in
    let nodes = c.self.inside.nodes in
    let ends = c.self.inside.ends.items in
    let own : new ≡ (if way.from.0 == way.to.0 then 2 else 1) = elim c.if-eq.branch [ then-eq w ↦ grind (arith, nat_tests, c.eq.ensures) | else-eq w ↦ grind (arith, nat_tests, c.eq.ensures) ] in
    let few : new ≤ 32 = elim c.if-eq.branch [ then-eq w ↦ omega (arith, w.new-is) | else-eq w ↦ omega (arith, w.new-is) ] in
    let from : way.from.0 < length nodes = search rules in
    let to : way.to.0 < length nodes = search rules in
    let first = get_or_read ends way.from.0 c.index.result.now (omega (arith, c.self.invariant.0.each)) c.index.ensures 0 in
    let second = get_or_read ends way.to.0 c.index-else-index-new.result.now (omega (arith, c.self.invariant.0.each)) c.index-else-index-new.ensures 0 in
    let tests = is_crowded-tests (length nodes) (map link_of_way c.self.inside.ways.items) ends (link_of_way way) new c.self.invariant.0 from to own few in
    rw (← c.self.view_is, tests) (grind (arith, nat_tests, first, second, c.if-index-new.false))
