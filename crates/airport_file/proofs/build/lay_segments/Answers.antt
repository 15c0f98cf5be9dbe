-- Each way leads from a node to a node, and crowds none.
use Rattle.std.proofs.Common.{false, refl}
use Rattle.airport_rules.specs.declared.rows.Taxiway.{Taxiway}
use Rattle.std.proofs.Common.{get_or}
use Rattle.airport_file.proofs.BuildLaws.{way-within, way-degree, links-more}
use Rattle.airport_file.proofs.build.lay_segments.Goals as goal

abbrev none : Taxiway
none = record { from = record { 0 = 0 }; to = record { 0 = 0 }; both = false }

pub segment-requires-clause-first : goal.segment-requires-clause-first
segment-requires-clause-first c =
    rw c.loop-way.invariant ((way-within c.args.plan.now c.ways-way-items.result.now c.loop-way.way-index none c.requires.sound c.ways-way-items.ensures c.loop-way-test.true).0)

pub segment-requires-clause-second : goal.segment-requires-clause-second
segment-requires-clause-second c =
    rw c.loop-way.invariant ((way-within c.args.plan.now c.ways-way-items.result.now c.loop-way.way-index none c.requires.sound c.ways-way-items.ensures c.loop-way-test.true).1)

pub segment-requires-clause-degree_first : goal.segment-requires-clause-degree_first
segment-requires-clause-degree_first c =
    rw c.loop-way.invariant
    (way-degree c.args.plan.now c.ways-way-items.result.now c.loop-way.way-index none (get_or c.ways-way-items.result.now c.loop-way.way-index none).from c.requires.sound c.ways-way-items.ensures c.loop-way-test.true)

pub segment-requires-clause-degree_second : goal.segment-requires-clause-degree_second
segment-requires-clause-degree_second c =
    rw c.loop-way.invariant
    (way-degree c.args.plan.now c.ways-way-items.result.now c.loop-way.way-index none (get_or c.ways-way-items.result.now c.loop-way.way-index none).to c.requires.sound c.ways-way-items.ensures c.loop-way-test.true)

pub loop-way-preserved : goal.loop-way-preserved
loop-way-preserved c =
    rw (links-more c.ways-way-items.result.now c.args.plan.now.links c.loop-way.way-index none c.ways-way-items.ensures c.loop-way-test.true, c.in_ok-segment.ensures.ok, c.loop-way.invariant) refl
