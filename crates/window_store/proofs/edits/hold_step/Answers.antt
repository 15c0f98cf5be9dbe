use Rattle.std.proofs.Common.{get_or, subst, arith}
use Rattle.taxi_base.specs.declared.numbers.Segment.{Segment}
use Rattle.taxi_base.specs.declared.rows.Span.{Span}
use Rattle.taxi_base.specs.Airport.{segment_of}
use Rattle.taxi_base.specs.Windows.{hold_of}
use Rattle.window_store.specs.Spans.{Listed}
use Rattle.window_store.specs.Edits.{list_in, IsHeld}
use Rattle.window_store.proofs.Changes.{next, changes-none, changes-more, changes-all}
use Rattle.window_store.proofs.edits.hold_step.Goals as goal

abbrev none : Segment
none = record { 0 = 0 }

pub loop-segment-init : goal.loop-segment-init
loop-segment-init c = changes-none (IsHeld (hold_of c.args.term.horizon c.args.term.clearance c.args.step.now).span) c.args.lists.now

pub hold-requires-clause-some : goal.hold-requires-clause-some
hold-requires-clause-some c = rw c.span_of-span.ensures (omega (arith, c.requires.time, c.requires.in_time))

pub hold-requires-clause-stands : goal.hold-requires-clause-stands
hold-requires-clause-stands c =
    let at = next (IsHeld (hold_of c.args.term.horizon c.args.term.clearance c.args.step.now).span) c.args.conflicts.now.sets (segment_of c.args.step.now.arc) c.segments_of-segment-items.result.now c.loop-segment.segment-index c.args.conflicts.now.segments none
    c.args.lists.now c.loop-segment.lists c.index-lists-segment.result c.segments_of-segment-items.ensures.all c.segments_of-segment-items.ensures.exist c.requires.segments
    c.loop-segment-test.true c.loop-segment.invariant in
    rw at.same (c.requires.can _ at.exists at.met).stands

pub hold-requires-clause-room : goal.hold-requires-clause-room
hold-requires-clause-room c =
    let at = next (IsHeld (hold_of c.args.term.horizon c.args.term.clearance c.args.step.now).span) c.args.conflicts.now.sets (segment_of c.args.step.now.arc) c.segments_of-segment-items.result.now c.loop-segment.segment-index c.args.conflicts.now.segments none
    c.args.lists.now c.loop-segment.lists c.index-lists-segment.result c.segments_of-segment-items.ensures.all c.segments_of-segment-items.ensures.exist c.requires.segments
    c.loop-segment-test.true c.loop-segment.invariant in
    rw at.same (c.requires.can _ at.exists at.met).room

pub loop-segment-preserved : goal.loop-segment-preserved
loop-segment-preserved c =
    let at = next (IsHeld (hold_of c.args.term.horizon c.args.term.clearance c.args.step.now).span) c.args.conflicts.now.sets (segment_of c.args.step.now.arc) c.segments_of-segment-items.result.now c.loop-segment.segment-index c.args.conflicts.now.segments none
    c.args.lists.now c.loop-segment.lists c.index-lists-segment.result c.segments_of-segment-items.ensures.all c.segments_of-segment-items.ensures.exist c.requires.segments
    c.loop-segment-test.true c.loop-segment.invariant in
    let s : Segment = get_or c.segments_of-segment-items.result.now c.loop-segment.segment-index none in
    let held : IsHeld c.span_of-span.result s (get_or c.loop-segment.lists s.0 c.index-lists-segment.result) c.hold.new.self =
    record { stands = c.hold.ensures.stands; kept = c.hold.ensures.kept; owned = record { ids = c.hold.ensures.ids; nodes = c.hold.ensures.nodes } } in
    changes-more (IsHeld (hold_of c.args.term.horizon c.args.term.clearance c.args.step.now).span) c.segments_of-segment-items.result.now c.loop-segment.segment-index none c.args.lists.now c.loop-segment.lists c.hold.new.self
    c.segments_of-segment-items.ensures.all.rising c.loop-segment-test.true at.exists c.loop-segment.invariant
    (subst (λ (span : Span). IsHeld span s (list_in c.args.lists.now s) c.hold.new.self) c.span_of-span.ensures
    (subst (λ (l : Listed). IsHeld c.span_of-span.result s l c.hold.new.self) at.same held))

pub returns : goal.returns
returns c =
    changes-all (IsHeld (hold_of c.args.term.horizon c.args.term.clearance c.args.step.now).span) c.args.conflicts.now.sets (segment_of c.args.step.now.arc) c.segments_of-segment-items.result.now c.loop-segment.segment-index c.args.lists.now c.loop-segment.lists
    c.segments_of-segment-items.ensures.all c.loop-segment-test.false c.loop-segment.invariant
