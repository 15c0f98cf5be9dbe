use Rattle.std.proofs.Common.{◌≡◌, ◌<◌, ◌≤◌, ◌+◌, Vec, Global, Some, length, get_or, take, sym, subst, arith, refl}
use Rattle.std.specs.Prelude.{slice_get}
use Rattle.std.proofs.lemmas.Option.{slice_get_read}
use Rattle.std.proofs.lemmas.List.{get_or_read}
use Rattle.taxi_base.specs.declared.numbers.Segment.{Segment}
use Rattle.check_rows.specs.declared.known.SegmentWindows.{SegmentWindows}
use Rattle.check_rows.specs.Cuts.{IsApart}
use Rattle.check_rows.specs.Returns.{AreListsBack}
use Rattle.check_rows.proofs.ListReturns.{lists-same, lists-past, lists-more, lists-apart}
use Rattle.check_rows.proofs.known.give_back_lists.Goals as goal
use Rattle.check_rows.proofs.known.give_back_lists.Goals.{then-at-len, else-at-len}

abbrev none : Segment
none = record { 0 = 0 }

pub loop-segment-init : goal.loop-segment-init
loop-segment-init g c = lists-same c.args.conflicts.now.sets (g.H.HoldsOf.held c.args.holds.now) c.args.span c.args.lists.now.items c.requires.apart

pub give_back-requires-clause-apart : goal.give_back-requires-clause-apart
give_back-requires-clause-apart g c =
    let now = c.loop-segment.lists.items in
    let there : (get_or c.args.segments.now c.loop-segment.segment-index none).0 < length now = omega (arith, c.if-at-len.true, c.len.ensures) in
    let at = get_or_read now (get_or c.args.segments.now c.loop-segment.segment-index none).0 c.index_mut.result.now there c.index_mut.ensures.value c.index_mut.result.now in
    subst IsApart (sym at) (lists-apart c.args.conflicts.now.sets (g.H.HoldsOf.held c.args.holds.now) (take c.loop-segment.segment-index c.args.segments.now) c.args.span c.args.lists.now.items now c.loop-segment.invariant _ c.index_mut.result.now there)

pub loop-segment-preserved : goal.loop-segment-preserved
loop-segment-preserved g c = elim c.if-at-len.branch [
  | then-at-len w ↦
      let there : (get_or c.args.segments.now c.loop-segment.segment-index none).0 < length c.loop-segment.lists.items = omega (arith, w.if-at-len.true, c.len.ensures) in
      let at : slice_get c.loop-segment.lists.items (get_or c.args.segments.now c.loop-segment.segment-index none).0 ≡ Some w.index_mut.result.now = slice_get_read _ _ _ _ refl there w.index_mut.ensures.value in
      subst (λ (l : Vec SegmentWindows Global). AreListsBack c.args.conflicts.now.sets (g.H.HoldsOf.held c.args.holds.now) (take (c.loop-segment.segment-index + 1) c.args.segments.now) c.args.span c.args.lists.now.items l.items) (sym w.lists-is)
      (lists-more c.args.conflicts.now.sets (g.H.HoldsOf.held c.args.holds.now) c.args.segments.now c.args.span c.loop-segment.segment-index none c.args.lists.now.items c.loop-segment.lists.items c.loop-segment-test.true c.loop-segment.invariant w.index_mut.result.now w.give_back.new.self there at w.give_back.ensures)
  | else-at-len w ↦
      let past : length c.loop-segment.lists.items ≤ (get_or c.args.segments.now c.loop-segment.segment-index none).0 = omega (arith, w.if-at-len.false, c.len.ensures) in
      subst (λ (l : Vec SegmentWindows Global). AreListsBack c.args.conflicts.now.sets (g.H.HoldsOf.held c.args.holds.now) (take (c.loop-segment.segment-index + 1) c.args.segments.now) c.args.span c.args.lists.now.items l.items) (sym w.lists-is)
      (lists-past c.args.conflicts.now.sets (g.H.HoldsOf.held c.args.holds.now) c.args.segments.now c.args.span c.loop-segment.segment-index none c.args.lists.now.items c.loop-segment.lists.items c.loop-segment-test.true c.loop-segment.invariant past)
]
