use Rattle.std.proofs.Common.{◌+◌, ◌<◌, ◌≤◌, length, get_or, set, arith}
use Rattle.std.proofs.lemmas.List.Elements.{All-get_or}
use Rattle.taxi_base.specs.declared.numbers.Segment.{Segment}
use Rattle.window_store.specs.Store.{Store, of_lists_and_ids}
use Rattle.window_store.specs.Counts.{count_of, GainsNodes}
use Rattle.window_store.proofs.Rooms.{GainsNodes-none, GainsNodes-one, GainsNodes-both, next-below}
use Rattle.window_store.proofs.Counting.{counted-none, counted-more, counted-fresh, counted-few, counted-all, counted-part, counted-up, room-more}
use Rattle.window_store.proofs.Grown.{beside-at, beside-set}
use Rattle.window_store.proofs.Pieces.{All-ids_at}
use Rattle.window_store.proofs.edits.make_room_for_step.Goals as goal

abbrev none : Segment
none = record { 0 = 0 }

pub loop-segment-init : goal.loop-segment-init
loop-segment-init g c = record {
  counted = counted-none c.args.counts.now;
  room = c.requires.room;
  gained = GainsNodes-none c.args.counts.now _ c.requires.store;
  beside = c.requires.beside;
  kept = g.met.B.RoomBeside.keeps_itself c.args.beside.now;
}

pub count-steps-requires-clause-exists : goal.count-steps-requires-clause-exists
count-steps-requires-clause-exists g c =
    let row = c.segments_of-segment-items.result.now in
    let s : Segment = get_or row c.loop-segment.segment-index none in
    let exists : s.0 < length c.loop-segment.lists = omega (arith, c.loop-segment.auto.lists, c.requires.segments, All-get_or (λ (t : Segment). t.0 < c.args.conflicts.now.segments) row c.loop-segment.segment-index none c.loop-segment-test.true c.segments_of-segment-items.ensures.exist) in
    omega (arith, exists, c.loop-segment.auto.lists, c.requires.counts, c.loop-segment.invariant.counted.as_many)

pub count-steps-requires-clause-few : goal.count-steps-requires-clause-few
count-steps-requires-clause-few g c =
    let row = c.segments_of-segment-items.result.now in
    let s : Segment = get_or row c.loop-segment.segment-index none in
    let exists : s.0 < length c.loop-segment.lists = omega (arith, c.loop-segment.auto.lists, c.requires.segments, All-get_or (λ (t : Segment). t.0 < c.args.conflicts.now.segments) row c.loop-segment.segment-index none c.loop-segment-test.true c.segments_of-segment-items.ensures.exist) in
    let in_old : s.0 < length c.args.lists.now = omega (arith, exists, c.loop-segment.auto.lists) in
    let fresh = counted-fresh row c.loop-segment.segment-index none c.args.counts.now c.loop-segment.counts c.segments_of-segment-items.ensures.all.rising c.loop-segment-test.true
    (omega (arith, in_old, c.requires.counts)) c.loop-segment.invariant.counted in
    omega (arith, fresh, c.requires.few s in_old)

pub make_nodes-requires-clause-below : goal.make_nodes-requires-clause-below
make_nodes-requires-clause-below g c =
    let row = c.segments_of-segment-items.result.now in
    let s : Segment = get_or row c.loop-segment.segment-index none in
    let exists : s.0 < length c.loop-segment.lists = omega (arith, c.loop-segment.auto.lists, c.requires.segments, All-get_or (λ (t : Segment). t.0 < c.args.conflicts.now.segments) row c.loop-segment.segment-index none c.loop-segment-test.true c.segments_of-segment-items.ensures.exist) in
    All-ids_at (λ id. id < c.loop-segment.ids.next) c.loop-segment.lists s.0 c.index-lists-segment.result exists c.loop-segment.invariant.gained.store.below

pub make_nodes-requires-clause-fits : goal.make_nodes-requires-clause-fits
make_nodes-requires-clause-fits g c =
    let row = c.segments_of-segment-items.result.now in
    let s : Segment = get_or row c.loop-segment.segment-index none in
    let exists : s.0 < length c.loop-segment.lists = omega (arith, c.loop-segment.auto.lists, c.requires.segments, All-get_or (λ (t : Segment). t.0 < c.args.conflicts.now.segments) row c.loop-segment.segment-index none c.loop-segment-test.true c.segments_of-segment-items.ensures.exist) in
    let was : Store = of_lists_and_ids c.args.lists.now c.args.ids.now.next in
    let now : Store = of_lists_and_ids c.loop-segment.lists c.loop-segment.ids.next in
    let few = counted-few row c.loop-segment.segment-index none c.index-lists-segment.result c.args.counts.now c.loop-segment.counts c.count-steps.new.self was now c.segments_of-segment-items.ensures.all.rising c.loop-segment-test.true
    c.requires.counts exists c.loop-segment.invariant.counted c.count-steps.ensures.more c.loop-segment.invariant.gained c.requires.few in
    omega (arith, few, c.held.ensures, c.count-steps.ensures.now, next-below now c.loop-segment.invariant.gained.store)

pub make_nodes-requires-clause-few : goal.make_nodes-requires-clause-few
make_nodes-requires-clause-few g c =
    let row = c.segments_of-segment-items.result.now in
    let s : Segment = get_or row c.loop-segment.segment-index none in
    let exists : s.0 < length c.loop-segment.lists = omega (arith, c.loop-segment.auto.lists, c.requires.segments, All-get_or (λ (t : Segment). t.0 < c.args.conflicts.now.segments) row c.loop-segment.segment-index none c.loop-segment-test.true c.segments_of-segment-items.ensures.exist) in
    let was : Store = of_lists_and_ids c.args.lists.now c.args.ids.now.next in
    let now : Store = of_lists_and_ids c.loop-segment.lists c.loop-segment.ids.next in
    let few = counted-few row c.loop-segment.segment-index none c.index-lists-segment.result c.args.counts.now c.loop-segment.counts c.count-steps.new.self was now c.segments_of-segment-items.ensures.all.rising c.loop-segment-test.true
    c.requires.counts exists c.loop-segment.invariant.counted c.count-steps.ensures.more c.loop-segment.invariant.gained c.requires.few in
    omega (arith, few, c.held.ensures, c.count-steps.ensures.now)

pub returns-in_err-make_nodes-clause-at_most : goal.returns-in_err-make_nodes-clause-at_most
returns-in_err-make_nodes-clause-at_most g c =
    let row = c.segments_of-segment-items.result.now in
    counted-part c.args.conflicts.now.sets c.args.step.now row (c.loop-segment.segment-index + 1) c.args.counts.now c.count-steps.new.self c.segments_of-segment-items.ensures.all
    (counted-more row c.loop-segment.segment-index none c.args.counts.now c.loop-segment.counts c.count-steps.new.self c.loop-segment-test.true c.loop-segment.invariant.counted c.count-steps.ensures.more)

pub returns-in_err-make_nodes-clause-gained : goal.returns-in_err-make_nodes-clause-gained
returns-in_err-make_nodes-clause-gained g c =
    let row = c.segments_of-segment-items.result.now in
    let s : Segment = get_or row c.loop-segment.segment-index none in
    let exists : s.0 < length c.loop-segment.lists = omega (arith, c.loop-segment.auto.lists, c.requires.segments, All-get_or (λ (t : Segment). t.0 < c.args.conflicts.now.segments) row c.loop-segment.segment-index none c.loop-segment-test.true c.segments_of-segment-items.ensures.exist) in
    let was : Store = of_lists_and_ids c.args.lists.now c.args.ids.now.next in
    let now : Store = of_lists_and_ids c.loop-segment.lists c.loop-segment.ids.next in
    let few = counted-few row c.loop-segment.segment-index none c.index-lists-segment.result c.args.counts.now c.loop-segment.counts c.count-steps.new.self was now c.segments_of-segment-items.ensures.all.rising c.loop-segment-test.true
    c.requires.counts exists c.loop-segment.invariant.counted c.count-steps.ensures.more c.loop-segment.invariant.gained c.requires.few in
    let gained : GainsNodes c.count-steps.new.self now (of_lists_and_ids (set now.lists s.0 c.make_nodes.new.list) c.make_nodes.new.ids.next) =
    GainsNodes-one now.lists s.0 c.make_nodes.new.list _ now.next c.make_nodes.new.ids.next c.count-steps.new.self c.index-lists-segment.result exists
    (omega (arith, few, c.held.ensures, c.count-steps.ensures.now)) (omega (arith, c.held.ensures, c.count-steps.ensures.now)) c.loop-segment.invariant.gained.store c.make_nodes.ensures.roomier in
    let up : (t : Segment) → t.0 < length was.lists → count_of c.loop-segment.counts t ≤ count_of c.count-steps.new.self t = λ t low.
    counted-up s c.loop-segment.counts c.count-steps.new.self c.count-steps.ensures.more t (omega (arith, low, c.requires.counts, c.loop-segment.invariant.counted.as_many)) in
    GainsNodes-both c.loop-segment.counts c.count-steps.new.self was now _ c.loop-segment.invariant.gained gained up

pub loop-segment-preserved : goal.loop-segment-preserved
loop-segment-preserved g c =
    let row = c.segments_of-segment-items.result.now in
    let s : Segment = get_or row c.loop-segment.segment-index none in
    let exists : s.0 < length c.loop-segment.lists = omega (arith, c.loop-segment.auto.lists, c.requires.segments, All-get_or (λ (t : Segment). t.0 < c.args.conflicts.now.segments) row c.loop-segment.segment-index none c.loop-segment-test.true c.segments_of-segment-items.ensures.exist) in
    let was : Store = of_lists_and_ids c.args.lists.now c.args.ids.now.next in
    let now : Store = of_lists_and_ids c.loop-segment.lists c.loop-segment.ids.next in
    let few = counted-few row c.loop-segment.segment-index none c.index-lists-segment.result c.args.counts.now c.loop-segment.counts c.count-steps.new.self was now c.segments_of-segment-items.ensures.all.rising c.loop-segment-test.true
    c.requires.counts exists c.loop-segment.invariant.counted c.count-steps.ensures.more c.loop-segment.invariant.gained c.requires.few in
    let gained : GainsNodes c.count-steps.new.self now (of_lists_and_ids (set now.lists s.0 c.make_nodes.new.list) c.make_nodes.new.ids.next) =
    GainsNodes-one now.lists s.0 c.make_nodes.new.list _ now.next c.make_nodes.new.ids.next c.count-steps.new.self c.index-lists-segment.result exists
    (omega (arith, few, c.held.ensures, c.count-steps.ensures.now)) (omega (arith, c.held.ensures, c.count-steps.ensures.now)) c.loop-segment.invariant.gained.store c.make_nodes.ensures.roomier in
    let up : (t : Segment) → t.0 < length was.lists → count_of c.loop-segment.counts t ≤ count_of c.count-steps.new.self t = λ t low.
    counted-up s c.loop-segment.counts c.count-steps.new.self c.count-steps.ensures.more t (omega (arith, low, c.requires.counts, c.loop-segment.invariant.counted.as_many)) in
    record {
      counted = counted-more row c.loop-segment.segment-index none c.args.counts.now c.loop-segment.counts c.count-steps.new.self c.loop-segment-test.true c.loop-segment.invariant.counted c.count-steps.ensures.more;
      room = room-more c.loop-segment.counts c.count-steps.new.self now.lists s c.index-lists-segment.result c.make_nodes.new.list exists (omega (arith, c.requires.counts, c.loop-segment.invariant.counted.as_many, c.loop-segment.auto.lists)) c.count-steps.ensures.more
          c.make_nodes.ensures.roomier.held (omega (arith, c.in_ok-make_nodes.ensures.enough, c.held.ensures, c.count-steps.ensures.now)) c.loop-segment.invariant.room;
      gained = GainsNodes-both c.loop-segment.counts c.count-steps.new.self was now _ c.loop-segment.invariant.gained gained up;
      beside = beside-set _ _ (g.B.RoomBeside.room c.loop-segment.beside) (g.B.RoomBeside.room c.make_nodes.new.beside) now.lists s c.make_nodes.new.list exists c.make_nodes.ensures.as_many c.make_nodes.ensures.gained c.make_nodes.ensures.beside c.loop-segment.invariant.beside;
      kept = g.met.B.RoomBeside.keeps_further _ _ _ c.loop-segment.invariant.kept c.make_nodes.ensures.kept;
    }

pub returns-clause-counted : goal.returns-clause-counted
returns-clause-counted g c =
    counted-all c.args.conflicts.now.sets c.args.step.now c.segments_of-segment-items.result.now c.loop-segment.segment-index c.args.counts.now c.loop-segment.counts c.segments_of-segment-items.ensures.all c.loop-segment-test.false
    c.loop-segment.invariant.counted

pub returns-clause-at_most : goal.returns-clause-at_most
returns-clause-at_most g c =
    counted-part c.args.conflicts.now.sets c.args.step.now c.segments_of-segment-items.result.now c.loop-segment.segment-index c.args.counts.now c.loop-segment.counts c.segments_of-segment-items.ensures.all c.loop-segment.invariant.counted

pub make_nodes-requires-clause-exists : goal.make_nodes-requires-clause-exists
make_nodes-requires-clause-exists g c =
    let row = c.segments_of-segment-items.result.now in
    let s : Segment = get_or row c.loop-segment.segment-index none in
    let exists : s.0 < length c.loop-segment.lists = omega (arith, c.loop-segment.auto.lists, c.requires.segments, All-get_or (λ (t : Segment). t.0 < c.args.conflicts.now.segments) row c.loop-segment.segment-index none c.loop-segment-test.true c.segments_of-segment-items.ensures.exist) in
    omega (arith, exists, c.loop-segment.invariant.beside.as_many)

pub make_nodes-requires-clause-beside : goal.make_nodes-requires-clause-beside
make_nodes-requires-clause-beside g c =
    let row = c.segments_of-segment-items.result.now in
    let s : Segment = get_or row c.loop-segment.segment-index none in
    let exists : s.0 < length c.loop-segment.lists = omega (arith, c.loop-segment.auto.lists, c.requires.segments, All-get_or (λ (t : Segment). t.0 < c.args.conflicts.now.segments) row c.loop-segment.segment-index none c.loop-segment-test.true c.segments_of-segment-items.ensures.exist) in
    beside-at _ (g.B.RoomBeside.room c.loop-segment.beside) c.loop-segment.lists s c.index-lists-segment.result exists c.loop-segment.invariant.beside

pub returns-in_err-make_nodes-clause-beside : goal.returns-in_err-make_nodes-clause-beside
returns-in_err-make_nodes-clause-beside g c =
    let row = c.segments_of-segment-items.result.now in
    let s : Segment = get_or row c.loop-segment.segment-index none in
    let exists : s.0 < length c.loop-segment.lists = omega (arith, c.loop-segment.auto.lists, c.requires.segments, All-get_or (λ (t : Segment). t.0 < c.args.conflicts.now.segments) row c.loop-segment.segment-index none c.loop-segment-test.true c.segments_of-segment-items.ensures.exist) in
    beside-set _ _ (g.B.RoomBeside.room c.loop-segment.beside) (g.B.RoomBeside.room c.make_nodes.new.beside) c.loop-segment.lists s c.make_nodes.new.list exists c.make_nodes.ensures.as_many c.make_nodes.ensures.gained c.make_nodes.ensures.beside c.loop-segment.invariant.beside

pub returns-in_err-make_nodes-clause-kept : goal.returns-in_err-make_nodes-clause-kept
returns-in_err-make_nodes-clause-kept g c = g.met.B.RoomBeside.keeps_further _ _ _ c.loop-segment.invariant.kept c.make_nodes.ensures.kept
