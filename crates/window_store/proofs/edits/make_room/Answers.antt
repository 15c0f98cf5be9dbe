use Rattle.std.proofs.Common.{length, arith}
use Rattle.taxi_base.specs.declared.rows.Step.{Step}
use Rattle.window_store.proofs.Rooms.{GainsNodes-none, GainsNodes-both}
use Rattle.window_store.proofs.Counting.{AreCounted-none, AreCounted-more, AreCounted-below, AreCounted-few, AreCounted-all, room-none, room-all, gained-for}
use Rattle.window_store.proofs.edits.make_room.Goals as goal

abbrev none : Step
none = record { arc = record { 0 = 0 }; enter = 0; leave = 0 }

pub loop-step-init : goal.loop-step-init
loop-step-init g c = record {
  counted = AreCounted-none c.args.conflicts.now.sets c.args.steps.now (length c.args.lists.now) c.clear.new.self (omega (arith, c.clear.ensures.as_many, c.requires.counts)) c.clear.ensures.none;
  room = room-none c.clear.new.self c.args.lists.now c.clear.ensures.none c.requires.room;
  gained = GainsNodes-none c.clear.new.self _ c.requires.store;
  beside = c.requires.beside;
  kept = g.met.B.RoomBeside.keeps_itself c.args.beside.now;
}

pub make_room_for_step-requires-clause-counts : goal.make_room_for_step-requires-clause-counts
make_room_for_step-requires-clause-counts g c = omega (arith, c.loop-step.invariant.counted.as_many, c.loop-step.invariant.gained.gained.lists)

pub make_room_for_step-requires-clause-few : goal.make_room_for_step-requires-clause-few
make_room_for_step-requires-clause-few g c =
    AreCounted-few c.args.conflicts.now.sets c.args.steps.now (length c.args.lists.now) c.loop-step.step-index none c.loop-step-test.true c.loop-step.counts c.loop-step.counts c.loop-step.invariant.counted
    _ _ (omega arith) c.loop-step.invariant.gained c.requires.few

pub make_room_for_step-requires-clause-store : goal.make_room_for_step-requires-clause-store
make_room_for_step-requires-clause-store g c = c.loop-step.invariant.gained.store

pub make_room_for_step-requires-clause-room : goal.make_room_for_step-requires-clause-room
make_room_for_step-requires-clause-room g c = c.loop-step.invariant.room

pub loop-step-preserved : goal.loop-step-preserved
loop-step-preserved g c =
    let counted = c.in_ok-make_room_for_step.ensures.counted in
    let as_many = c.loop-step.invariant.counted.as_many in
    record {
      counted = AreCounted-more c.args.conflicts.now.sets c.args.steps.now (length c.args.lists.now) c.loop-step.step-index none c.loop-step-test.true c.loop-step.counts c.make_room_for_step.new.counts c.loop-step.invariant.counted counted;
      room = c.in_ok-make_room_for_step.ensures.room;
      gained = GainsNodes-both c.loop-step.counts c.make_room_for_step.new.counts _ _ _ c.loop-step.invariant.gained c.in_ok-make_room_for_step.ensures.gained
          (λ s low. c.in_ok-make_room_for_step.ensures.at_most.least s (omega (arith, low, as_many)));
      beside = c.make_room_for_step.ensures.beside;
      kept = g.met.B.RoomBeside.keeps_further _ _ _ c.loop-step.invariant.kept c.make_room_for_step.ensures.kept;
    }

pub returns-in_err-make_room_for_step-clause-gained : goal.returns-in_err-make_room_for_step-clause-gained
returns-in_err-make_room_for_step-clause-gained g c =
    let as_many = c.loop-step.invariant.counted.as_many in
    let at_most = c.in_err-make_room_for_step.ensures.at_most in
    gained-for c.args.conflicts.now.sets c.args.steps.now c.make_room_for_step.new.counts _ _
    (AreCounted-below c.args.conflicts.now.sets c.args.steps.now (length c.args.lists.now) c.loop-step.step-index none c.loop-step-test.true c.loop-step.counts c.make_room_for_step.new.counts c.loop-step.invariant.counted at_most)
    (GainsNodes-both c.loop-step.counts c.make_room_for_step.new.counts _ _ _ c.loop-step.invariant.gained c.in_err-make_room_for_step.ensures.gained (λ s low. at_most.least s (omega (arith, low, as_many))))

pub returns-in_err-make_room_for_step-clause-counts : goal.returns-in_err-make_room_for_step-clause-counts
returns-in_err-make_room_for_step-clause-counts g c =
    omega (arith, c.in_err-make_room_for_step.ensures.at_most.as_many, c.in_err-make_room_for_step.ensures.gained.gained.lists, c.loop-step.invariant.counted.as_many, c.loop-step.invariant.gained.gained.lists)

pub returns-clause-room : goal.returns-clause-room
returns-clause-room g c =
    room-all c.args.conflicts.now.sets c.args.steps.now (length c.args.lists.now) c.loop-step.counts c.loop-step.lists c.loop-step.invariant.gained.gained.lists
    (AreCounted-all c.args.conflicts.now.sets c.args.steps.now (length c.args.lists.now) c.loop-step.step-index c.loop-step.counts c.loop-step-test.false c.loop-step.invariant.counted) c.loop-step.invariant.room

pub returns-clause-gained : goal.returns-clause-gained
returns-clause-gained g c =
    let counted = AreCounted-all c.args.conflicts.now.sets c.args.steps.now (length c.args.lists.now) c.loop-step.step-index c.loop-step.counts c.loop-step-test.false c.loop-step.invariant.counted in
    gained-for c.args.conflicts.now.sets c.args.steps.now c.loop-step.counts _ _ (λ s low. omega (arith, counted.each s low)) c.loop-step.invariant.gained

pub returns-clause-counts : goal.returns-clause-counts
returns-clause-counts g c = omega (arith, c.loop-step.invariant.counted.as_many, c.loop-step.invariant.gained.gained.lists)

pub make_room_for_step-requires-clause-beside : goal.make_room_for_step-requires-clause-beside
make_room_for_step-requires-clause-beside g c = c.loop-step.invariant.beside

pub returns-in_err-make_room_for_step-clause-kept : goal.returns-in_err-make_room_for_step-clause-kept
returns-in_err-make_room_for_step-clause-kept g c = g.met.B.RoomBeside.keeps_further _ _ _ c.loop-step.invariant.kept c.make_room_for_step.ensures.kept
