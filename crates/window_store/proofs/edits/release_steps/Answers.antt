use Rattle.window_store.proofs.Runs.{ReleasedSoFar-none, ReleasedSoFar-more, AreReleased-all}
use Rattle.window_store.proofs.edits.release_steps.Goals as goal

pub loop-place-init : goal.loop-place-init
loop-place-init g c = ReleasedSoFar-none c.args.term.horizon c.args.term.clearance c.args.conflicts.now.sets (g.R.OtherHolds.holds c.args.remaining.now) c.args.steps.now c.args.lists.now c.requires.stands

pub release_step-requires-clause-stands : goal.release_step-requires-clause-stands
release_step-requires-clause-stands g c = λ s low met. c.loop-place.invariant.stands s low

pub loop-place-preserved : goal.loop-place-preserved
loop-place-preserved g c =
    ReleasedSoFar-more c.args.term.horizon c.args.term.clearance c.args.conflicts.now.sets (g.R.OtherHolds.holds c.args.remaining.now) c.args.steps.now c.loop-place.place c.loop-place-test.true c.args.lists.now c.loop-place.lists c.release_step.new.lists c.loop-place.invariant c.release_step.ensures

pub returns : goal.returns
returns g c = AreReleased-all c.args.term.horizon c.args.term.clearance c.args.conflicts.now.sets (g.R.OtherHolds.holds c.args.remaining.now) c.args.steps.now c.loop-place.place c.args.lists.now c.loop-place.lists c.loop-place-test.false c.loop-place.invariant
