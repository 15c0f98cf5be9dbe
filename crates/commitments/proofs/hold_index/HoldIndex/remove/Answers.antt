use Rattle.commitments.proofs.Arranged.{next-there}
use Rattle.taxi_base.specs.declared.rows.Step.{Step}
use Rattle.commitments.specs.Held.{all_steps}
use Rattle.commitments.proofs.hold_index.HoldIndex.remove.Goals as goal

abbrev none : Step
none = record { arc = record { 0 = 0 }; enter = 0; leave = 0 }

pub remove_one-requires-clause-there : goal.remove_one-requires-clause-there
remove_one-requires-clause-there c =
    next-there (all_steps c.args.self.now) (all_steps c.loop-step.self) c.args.holder.now c.args.steps.now c.loop-step.step-index none c.loop-step-test.true c.requires.among c.loop-step.invariant.0
