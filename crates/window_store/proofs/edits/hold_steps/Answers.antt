use Rattle.std.proofs.Common.{sym}
use Rattle.std.proofs.lemmas.List.{take_more, take_all}
use Rattle.taxi_base.specs.declared.rows.Step.{Step}
use Rattle.window_store.proofs.Runs.{AreHeld-none, AreHeld-more, can_hold}
use Rattle.window_store.proofs.edits.hold_steps.Goals as goal

abbrev none : Step
none = record { arc = record { 0 = 0 }; enter = 0; leave = 0 }

pub loop-step-init : goal.loop-step-init
loop-step-init c = AreHeld-none c.args.term.horizon c.args.term.clearance c.args.conflicts.now.sets c.args.lists.now

pub hold_step-requires-clause-can : goal.hold_step-requires-clause-can
hold_step-requires-clause-can c =
    can_hold c.args.term.horizon c.args.term.clearance c.args.conflicts.now.sets c.args.steps.now c.loop-step.step-index none c.args.lists.now c.loop-step.lists c.requires.stands c.requires.room c.loop-step.invariant c.loop-step-test.true

pub loop-step-preserved : goal.loop-step-preserved
loop-step-preserved c =
    rw (take_more c.args.steps.now c.loop-step.step-index none c.loop-step-test.true)
    (AreHeld-more c.args.term.horizon c.args.term.clearance c.args.conflicts.now.sets _ _ c.args.lists.now c.loop-step.lists c.hold_step.new.lists c.loop-step.invariant c.hold_step.ensures)

pub returns : goal.returns
returns c = rw (sym (take_all c.loop-step.step-index c.args.steps.now c.loop-step-test.false)) c.loop-step.invariant
