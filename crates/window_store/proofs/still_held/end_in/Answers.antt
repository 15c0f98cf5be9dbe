use Rattle.std.proofs.Common.{sym}
use Rattle.std.proofs.lemmas.List.{take_all}
use Rattle.window_store.proofs.Seconds.{reaches-none, reaches-more}
use Rattle.window_store.proofs.still_held.end_in.Goals as goal

pub loop-step-init : goal.loop-step-init
loop-step-init c = reaches-none c.args.from

pub loop-step-preserved : goal.loop-step-preserved
loop-step-preserved c =
    reaches-more c.args.conflicts.now.sets c.args.segment c.args.term.horizon c.args.term.clearance c.args.steps.now c.loop-step.step-index _ c.args.from c.loop-step.until _ _ c.loop-step-test.true
    c.loop-step.invariant c.end_of.ensures c.max-until.ensures

pub returns : goal.returns
returns c = rw (sym (take_all c.loop-step.step-index c.args.steps.now c.loop-step-test.false)) c.loop-step.invariant
