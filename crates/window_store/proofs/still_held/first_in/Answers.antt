use Rattle.std.proofs.Common.{sym}
use Rattle.std.proofs.lemmas.List.{take_all}
use Rattle.window_store.proofs.Seconds.{first-none, first-more}
use Rattle.window_store.proofs.still_held.first_in.Goals as goal

pub loop-step-init : goal.loop-step-init
loop-step-init c = first-none c.args.from c.args.until c.requires.order

pub first_of-first-requires-clause-order : goal.first_of-first-requires-clause-order
first_of-first-requires-clause-order c = c.loop-step.invariant.not_before

pub loop-step-preserved : goal.loop-step-preserved
loop-step-preserved c =
    first-more c.args.conflicts.now.sets c.args.segment c.args.term.horizon c.args.term.clearance c.args.steps.now c.loop-step.step-index _ c.args.from c.args.until c.loop-step.first _ c.loop-step-test.true
    c.loop-step.invariant c.first_of-first.ensures

pub returns : goal.returns
returns c = rw (sym (take_all c.loop-step.step-index c.args.steps.now c.loop-step-test.false)) c.loop-step.invariant
