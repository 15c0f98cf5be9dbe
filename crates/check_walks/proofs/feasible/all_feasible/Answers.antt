use Rattle.taxi_base.specs.Walks.{conditions_among, IsFeasibleStep}
use Rattle.check_rows.proofs.LoopLaws.{all-fails, all-holds, all-more, says-no, says-yes}
use Rattle.held_spans.proofs.LoopLaws.{no_step}
use Rattle.check_walks.proofs.feasible.all_feasible.Goals as goal

pub returns-then-not-made-clause-each : goal.returns-then-not-made-clause-each
returns-then-not-made-clause-each g c =
    all-fails (IsFeasibleStep (conditions_among c.args.airport.now c.args.class (g.H.HoldsOf.held c.args.holds.now))) c.args.steps.now c.loop-step.step-index no_step c.loop-step-test.true
    (says-no _ c.if-not-made.true c.in_ok-made.ensures.made)

pub loop-step-preserved : goal.loop-step-preserved
loop-step-preserved g c = record {
  known = c.is_feasible_step.ensures.known;
  each =
      all-more (IsFeasibleStep (conditions_among c.args.airport.now c.args.class (g.H.HoldsOf.held c.args.holds.now))) c.args.steps.now c.loop-step.step-index no_step c.loop-step-test.true
      c.loop-step.invariant.each (says-yes _ c.if-not-made.false c.in_ok-made.ensures.made);
}

pub returns-clause-each : goal.returns-clause-each
returns-clause-each g c =
    all-holds (IsFeasibleStep (conditions_among c.args.airport.now c.args.class (g.H.HoldsOf.held c.args.holds.now))) c.args.steps.now c.loop-step.step-index c.loop-step-test.false c.loop-step.invariant.each
