use Rattle.std.proofs.Common.{List, ◌∷◌, ◌++◌, ◌+◌, drop, sym, subst, arith}
use Rattle.taxi_base.specs.Windows.{Hold, holds_of}
use Rattle.taxi_base.proofs.ListLaws.{Contains-first}
use Rattle.held_spans.specs.Spans.{AreSpansOf, held_by}
use Rattle.held_spans.proofs.SpanLaws.{one_hold, held-among}
use Rattle.held_spans.proofs.AloneLaws.{unnamed-held_by, spans-less}
use Rattle.held_spans.proofs.LoopLaws.{first-left, steps_on-more, none-left, steps_on-all}
use Rattle.held_spans.proofs.spans.HeldSpans.release.Goals as goal

pub take-requires : goal.take-requires
take-requires c =
    let rest = c.requires.0 ++ held_by c.args.holder.now (holds_of c.args.horizon c.args.clearance (drop (c.loop-step.step-index + 1) c.args.steps.now)) in
    let first = first-left c.args.holder.now c.args.horizon c.args.clearance c.args.steps.now c.loop-step.step-index c.segment.result c.held.result c.loop-step-test.true c.segment.ensures c.held.ensures c.loop-step.self c.requires.0
    (c.loop-step.invariant.spans c.requires.0 c.requires.1) in
    let one = one_hold c.segment.result c.held.result c.args.holder.now in
    held-among c.segment.result c.held.result c.args.holder.now c.loop-step.self (one ∷ rest) first (Contains-first one rest)

pub loop-step-preserved : goal.loop-step-preserved
loop-step-preserved c = record {
  spans = λ holds are. c.take.ensures.gone (holds ++ held_by c.args.holder.now (holds_of c.args.horizon c.args.clearance (drop (c.loop-step.step-index + 1) c.args.steps.now)))
      (first-left c.args.holder.now c.args.horizon c.args.clearance c.args.steps.now c.loop-step.step-index c.segment.result c.held.result c.loop-step-test.true c.segment.ensures c.held.ensures c.loop-step.self holds
      (c.loop-step.invariant.spans holds are));
  room = λ s. omega (
    arith,
    c.loop-step.invariant.room s,
    c.take.ensures.room s,
    steps_on-more c.args.holder.now c.args.horizon c.args.clearance c.args.steps.now c.loop-step.step-index c.segment.result c.held.result c.loop-step-test.true c.segment.ensures c.held.ensures s,
  );
  count = omega (arith, c.take.ensures.count, c.loop-step.invariant.count);
}

pub returns-clause-gone : goal.returns-clause-gone
returns-clause-gone c holds are =
    none-left c.args.holder.now c.args.horizon c.args.clearance c.args.steps.now c.loop-step.step-index c.loop-step-test.false c.loop-step.self holds (c.loop-step.invariant.spans holds are)

pub returns-clause-spans_gone : goal.returns-clause-spans_gone
returns-clause-spans_gone c holds had =
    let steps_hold = holds_of c.args.horizon c.args.clearance c.args.steps.now in
    let left = none-left c.args.holder.now c.args.horizon c.args.clearance c.args.steps.now c.loop-step.step-index c.loop-step-test.false c.loop-step.self c.requires.0 (c.loop-step.invariant.spans c.requires.0 c.requires.1) in
    spans-less c.args.self.now c.loop-step.self c.requires.0 (held_by c.args.holder.now steps_hold) c.requires.1 left holds
    (subst (λ (its : List Hold). AreSpansOf (holds ++ its) c.args.self.now) (sym (unnamed-held_by c.args.holder.now steps_hold)) had)

pub returns-clause-room : goal.returns-clause-room
returns-clause-room c s = omega (arith, c.loop-step.invariant.room s, steps_on-all c.args.steps.now c.loop-step.step-index c.loop-step-test.false s)
