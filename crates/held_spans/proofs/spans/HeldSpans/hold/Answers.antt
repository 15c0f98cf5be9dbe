use Rattle.std.proofs.Common.{List, ◌++◌, take, subst}
use Rattle.std.proofs.lemmas.List.{take_all}
use Rattle.taxi_base.specs.declared.rows.Step.{Step}
use Rattle.taxi_base.specs.Windows.{Hold, holds_of}
use Rattle.held_spans.specs.Spans.{AreSpansOf, held_by, AreHeldBy, named_in_lists}
use Rattle.held_spans.proofs.SpanLaws.{AreHeldBy-own}
use Rattle.held_spans.proofs.AloneLaws.{unnamed-held_by, spans-more, spans-same}
use Rattle.held_spans.proofs.spans.HeldSpans.hold.Goals as goal

pub release-requires : goal.release-requires
release-requires c = (
  named_in_lists c.args.self.now,
  c.in-Err.ensures.err (named_in_lists c.args.self.now ++ held_by c.args.holder.now (holds_of c.args.horizon c.args.clearance (take c.loop-at.at c.args.steps.now)))
      (c.loop-at.invariant.spans (named_in_lists c.args.self.now) (AreHeldBy-own c.args.self.now)),
)

pub returns-in-Err-clause-spans_err : goal.returns-in-Err-clause-spans_err
returns-in-Err-clause-spans_err c =
    spans-same c.args.self.now c.release.new.self
    (λ holds are. c.release.ensures.gone holds
    (c.in-Err.ensures.err (holds ++ held_by c.args.holder.now (holds_of c.args.horizon c.args.clearance (take c.loop-at.at c.args.steps.now)))
    (c.loop-at.invariant.spans holds are)))

pub returns-clause-spans_ok : goal.returns-clause-spans_ok
returns-clause-spans_ok c holds had =
    let its = held_by c.args.holder.now (holds_of c.args.horizon c.args.clearance c.args.steps.now) in
    let all = take_all c.loop-at.at c.args.steps.now c.loop-at-test.false in
    subst (λ (alone : List Hold). AreSpansOf (holds ++ alone) c.loop-at.self) (unnamed-held_by c.args.holder.now (holds_of c.args.horizon c.args.clearance c.args.steps.now))
    (spans-more c.args.self.now c.loop-at.self its
    (λ others are. subst (λ (some : List Step). AreHeldBy (others ++ held_by c.args.holder.now (holds_of c.args.horizon c.args.clearance some)) c.loop-at.self) all (c.loop-at.invariant.spans others are)) holds had)
