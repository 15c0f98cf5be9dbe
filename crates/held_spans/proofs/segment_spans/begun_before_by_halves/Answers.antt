use Rattle.std.proofs.Common.{ltb, rules}
use Rattle.std.proofs.lemmas.Bool.{ltb-true, ltb-false}
use Rattle.std.proofs.lemmas.List.Sorted.{IsPartitionedBy-ltb}
use Rattle.std.proofs.lemmas.Fn.{always_returns_same}
use Rattle.taxi_base.specs.declared.rows.Span.{Span}
use Rattle.held_spans.proofs.segment_spans.begun_before_by_halves.Goals as goal

pub returns-clause-before : goal.returns-clause-before
returns-clause-before c k d from low =
    let point = c.partition_point.ensures.partitioned (λ x. ltb x.from c.args.second) (always_returns_same _ _ _ (λ a r f k. search (rules))) (IsPartitionedBy-ltb (λ (span : Span). span.from) c.args.spans.now c.args.second c.requires) in
    ltb-true _ _ (point.0 k d from low)

pub returns-clause-after : goal.returns-clause-after
returns-clause-after c k d from low =
    let point = c.partition_point.ensures.partitioned (λ x. ltb x.from c.args.second) (always_returns_same _ _ _ (λ a r f k. search (rules))) (IsPartitionedBy-ltb (λ (span : Span). span.from) c.args.spans.now c.args.second c.requires) in
    ltb-false _ _ (point.1 k d from low)
