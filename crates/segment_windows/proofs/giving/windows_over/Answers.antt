use Rattle.std.proofs.Common.{rules, ltb}
use Rattle.std.proofs.lemmas.Fn.{always_returns_same}
use Rattle.std.proofs.lemmas.List.Sorted.{IsPartitionedBy-ltb}
use Rattle.taxi_base.specs.declared.rows.Span.{Span}
use Rattle.segment_windows.proofs.ApartLaws.{apart-ends_ordered}
use Rattle.segment_windows.proofs.giving.windows_over.Goals as goal

pub returns-clause-point : goal.returns-clause-point
returns-clause-point c =
    c.partition_point.ensures.partitioned (λ (w : Span). ltb w.until c.args.second) (always_returns_same _ _ _ (λ a r f k. search (rules)))
    (IsPartitionedBy-ltb (λ (w : Span). w.until) c.args.windows.now c.args.second (apart-ends_ordered c.args.windows.now c.requires))
