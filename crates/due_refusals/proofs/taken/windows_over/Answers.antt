use Rattle.std.proofs.Common.{rules, leb}
use Rattle.std.proofs.lemmas.Fn.{always_returns_same}
use Rattle.std.proofs.lemmas.List.Sorted.{IsPartitionedBy-leb}
use Rattle.taxi_base.specs.declared.rows.Span.{Span}
use Rattle.check_rows.proofs.PlaceLaws.{apart-ends_ordered}
use Rattle.due_refusals.proofs.taken.windows_over.Goals as goal

pub returns-clause-point : goal.returns-clause-point
returns-clause-point c =
    c.partition_point.ensures.partitioned (λ (w : Span). leb w.until c.args.second) (always_returns_same _ _ _ (λ a r f k. search (rules)))
    (IsPartitionedBy-leb (λ (w : Span). w.until) c.args.windows.now c.args.second (apart-ends_ordered c.args.windows.now c.requires))
