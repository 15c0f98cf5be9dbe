use Rattle.std.proofs.Common.{◌≡◌, leb, true, subst, arith, rules}
use Rattle.std.specs.List.Sorted.{IsPartitionedBy}
use Rattle.std.proofs.lemmas.Bool.{leb-true, leb-false, le-leb}
use Rattle.std.proofs.lemmas.List.{get_or_default}
use Rattle.std.proofs.lemmas.Fn.{always_returns_same}
use Rattle.taxi_base.specs.declared.rows.Span.{Span}
use Rattle.window_store.specs.Rows.{no_span, span_in}
use Rattle.window_rows.proofs.RowLaws.{apart_rising}
use Rattle.window_store.proofs.row.over_by_halves.Goals as goal

pub returns : goal.returns
returns c =
    let row = c.args.row.now in let second = c.args.second in
    let parted : IsPartitionedBy (λ (x : Span). leb x.until second) row = λ i j d le on over.
    let at_j : leb (span_in row j).until second ≡ true = subst (λ (x : Span). leb x.until second ≡ true) (get_or_default row j d no_span on) over in
    let at_i : leb (span_in row i).until second ≡ true = le-leb (span_in row i).until second (omega (arith, apart_rising row c.requires i j le on, leb-true (span_in row j).until second at_j)) in
    subst (λ (x : Span). leb x.until second ≡ true) (get_or_default row i no_span d (omega (arith, le, on))) at_i in
    let point = c.partition_point.ensures.partitioned (λ x. leb x.until second) (always_returns_same _ _ _ (λ a r f k. search (rules))) parted in
    record {
      few = c.partition_point.ensures.bound;
      over = λ k below. leb-true (span_in row k).until second (point.0 k no_span (omega arith) below);
      later = λ k from on. omega (arith, leb-false (span_in row k).until second (point.1 k no_span from on));
    }
