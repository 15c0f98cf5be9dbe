use Rattle.std.proofs.Common.{◌≡◌, ltb, true, subst, arith, rules}
use Rattle.std.specs.List.Sorted.{IsPartitionedBy}
use Rattle.std.proofs.lemmas.Bool.{ltb-true, ltb-false, lt-ltb}
use Rattle.std.proofs.lemmas.List.{get_or_default}
use Rattle.std.proofs.lemmas.Fn.{always_returns_same}
use Rattle.taxi_base.specs.declared.rows.Span.{Span}
use Rattle.window_rows.specs.Rows.{no_window, window_at}
use Rattle.window_rows.proofs.RowLaws.{apart_rising}
use Rattle.window_rows.proofs.rows.first_by_halves.Goals as goal

pub returns : goal.returns
returns c =
    let row = c.args.row.now in let second = c.args.second in
    let parted : IsPartitionedBy (λ (x : Span). ltb x.until second) row = λ i j d le on over.
    let at_j : ltb (window_at row j).until second ≡ true = subst (λ (x : Span). ltb x.until second ≡ true) (get_or_default row j d no_window on) over in
    let at_i : ltb (window_at row i).until second ≡ true = lt-ltb (window_at row i).until second (omega (arith, apart_rising row c.requires i j le on, ltb-true (window_at row j).until second at_j)) in
    subst (λ (x : Span). ltb x.until second ≡ true) (get_or_default row i no_window d (omega (arith, le, on))) at_i in
    let point = c.partition_point.ensures.partitioned (λ x. ltb x.until second) (always_returns_same _ _ _ (λ a r f k. search (rules))) parted in
    record {
      few = c.partition_point.ensures.bound;
      over = λ k below. ltb-true (window_at row k).until second (point.0 k no_window (omega arith) below);
      rest = λ k from on. ltb-false (window_at row k).until second (point.1 k no_window from on);
    }
