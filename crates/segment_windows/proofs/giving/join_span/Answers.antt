use Rattle.std.proofs.Common.{rules, ◌≡◌, ◌≤◌, ◌<◌, ◌++◌, ◌∙◌, true, false, length, get_or, take, drop, sym, arith}
use Rattle.std.specs.Prelude.{nat_lt}
use Rattle.std.specs.Result.{is_ok}
use Rattle.std.specs.List.Sorted.{IsPartitionPoint}
use Rattle.std.proofs.lemmas.Bool.{ltb-true, ltb-false}
use Rattle.taxi_base.specs.declared.rows.Span.{Span}
use Rattle.segment_windows.specs.Joins.{joined}
use Rattle.segment_windows.proofs.JoinLaws.{joined-past, joined-all}
use Rattle.segment_windows.proofs.giving.join_span.Goals as goal
use Rattle.segment_windows.proofs.giving.join_span.Goals.{After-windows_over-place}

few : (c : After-windows_over-place) → c.windows_over-place.result ≤ length c.args.windows.now.items
few c = rw c.deref.ensures.value at c.windows_over-place.ensures.few

point : (c : After-windows_over-place) → IsPartitionPoint (λ (w : Span). nat_lt w.until c.args.span.from ≡ true) (λ (w : Span). nat_lt w.until c.args.span.from ≡ false) c.args.windows.now.items c.windows_over-place.result
point c = rw c.deref.ensures.value at c.windows_over-place.ensures.point

same : (c : After-windows_over-place) → joined c.args.span c.args.windows.now.items ≡ take c.windows_over-place.result c.args.windows.now.items ++ joined c.args.span (drop c.windows_over-place.result c.args.windows.now.items)
same c =
    joined-past c.args.span 0 c.windows_over-place.result c.args.windows.now.items c.requires.some c.requires.apart (few c) (λ k d on. ltb-true _ _ ((point c).0 k d (omega arith) on))

pub join_at-requires-clause-place : goal.join_at-requires-clause-place
join_at-requires-clause-place c = (rw c.deref-2.ensures.value at (c.reaches_next.ensures.yes c.if-reaches_next.true)).0

pub join_at-requires-clause-reached : goal.join_at-requires-clause-reached
join_at-requires-clause-reached c = (rw c.deref-2.ensures.value at (c.reaches_next.ensures.yes c.if-reaches_next.true)).1

pub join_at-requires-clause-ends : goal.join_at-requires-clause-ends
join_at-requires-clause-ends c k d from low = ltb-false _ _ ((point (goal.at.join_at-requires-clause-ends c).After-windows_over-place).1 k d from low)

pub returns-then-reaches_next : goal.returns-then-reaches_next
returns-then-reaches_next c = c.join_at.ensures ∙ sym (same (goal.at.returns-then-reaches_next c).After-windows_over-place)

pub returns : goal.returns
returns c =
    let at = (goal.at.returns c).After-windows_over-place in
    let ws = c.args.windows.now.items in let n = c.windows_over-place.result in
    let good : is_ok c.insert.result ≡ true = search rules in
    let items = rw good at c.insert.ensures.items in
    let later : n < length ws → c.args.span.until < (get_or ws n c.args.span).from = rw c.deref-2.ensures.value at (c.reaches_next.ensures.no c.if-reaches_next.false) in
    joined-all (joined c.args.span ws) ws c.insert.new.self.items n c.args.span (few at) later (same at) items
