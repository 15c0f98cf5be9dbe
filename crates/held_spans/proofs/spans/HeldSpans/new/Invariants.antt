use Rattle.std.proofs.Common.{◌≡◌, length, All, []}
use Rattle.held_spans.proofs.spans.HeldSpans.new.Given as goal

abbrev pub invariant-loop : goal.invariant-loop
invariant-loop l = record {
  count : length l.lists.items ≡ l.counter;
  none : All (λ list. list.rows ≡ []) l.lists.items;
}
