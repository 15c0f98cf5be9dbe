use Rattle.std.proofs.Common.{◌≡◌, All, length, IsFalse}
use Rattle.check_rows.proofs.known.KnownWindows.new.Given as goal

abbrev pub invariant-loop : goal.invariant-loop
invariant-loop l = record {
  count : length l.lists.items ≡ l.counter;
  none : All (λ list. IsFalse list.is_made) l.lists.items;
}
