use Rattle.std.proofs.Common.{◌≡◌, ◌≤◌, ◌<◌, ◌+◌, ◌++◌, ◌-◌, take, drop, length, get_or, ℕ}
use Rattle.taxi_base.specs.declared.rows.Span.{Span}
use Rattle.segment_windows.specs.Joins.{joined}
use Rattle.segment_windows.proofs.giving.join_at.Given as goal

-- the windows before the place stay, and those behind it are to be joined to what the span has become
abbrev pub invariant-loop-windows : goal.invariant-loop-windows
invariant-loop-windows l = record {
  few : l.place < length l.windows.items;
  begins : l.whole.from ≤ l.fn.span.from;
  ends : (k : ℕ) (d : Span) → l.place ≤ k → k < length l.windows.items → l.fn.span.from ≤ (get_or l.windows.items k d).until;
  same : take l.place l.fn.windows.items ++ joined l.fn.span (drop l.place l.fn.windows.items) ≡ take l.place l.windows.items ++ joined l.whole (drop (l.place + 1) l.windows.items);
}

abbrev pub decreases-loop-windows : goal.decreases-loop-windows
decreases-loop-windows l = length l.windows.items - l.place
