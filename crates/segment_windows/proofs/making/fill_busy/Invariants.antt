use Rattle.std.proofs.Common.{◌≡◌, ◌<◌, ℕ, All, take}
use Rattle.std.specs.List.{list_any}
use Rattle.taxi_base.specs.Windows.{covers}
use Rattle.held_spans.specs.Holds.{held_at}
use Rattle.segment_windows.proofs.making.fill_busy.Given as goal

abbrev pub invariant-loop-segment : goal.invariant-loop-segment
invariant-loop-segment g l = record {
  some : All (λ s. s.from < s.until) l.busy.items;
  same : (t : ℕ) → covers l.busy.items t ≡ list_any (λ s. held_at (g.H.HoldsOf.held l.holds) s t) (take l.segment-index l.segments);
}
