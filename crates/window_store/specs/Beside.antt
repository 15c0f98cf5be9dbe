-- What has room by segment beside lists of windows.
use Rattle.std.specs.Prelude.{ℕ, ◌≡◌, ◌+◌, ◌<◌, ◌≤◌, List, length, slice_index_or}
use Rattle.taxi_base.specs.declared.numbers.Segment.{Segment}
use Rattle.window_store.specs.Spans.{Listed, nodes}
use Rattle.window_store.specs.Store.{no_list}

-- it has as many segments as there are lists, and on each room for one hold fewer than the list has nodes
pub record HasRoomBeside (segments : ℕ) (room : Segment → ℕ) (lists : List Listed) : Type 0 where
  pub as_many : segments ≡ length lists
  pub each : (segment : Segment) → segment.0 < length lists → nodes (slice_index_or lists segment.0 no_list) ≤ 1 + room segment
