-- What contracts see of a segment's windows, and which spans they stand for.
use Rattle.std.specs.Prelude.{ℕ, ◌≡◌, ◌+◌, ◌≤◌, Bool, not, ◌&&◌, nat_lt, List, length}
use Rattle.taxi_base.specs.declared.rows.Span.{Span}
use Rattle.taxi_base.specs.Windows.{covers, AreWindows}
use Rattle.interval_list.specs.Intervals.{Intervals, spans_of}

-- the windows with their spare nodes, and for how many spans the segment is held
pub record Listed : Type 0 where
  pub intervals : Intervals
  pub held : ℕ

-- windows and spare nodes together
abbrev pub nodes : Listed → ℕ
nodes l = length l.intervals.windows + length l.intervals.spare

-- whether a second before the horizon is in none of the spans
abbrev pub is_unheld : ℕ → List Span → ℕ → Bool
is_unheld horizon spans t = nat_lt t horizon && not (covers spans t)

-- The windows are what these spans leave of the seconds before the horizon, the number is theirs, and there are nodes
-- for one window more than there are spans.
pub record StandsForSpans (horizon : ℕ) (spans : List Span) (l : Listed) : Type 0 where
  pub windows : AreWindows (is_unheld horizon spans) (spans_of l.intervals.windows)
  pub number : l.held ≡ length spans
  pub room : 1 + length spans ≤ nodes l
