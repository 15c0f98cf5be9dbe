-- What stands in a row of spans, and what taking one out makes of it.
use Rattle.std.specs.Prelude.{ℕ, suc, ◌<◌, ◌≤◌, List, ◌++◌, length, take, drop, slice_index_or}
use Rattle.taxi_base.specs.declared.rows.Span.{Span}
use Rattle.interval_list.specs.Intervals.{before, behind}

abbrev pub no_span : Span
no_span = record { from = 0; until = 0 }

abbrev pub span_in : List Span → ℕ → Span
span_in row k = slice_index_or row k no_span

-- so many spans of a row end by a second, and the others end later
pub record AreOverBy (row : List Span) (second n : ℕ) : Type 0 where
  pub few : n ≤ length row
  pub over : (k : ℕ) → k < n → (span_in row k).until ≤ second
  pub later : (k : ℕ) → n ≤ k → k < length row → second < (span_in row k).until

-- the row with what is left of one span, once s is taken out
abbrev pub cut_in : List Span → ℕ → Span → List Span
cut_in row at s = take at row ++ (before s (span_in row at) ++ (behind s (span_in row at) ++ drop (suc at) row))
