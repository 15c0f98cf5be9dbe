-- What does the list of a segment have?
use Rattle.std.specs.Prelude.{ℕ, List}
use Rattle.taxi_base.specs.declared.rows.Span.{Span}

-- the spans, each with the name of its holder, and for how many more there is room
pub record SpanRows : Type 0 where
  pub rows : List (Span × List ℕ)
  pub room : ℕ
