-- What is left of windows where a span is cut out of them?
use Rattle.std.specs.Prelude.{ℕ, ◌≡◌, ◌∷◌, ◌++◌, [], Bool, ◌&&◌, not, max, min, List}
use Rattle.taxi_base.specs.declared.rows.Span.{Span}
use Rattle.taxi_base.specs.Windows.{span_has, covers, AreApart}
use Rattle.segment_windows.specs.Gaps.{gap}

-- what comes before the span, and what comes behind it
abbrev pub parts_of : Span → Span → List Span
parts_of span w = gap w.from (min w.until span.from) ++ gap (max w.from span.until) w.until

abbrev pub cut_out : Span → List Span → List Span
cut_out span [] = []
cut_out span (w ∷ ws) = parts_of span w ++ cut_out span ws

-- windows that lie apart have lost the seconds of a span, where it is cut out, and still lie apart
pub record AreCut (is_cut : Bool) (span : Span) (old new : List Span) : Type 0 where
  pub apart : AreApart 0 new
  pub seconds : (t : ℕ) → covers new t ≡ (covers old t && not (is_cut && span_has span t))
