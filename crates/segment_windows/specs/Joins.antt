-- What windows become where the seconds of a span are given back to them?
use Rattle.std.specs.Prelude.{ℕ, ◌≡◌, ◌∷◌, [], Bool, ◌&&◌, not, nat_lt, max, min, if◌then◌else◌, List}
use Rattle.std.specs.List.{list_any}
use Rattle.taxi_base.specs.declared.numbers.Segment.{Segment}
use Rattle.taxi_base.specs.declared.rows.Span.{Span}
use Rattle.taxi_base.specs.Windows.{Hold, blocks, span_has, covers, AreApart}

-- of the seconds of a span the windows have just those that no hold in conflict has, and of the others the same as before; they lie apart
pub record AreGivenBack (sets : List (List Segment)) (holds : List Hold) (segment : Segment) (span : Span) (old new : List Span) : Type 0 where
  pub apart : AreApart 0 new
  pub seconds : (t : ℕ) → covers new t ≡ (if span_has span t then not (list_any (blocks sets segment t) holds) else covers old t)

-- ---- how it is done; no public clause cites these

-- the least span that has both
abbrev pub hull : Span → Span → Span
hull one other = record { from = min one.from other.from; until = max one.until other.until }

-- the windows with a span, which has become one with those that it meets or touches
abbrev pub joined : Span → List Span → List Span
joined span [] = span ∷ []
joined span (w ∷ ws) = if nat_lt span.until w.from then span ∷ w ∷ ws else (if nat_lt w.until span.from then w ∷ joined span ws else joined (hull span w) ws)

-- windows that lie apart have lost some seconds
pub record AreRid (gone : ℕ → Bool) (old new : List Span) : Type 0 where
  pub apart : AreApart 0 new
  pub seconds : (t : ℕ) → covers new t ≡ (covers old t && not (gone t))
