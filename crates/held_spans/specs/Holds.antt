-- When is a segment itself held?
use Rattle.std.specs.Prelude.{ℕ, Bool, ◌&&◌, ◌==◌, List}
use Rattle.std.specs.List.{list_any}
use Rattle.taxi_base.specs.declared.numbers.Segment.{Segment}
use Rattle.taxi_base.specs.Windows.{Hold, span_has}

-- whether a hold of just this segment has the second
abbrev pub held_at : List Hold → Segment → ℕ → Bool
held_at holds s t = list_any (λ h. h.segment.0 == s.0 && span_has h.span t) holds
