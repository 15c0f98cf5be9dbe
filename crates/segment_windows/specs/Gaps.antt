-- Which spans are left between busy ones?
use Rattle.std.specs.Prelude.{ℕ, Bool, nat_lt, max, min, if◌then◌else◌, List, [], ◌∷◌, ◌++◌}
use Rattle.taxi_base.specs.declared.rows.Span.{Span}

-- whether a span has a second
abbrev pub is_some_time : Span → Bool
is_some_time span = nat_lt span.from span.until

-- ---- the gaps between busy spans; no public clause cites these

-- a span, where it has a second
abbrev pub gap : ℕ → ℕ → List Span
gap from until = if nat_lt from until then record { from = from; until = until } ∷ [] else []

-- what is left of the seconds from one on, up to the horizon
abbrev pub gaps : ℕ → ℕ → List Span → List Span
gaps low horizon [] = gap low horizon
gaps low horizon (span ∷ busy) = gap low (min span.from horizon) ++ gaps (max low span.until) horizon busy
