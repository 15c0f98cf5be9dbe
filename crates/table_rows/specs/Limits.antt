-- Until when may a class stay in a window?
use Rattle.std.specs.Prelude.{ℕ, ◌==◌, ◌-◌, if◌then◌else◌}
use Rattle.taxi_base.specs.declared.rows.Span.{Span}
use Rattle.taxi_base.specs.Walks.{Conditions}
use Rattle.table_rows.specs.declared.limits.Limits.{Limits}

-- what limits a stay under the conditions
abbrev pub limits_of : Conditions → Limits
limits_of c = record { horizon = c.airport.horizon; clearance = c.clearance }

-- the last second at which a step inside a window may leave (`last_of`), by the limits alone
abbrev pub last_by : Limits → Span → ℕ
last_by limits w = if w.until == limits.horizon then limits.horizon else w.until - limits.clearance
