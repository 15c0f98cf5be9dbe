-- When do rows stand in order, at one place, and which is at least as good?
use Rattle.std.specs.Prelude.{ℕ, Bool, ◌&&◌, ◌==◌, nat_lt, nat_le, IsTrue, List, AllPairs}
use Rattle.taxi_base.specs.declared.rows.LabelRow.{LabelRow}
use Rattle.taxi_base.specs.Labels.{precedes}
use Rattle.table_rows.specs.declared.reach.Way.{Way}
use Rattle.table_rows.specs.declared.reach.Way.TheVariants.{Forward, Backward}

abbrev pub AreOrdered : List LabelRow → Type 0
AreOrdered rows = AllPairs (λ p q. IsTrue (precedes p q)) rows

-- whether a row has the label's arc and window
abbrev pub is_at_place : LabelRow → LabelRow → Bool
is_at_place row label = row.arc.0 == label.arc.0 && (row.from == label.from && row.until == label.until)

-- whether a value is before another on a way, and whether it is or is the same
abbrev pub is_before : Way → ℕ → ℕ → Bool
is_before Forward value other = nat_lt value other
is_before Backward value other = nat_lt other value

abbrev pub is_up_to : Way → ℕ → ℕ → Bool
is_up_to Forward value other = nat_le value other
is_up_to Backward value other = nat_le other value

-- whether a row is at the label's place with a value that is at least as good
abbrev pub is_as_good : Way → LabelRow → LabelRow → Bool
is_as_good way row label = is_at_place row label && is_up_to way row.value label.value
