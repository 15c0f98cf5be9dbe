-- The first second of a span at which a segment is taken, and by whom.
use Rattle.std.specs.Prelude.{ℕ, ◌≡◌, ◌<◌, ◌≤◌, Bool, map, IsTrue, IsFalse, List, Option, Some, None, Contains}
use Rattle.std.specs.List.{list_any}
use Rattle.taxi_base.specs.declared.numbers.Segment.{Segment}
use Rattle.taxi_base.specs.declared.rows.Span.{Span}
use Rattle.taxi_base.specs.Airport.{Airport}
use Rattle.taxi_base.specs.Windows.{blocks, span_has}
use Rattle.taxi_base.specs.Faults.{IsFirstOf}
use Rattle.commitments.specs.declared.segment_holds.HeldStep.{HeldStep}
use Rattle.commitments.specs.Held.{hold_by}

-- whether a step has a second, and whether it has it on a segment in conflict with this one
abbrev pub has_second : Airport → ℕ → HeldStep → Bool
has_second airport t held = span_has (hold_by airport held).span t

abbrev pub takes : Airport → Segment → ℕ → HeldStep → Bool
takes airport segment t held = blocks airport.conflicts segment t (hold_by airport held)

-- one of the steps that pass a test is of the holder of this name
abbrev pub IsNamed : (HeldStep → Bool) → List HeldStep → List ℕ → Type 0
IsNamed test steps name = (held : HeldStep) × Contains steps held × (held.holder.name ≡ name) × IsTrue (test held)

-- the first of the names of the holders of steps that pass a test; none where none passes
abbrev pub IsFirstNamed : (HeldStep → Bool) → List HeldStep → Option (List ℕ) → Type 0
IsFirstNamed test steps name = IsFirstOf (IsNamed test steps) name

-- whether one of the steps has a second on a segment in conflict with this one
abbrev pub is_taken : Airport → Segment → List HeldStep → ℕ → Bool
is_taken airport segment steps t = list_any (blocks airport.conflicts segment t) (map (hold_by airport) steps)

-- the first second of a span at which a segment is taken, and the first by name of those who take it then
abbrev pub IsFirstTaken : Airport → Segment → List HeldStep → Span → Option (ℕ × List ℕ) → Type 0
IsFirstTaken airport segment steps span None = (u : ℕ) → span.from ≤ u → u < span.until → IsFalse (is_taken airport segment steps u)
IsFirstTaken airport segment steps span (Some (t, name)) =
    (span.from ≤ t) × (t < span.until) × IsFirstNamed (takes airport segment t) steps (Some name) × ((u : ℕ) → span.from ≤ u → u < t → IsFalse (is_taken airport segment steps u))
