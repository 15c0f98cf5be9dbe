-- Who is the first by name that holds a segment at a second?
use Rattle.std.specs.Prelude.{ℕ, ◌≡◌, List, Option, Some, None, Contains, IsTrue, IsFalse}
use Rattle.taxi_base.specs.declared.rows.Span.{Span}
use Rattle.taxi_base.specs.Windows.{span_has}
use Rattle.taxi_base.specs.State.{name_precedes}

-- one of the spans that have a second is of the holder of this name
abbrev pub IsHolderIn : List (Span × List ℕ) → ℕ → List ℕ → Type 0
IsHolderIn rows t name = (row : Span × List ℕ) × Contains rows row × (row.1 ≡ name) × IsTrue (span_has row.0 t)

-- the first of the names of a kind; none where there is none
abbrev pub IsFirstOf : (List ℕ → Type 0) → Option (List ℕ) → Type 0
IsFirstOf IsOne None = (name : List ℕ) → IsOne name → ⊥
IsFirstOf IsOne (Some name) = IsOne name × ((other : List ℕ) → IsOne other → IsFalse (name_precedes other name))
