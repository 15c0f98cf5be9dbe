-- Lists that are changed at one place.
use Rattle.std.specs.Prelude.{ℕ, zero, suc, List, [], ◌∷◌}

-- x stands before element i of the old list
abbrev pub inserted : {X : Type 0} → List X → ℕ → X → List X
inserted xs zero x = x ∷ xs
inserted [] (suc i) x = x ∷ []
inserted (y ∷ xs) (suc i) x = y ∷ inserted xs i x

-- element i is gone
abbrev pub removed : {X : Type 0} → List X → ℕ → List X
removed [] i = []
removed (y ∷ xs) zero = xs
removed (y ∷ xs) (suc i) = y ∷ removed xs i

-- x stands in place of element i
abbrev pub replaced : {X : Type 0} → List X → ℕ → X → List X
replaced [] i x = []
replaced (y ∷ xs) zero x = x ∷ xs
replaced (y ∷ xs) (suc i) x = y ∷ replaced xs i x

-- element i, or d where there is none
abbrev pub item : {X : Type 0} → X → List X → ℕ → X
item d [] i = d
item d (y ∷ xs) zero = y
item d (y ∷ xs) (suc i) = item d xs i
