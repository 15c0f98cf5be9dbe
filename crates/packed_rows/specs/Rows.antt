-- Which rows an array holds that is cut at given places.
use Rattle.std.specs.Prelude.{ℕ, ◌≡◌, ◌-◌, ◌≤◌, List, [], ◌∷◌, take, drop}

-- the rows from a place on, by the ends of each
abbrev pub rows_from : {T : Type 0} → ℕ → List ℕ → List T → List (List T)
rows_from start [] values = []
rows_from start (end ∷ ends) values = take (end - start) (drop start values) ∷ rows_from end ends values

-- each row ends where it starts or later, and the last one ends at the array's end
abbrev pub CutUpTo : ℕ → List ℕ → ℕ → Type 0
CutUpTo start [] length = start ≡ length
CutUpTo start (end ∷ ends) length = (start ≤ end) × CutUpTo end ends length
