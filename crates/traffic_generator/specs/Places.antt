-- The places of a grid, and the names of what stands there.
use Rattle.std.specs.Prelude.{ℕ, ◌*◌, ◌/◌, ◌%◌, List, ◌∷◌, ◌++◌, map, codes, decimal}
use Rattle.traffic_generator.specs.declared.places.Place.{Place}
use Rattle.airport_text.specs.Canonical.{numbers_below}

-- the place of this number in a grid of so many columns, counted row by row
abbrev pub place_at : ℕ → ℕ → Place
place_at columns number = record { row = number / columns; column = number % columns }

-- the places of a grid of so many rows and columns, row by row
abbrev pub places : ℕ → ℕ → List Place
places rows columns = map (place_at columns) (numbers_below (rows * columns))

-- a letter, the row, a hyphen and the column
abbrev pub place_name : ℕ → Place → List ℕ
place_name letter place = letter ∷ (decimal place.row ++ (codes "-" ++ decimal place.column))
