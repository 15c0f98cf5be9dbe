-- Which spots are a block?
use Rattle.std.specs.Prelude.{ℕ, zero, suc, ◌+◌, ◌/◌, List, [], ◌∷◌, ◌++◌}
use Rattle.taxi_base.specs.declared.numbers.Arc.{Arc}
use Rattle.place_cells.specs.declared.spots.Spot.{Spot}

-- those of an arc with the first windows, so many of them
abbrev pub block : Arc → ℕ → List Spot
block arc zero = []
block arc (suc n) = block arc n ++ record { arc = arc; window = n } ∷ []

-- how many stretches of eight numbers a block has for so many windows
abbrev pub stretches_for : ℕ → ℕ
stretches_for windows = (windows + windows / 2) / 8 + 1
