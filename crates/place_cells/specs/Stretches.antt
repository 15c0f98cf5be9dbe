-- Which spots do stretches of numbers stand for?
use Rattle.std.specs.Prelude.{ℕ, zero, suc, ◌+◌, ◌-◌, ◌*◌, ◌<◌, ◌≤◌, List, [], ◌∷◌, ◌++◌, length, slice_index_or}
use Rattle.taxi_base.specs.declared.numbers.Arc.{Arc}
use Rattle.place_cells.specs.declared.spots.Spot.{Spot}
use Rattle.place_cells.specs.declared.blocks.Stretch.{Stretch}

pub record Spots : Type 0 where
  pub items : List Spot

-- those of an arc with the windows from one on, so many of them
abbrev pub spots_from : Arc → ℕ → ℕ → List Spot
spots_from arc first zero = []
spots_from arc first (suc n) = spots_from arc first n ++ record { arc = arc; window = first + n } ∷ []

-- eight for each stretch, where so many numbers come before
unfoldable pub spots_after : ℕ → List Stretch → List Spot
spots_after n [] = []
spots_after n (s ∷ rest) = spots_from s.arc (n - s.first) 8 ++ spots_after (n + 8) rest

abbrev pub spots_of : List Stretch → List Spot
spots_of ss = spots_after 0 ss

-- no stretch comes before its block begins
abbrev pub AreBegun : List Stretch → Type 0
AreBegun ss = (k : ℕ) (d : Stretch) → k < length ss → (slice_index_or ss k d).first ≤ 8 * k
