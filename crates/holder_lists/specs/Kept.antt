-- How flights lie in a slab. No public clause cites this module.
use Rattle.std.specs.Prelude.{ℕ, List, filter_map, IsSome, All}
use Rattle.slab.specs.Slab.{Slab, get}
use Rattle.taxi_base.specs.declared.answers.Flight.{Flight}
use Rattle.holder_lists.specs.Lists.{IsBook}

-- the flights at these keys
abbrev pub flights_of : Slab Flight → List ℕ → List Flight
flights_of slab keys = filter_map (get slab) keys

-- each key has a flight, and their names rise
abbrev pub IsKept : Slab Flight → List ℕ → Type 0
IsKept slab keys = All (λ key. IsSome (get slab key)) keys × IsBook (flights_of slab keys)
