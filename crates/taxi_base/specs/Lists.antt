-- Which list has all that have a property, in order of number.
use Rattle.std.specs.Prelude.{ℕ, ◌<◌, ◌↔◌, List, Contains, AllPairs}

-- exactly the values with a property, each once, in rising order of their numbers
pub record AreAll {X : Type 0} (number : X → ℕ) (Has : X → Type 0) (xs : List X) : Type 0 where
  pub rising : AllPairs (λ x y. number x < number y) xs
  pub each : (x : X) → Contains xs x ↔ Has x
