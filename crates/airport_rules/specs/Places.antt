-- What an index of names gives.
use Rattle.std.specs.Prelude.{ℕ, ◌≡◌, ◌≢◌, ◌≤◌, nat_eq, List, length, IsTrue, AllPairs}
use Rattle.std.specs.List.{AllPass}
use Rattle.std.specs.Int.Digits.{number_from_digits}
use Rattle.std.specs.HashMap.{HashMap, get}
use Rattle.taxi_base.specs.Words.{is_name}
use Rattle.taxi_base.specs.Airport.{place_of}

-- the number whose digits in base 256 are the bytes of a name; no two names have the same
unfoldable pub number_of : List ℕ → ℕ
number_of name = number_from_digits 256 name

-- an index has the place of each name by its number; the names are names, they differ, and they are at most 10,000
pub record ArePlaced {S : Type 0} (places : HashMap ℕ ℕ S) (names : List (List ℕ)) : Type 0 where
  pub few : length names ≤ 10000
  pub found : (name : List ℕ) → IsTrue (is_name name) → get nat_eq places (number_of name) ≡ place_of name names
  pub each : AllPass is_name names
  pub differ : AllPairs ◌≢◌ names
