-- What does a shelf hold whose calls never fail?
use Rattle.std.specs.Prelude.{ℕ, List, Option, IsSome}
use Rattle.taxi_io.specs.Files.{Files, file_of}

pub record SteadyFiles : Type 0 where
  pub files : Files
  -- the most bytes that one read gives
  pub piece : ℕ
  -- what the begun file has left, if one is begun
  pub rest : Option (List ℕ)
  -- the names that were given to `begin`, and the pieces that reads gave
  pub tried : List (List ℕ)
  pub given : List (List ℕ)

-- the names that may be begun: those of the files
abbrev pub HasFile : SteadyFiles → List ℕ → Type 0
HasFile shelf name = IsSome (file_of shelf.files name)
