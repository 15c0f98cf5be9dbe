-- What does a shelf in memory hold, and what do its calls change?
use Rattle.std.specs.Prelude.{ℕ, List, [], ◌∷◌, ◌++◌, Bool, Option, Some, None, is_none, unwrap_or, if◌then◌else◌}
use Rattle.taxi_io.specs.Calls.{is_listed, faults_after}
use Rattle.taxi_io.specs.Counts.{next_count}
use Rattle.taxi_io.specs.Files.{Files, file_of}

pub record ShelfInMemory : Type 0 where
  pub files : Files
  -- the most bytes that one read gives
  pub piece : ℕ
  -- the numbers of the calls that fail
  pub failing : List ℕ
  -- how many calls were made
  pub calls : ℕ
  -- how many of them were listed, or began a file that isn't there
  pub faults : ℕ
  -- what the begun file has left, if one is begun
  pub rest : Option (List ℕ)
  -- the names that were given to `begin`, and the pieces that reads gave
  pub tried : List (List ℕ)
  pub given : List (List ℕ)

-- whether the next call is listed as failing
abbrev pub fails_next : ShelfInMemory → Bool
fails_next shelf = is_listed shelf.failing (next_count shelf.calls)

-- the file that the next call begins by this name: none where the call is listed, or no file has the name
abbrev pub begun_file : ShelfInMemory → List ℕ → Option (List ℕ)
begun_file shelf name = if fails_next shelf then None else file_of shelf.files name

-- the shelf after it is asked to begin a file of this name
abbrev pub after_begin : ShelfInMemory → List ℕ → ShelfInMemory
after_begin shelf name =
    record shelf {
      calls = next_count shelf.calls;
      faults = faults_after (is_none (begun_file shelf name)) shelf.faults;
      rest = begun_file shelf name;
      tried = shelf.tried ++ name ∷ [];
    }

-- the bytes that the begun file has left
abbrev pub bytes_left : ShelfInMemory → List ℕ
bytes_left shelf = unwrap_or shelf.rest []

-- the shelf after a read that leaves these bytes, and these pieces given
abbrev pub after_read : ShelfInMemory → List ℕ → List (List ℕ) → ShelfInMemory
after_read shelf left given =
    record shelf {
      calls = next_count shelf.calls;
      faults = faults_after (fails_next shelf) shelf.faults;
      rest = Some left;
      given = given;
    }
