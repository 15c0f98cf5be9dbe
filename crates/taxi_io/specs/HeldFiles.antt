-- Which files do names and bytes in memory stand for?
use Rattle.std.specs.Prelude.{ℕ, List, Option, Some, None, map, drop, slice_get, option_map, String, Vec, string_bytes}
use Rattle.std.specs.Global.{Global}
use Rattle.taxi_io.specs.Files.{Files}
use Rattle.taxi_io.specs.declared.memory_shelf.Place.{Place}

-- each name with its bytes
abbrev pub files_of : List (String Global × Vec ℕ Global) → Files
files_of held = map (λ f. (string_bytes f.0, f.1.items)) held

-- what the file at a place has left from there on
abbrev pub left_at : List (String Global × Vec ℕ Global) → Place → Option (List ℕ)
left_at held place = option_map (λ f. drop place.read f.1.items) (slice_get held place.file)

-- the same, where there is a place
abbrev pub left_of : List (String Global × Vec ℕ Global) → Option Place → Option (List ℕ)
left_of held None = None
left_of held (Some place) = left_at held place
