-- The parts of a text between the places of one byte.
use Rattle.std.specs.Prelude.{ℕ, ◌==◌, List, [], Option, Some, None}
use Rattle.std.specs.Borrow.{Bor}
use Rattle.std.specs.List.{slice_split}

-- one part more than there are such bytes: an empty one where two of them meet, and at an end where one stands
abbrev pub parts_of : ℕ → List ℕ → List (List ℕ)
parts_of byte bytes = slice_split (λ b. b == byte) bytes

-- the parts of what is left of a text, where anything is
abbrev pub parts_left : ℕ → Option (Bor (List ℕ)) → List (List ℕ)
parts_left byte None = []
parts_left byte (Some rest) = parts_of byte rest.now
