-- What the first bytes of a field are. No public clause cites this module.
use Rattle.std.specs.Prelude.{ℕ, ◌≡◌, ◌<◌, ◌+◌, ◌-◌, ◌*◌, ◌==◌, List, slice_index_or, if◌then◌else◌}
use Rattle.std.specs.Char.{is_ascii_digit}

-- a byte that ends a word: no digit, and no zero
abbrev pub IsSeparator : ℕ → Type 0
IsSeparator last = (0 < last) × (last < 48)

-- the first eight bytes, with zeros behind the end
abbrev pub IsFrontOf : List ℕ → List ℕ → Type 0
IsFrontOf front bytes = (k : ℕ) → k < 8 → slice_index_or front k 0 ≡ slice_index_or bytes k 0

-- what a byte is worth as a digit: a byte that is none is worth more than six digits can write
unfoldable pub worth : ℕ → ℕ
worth byte = if is_ascii_digit byte then byte - 48 else 1000000

-- what four bytes are worth, what five, and what six
abbrev pub worth_of_four : List ℕ → ℕ
worth_of_four front =
    worth (slice_index_or front 0 0) * 1000 + worth (slice_index_or front 1 0) * 100 + worth (slice_index_or front 2 0) * 10
    + worth (slice_index_or front 3 0)

abbrev pub worth_of_five : List ℕ → ℕ
worth_of_five front = worth_of_four front * 10 + worth (slice_index_or front 4 0)

abbrev pub worth_of_six : List ℕ → ℕ
worth_of_six front = worth_of_five front * 10 + worth (slice_index_or front 5 0)

-- what the first four bytes are worth where the last byte is behind them, else the first five if it is behind those, else the first
-- six, and how many they are
unfoldable pub front_number : ℕ → List ℕ → ℕ × ℕ
front_number last front =
    if slice_index_or front 4 0 == last then (worth_of_four front, 4)
    else (if slice_index_or front 5 0 == last then (worth_of_five front, 5)
    else (worth_of_six front, 6))
