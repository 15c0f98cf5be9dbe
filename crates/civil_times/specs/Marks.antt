-- Which marks and numbers stand at the places of a text?
use Rattle.std.specs.Prelude.{ℕ, ◌+◌, ◌-◌, ◌*◌, Bool, false, ◌==◌, if◌then◌else◌, List, Option, Some, None, slice_get}
use Rattle.std.specs.Option.{option_map_or}
use Rattle.std.specs.Char.{is_ascii_digit}
use Rattle.taxi_text.specs.Commands.{◌>>=◌}

abbrev pub dash : ℕ
dash = 45

abbrev pub colon : ℕ
colon = 58

abbrev pub plus : ℕ
plus = 43

abbrev pub letter_t : ℕ
letter_t = 84

abbrev pub letter_z : ℕ
letter_z = 90

-- whether this byte stands there
abbrev pub is_at : ℕ → List ℕ → ℕ → Bool
is_at byte text place = option_map_or (λ b. b == byte) (slice_get text place) false

abbrev pub digit_at : List ℕ → ℕ → Option ℕ
digit_at text place = slice_get text place >>= (λ b. if is_ascii_digit b then Some (b - 48) else None)

-- the number that two digits write, the first of which stands there
abbrev pub pair_at : List ℕ → ℕ → Option ℕ
pair_at text place = digit_at text place >>= (λ tens. digit_at text (place + 1) >>= (λ ones. Some (10 * tens + ones)))
