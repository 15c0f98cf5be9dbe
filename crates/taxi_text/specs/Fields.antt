-- What single words mean: names, numbers and arcs.
use Rattle.std.specs.Prelude.{ℕ, ◌-◌, Bool, true, false, ◌&&◌, ◌==◌, nat_lt, nat_le, List, [], ◌∷◌, ◌++◌, length, take, slice_index, Option, Some, None, if◌then◌else◌}
use Rattle.std.specs.List.{list_all}
use Rattle.std.specs.Char.{is_ascii_digit}
use Rattle.std.specs.Str.Parse.{digits_value}
use Rattle.taxi_base.specs.Words.{is_name}

-- the name that a word is
abbrev pub name_of : List ℕ → Option (List ℕ)
name_of word = if is_name word then Some word else None

-- 1 to 7 decimal digits
abbrev pub is_number : List ℕ → Bool
is_number word = nat_lt 0 (length word) && nat_le (length word) 7 && list_all is_ascii_digit word

-- the number that a word is; leading zeros are accepted
abbrev pub number_of : List ℕ → Option ℕ
number_of word = if is_number word then Some (digits_value 10 word) else None

-- whether a sign means the forward arc of a segment
abbrev pub direction_of : ℕ → Option Bool
direction_of sign = if sign == 43 then Some true else (if sign == 45 then Some false else None)

abbrev pub sign_of : Bool → ℕ
sign_of forward = if forward then 43 else 45

-- the word of an arc: its segment's name, and + for forward or - for backward
abbrev pub arc_word : List ℕ → Bool → List ℕ
arc_word segment forward = segment ++ sign_of forward ∷ []

abbrev pub arc_of : Option (List ℕ) → Option Bool → Option (List ℕ × Bool)
arc_of (Some segment) (Some forward) = Some (segment, forward)
arc_of (Some segment) None = None
arc_of None direction = None

-- the segment's name and the direction of an arc word: its last byte is always the sign
abbrev pub arc_word_of : List ℕ → Option (List ℕ × Bool)
arc_word_of word = arc_of (name_of (take (length word - 1) word)) (direction_of (slice_index word (length word - 1)))
