-- What single words of a block mean.
use Rattle.std.specs.Prelude.{ℕ, Bool, not, ◌&&◌, ◌||◌, ◌==◌, ◌^◌, nat_lt, nat_le, List, length, slice_index_or, Option, Some, None, codes, bytes_eq, if◌then◌else◌}
use Rattle.std.specs.List.{list_all}
use Rattle.std.specs.Char.{is_ascii_digit}
use Rattle.std.specs.Str.Parse.{digits_value}
use Rattle.taxi_base.specs.declared.numbers.Segment.{Segment}
use Rattle.taxi_base.specs.declared.numbers.Class.{Class}
use Rattle.taxi_base.specs.declared.numbers.Arc.{Arc}
use Rattle.taxi_base.specs.declared.rows.FlightKind.{FlightKind}
use Rattle.taxi_base.specs.declared.rows.FlightKind.TheVariants as kind
use Rattle.taxi_base.specs.Airport.{Airport, class_named, segment_named, arc_named}
use Rattle.taxi_text.specs.Commands.{◌>>=◌, is_batch_count}
use Rattle.taxi_text.specs.Fields.{name_of, arc_word_of}

-- one to so many digits, the first of them no 0 where there are more
abbrev pub is_decimal : ℕ → List ℕ → Bool
is_decimal most word =
    nat_lt 0 (length word) && nat_le (length word) most && list_all is_ascii_digit word
    && (length word == 1 || not (slice_index_or word 0 0 == 48))

-- the number that digits write
abbrev pub digits_of : List ℕ → Option ℕ
digits_of word = if list_all is_ascii_digit word then Some (digits_value 10 word) else None

-- the number of so many digits at most that a word writes
abbrev pub decimal_of : ℕ → List ℕ → Option ℕ
decimal_of most word = if is_decimal most word then Some (digits_value 10 word) else None

-- a number has at most 7 digits, and a count at most 10
abbrev pub number_of : List ℕ → Option ℕ
number_of = decimal_of 7

abbrev pub count_of : List ℕ → Option ℕ
count_of = decimal_of 10

-- the kind of flight that a word means
unfoldable pub kind_of : List ℕ → Option FlightKind
kind_of word =
    if bytes_eq word (codes "filed") then Some kind.Filed
    else (if bytes_eq word (codes "arrival") then Some kind.Arrival
    else (if bytes_eq word (codes "departure") then Some kind.Departure
    else None))

-- the airport's class that a word names
abbrev pub class_of_word : Airport → List ℕ → Option Class
class_of_word airport word = name_of word >>= class_named airport

-- the airport's segment that a word names
abbrev pub segment_of_word : Airport → List ℕ → Option Segment
segment_of_word airport word = name_of word >>= segment_named airport

-- the airport's arc that a word names
abbrev pub arc_of_word : Airport → List ℕ → Option Arc
arc_of_word airport word = arc_word_of word >>= (λ named. arc_named airport named.0 named.1)

-- a count that is not 0
abbrev pub some_count_of : List ℕ → Option ℕ
some_count_of word = count_of word >>= (λ n. if n == 0 then None else Some n)

-- how many requests a batch has, and what they cost together
abbrev pub batch_count_of : List ℕ → Option ℕ
batch_count_of word = count_of word >>= (λ n. if is_batch_count n then Some n else None)

abbrev pub total_of : List ℕ → Option ℕ
total_of word = count_of word >>= (λ n. if nat_lt n (2 ^ 32) then Some n else None)

-- the number of a step, from 1 to 256
abbrev pub step_number_of : List ℕ → Option ℕ
step_number_of word = number_of word >>= (λ n. if nat_le 1 n && nat_le n 256 then Some n else None)
