-- Which second is a civil time, as a schedule writes it: YYYY-MM-DDThh:mm:ss, and then Z, +hh:mm or -hh:mm?
use Rattle.std.specs.Prelude.{ℕ, ◌+◌, ◌*◌, Bool, ◌&&◌, ◌==◌, nat_le, if◌then◌else◌, ℤ, pos, neg_ℤ, ◌+ℤ◌, ◌-ℤ◌, ◌*ℤ◌, List, length, Option, Some, None}
use Rattle.jiff_core.specs.Calendar.{IsWithin, days_in_month, days_from_civil}
use Rattle.taxi_text.specs.Commands.{◌>>=◌}
use Rattle.civil_times.specs.Marks.{dash, colon, plus, letter_t, letter_z, is_at, pair_at}

abbrev pub is_between : ℕ → ℕ → ℕ → Bool
is_between low n high = nat_le low n && nat_le n high

-- ---- the day

-- whether the calendar has this date, in the years that a schedule may name
abbrev pub is_date : ℕ → ℕ → ℕ → Bool
is_date year month day = is_between 1970 year 2999 && is_between 1 month 12 && is_between 1 day (days_in_month (pos year) month)

-- the number of a date's day, 0 being 1970-01-01
abbrev pub day_number : ℕ → ℕ → ℕ → Option ℤ
day_number year month day = if is_date year month day then Some (days_from_civil (pos year) month day) else None

-- YYYY-MM-DD from place 0 on, without regard to the dashes
abbrev pub day_of : List ℕ → Option ℤ
day_of text =
    pair_at text 0 >>= (λ century. pair_at text 2 >>= (λ year. pair_at text 5 >>= (λ month. pair_at text 8 >>= (λ day.
    day_number (100 * century + year) month day))))

-- ---- the time of day, in seconds

abbrev pub seconds_of : ℕ → ℕ → ℕ → Option ℕ
seconds_of hours minutes seconds =
    if nat_le hours 23 && nat_le minutes 59 && nat_le seconds 59 then Some (3600 * hours + 60 * minutes + seconds) else None

-- hh:mm:ss from place 11 on, without regard to the colons
abbrev pub time_of : List ℕ → Option ℕ
time_of text = pair_at text 11 >>= (λ hours. pair_at text 14 >>= (λ minutes. pair_at text 17 >>= (λ seconds. seconds_of hours minutes seconds)))

-- whether the dashes, the T and the colons stand where they belong
abbrev pub has_marks : List ℕ → Bool
has_marks text =
    is_at dash text 4 && is_at dash text 7 && is_at letter_t text 10 && is_at colon text 13 && is_at colon text 16

-- ---- the offset from UTC, in seconds

abbrev pub offset_seconds : ℕ → ℕ → Option ℕ
offset_seconds hours minutes = if nat_le hours 14 && nat_le minutes 59 then Some (3600 * hours + 60 * minutes) else None

-- whether a Z stands at place 19 and ends the text
abbrev pub is_utc : List ℕ → Bool
is_utc text = length text == 20 && is_at letter_z text 19

-- hh:mm from place 20 on, which ends the text
abbrev pub offset_size : List ℕ → Option ℕ
offset_size text =
    if length text == 25 && is_at colon text 22
    then pair_at text 20 >>= (λ hours. pair_at text 23 >>= (λ minutes. offset_seconds hours minutes))
    else None

-- what stands from place 19 on: Z, or a plus or a minus and the size
abbrev pub offset_of : List ℕ → Option ℤ
offset_of text =
    if is_utc text then Some (pos 0)
    else (if is_at plus text 19 then offset_size text >>= (λ size. Some (pos size))
    else (if is_at dash text 19 then offset_size text >>= (λ size. Some (neg_ℤ (pos size)))
    else None))

-- ---- the second

-- the second of a time at an offset: the day's number times 86,400, and the time, less the offset
abbrev pub second_at : ℤ → ℕ → ℤ → ℤ
second_at day time offset = ((day *ℤ pos 86400) +ℤ pos time) -ℤ offset

-- the second of a text of that form, counted from 1970-01-01T00:00:00Z; none of any other text
unfoldable pub second_of : List ℕ → Option ℤ
second_of text =
    if has_marks text
    then day_of text >>= (λ day. time_of text >>= (λ time. offset_of text >>= (λ offset. Some (second_at day time offset))))
    else None

-- as far from 1970 as the second of a text can lie
abbrev pub IsSecond : ℤ → Type 0
IsSecond second = IsWithin 400_000_000_000 second
