-- Which text is that of a civil time moved on by some seconds in the calendar?
use Rattle.std.specs.Prelude.{ℕ, zero, suc, ◌+◌, ◌*◌, ◌/◌, ◌%◌, Bool, false, ◌&&◌, nat_lt, if◌then◌else◌, pos, unsigned_abs, List, [], ◌∷◌, ◌++◌, drop, codes, Option, Some, is_some, unwrap_or}
use Rattle.std.specs.Option.{option_map_or}
use Rattle.jiff_core.specs.declared.civil.date.Date.{Date}
use Rattle.jiff_core.specs.Calendar.{days_in_month}
use Rattle.taxi_text.specs.Commands.{◌>>=◌}
use Rattle.civil_times.specs.Marks.{pair_at}
use Rattle.civil_times.specs.Times.{time_of, second_of}

-- ---- dates

pub record CivilDate : Type 0 where
  pub year : ℕ
  pub month : ℕ
  pub day : ℕ

-- a date of the calendar library, none of which is before the year 0
abbrev pub civil_date : Date → CivilDate
civil_date date = record { year = unsigned_abs date.year; month = date.month; day = date.day }

-- the day after: of the same month, of the next month, or of the next year
abbrev pub day_after : CivilDate → CivilDate
day_after date =
    if nat_lt date.day (days_in_month (pos date.year) date.month) then record date { day = date.day + 1 }
    else (if nat_lt date.month 12 then record { year = date.year; month = date.month + 1; day = 1 }
    else record { year = date.year + 1; month = 1; day = 1 })

-- the date so many days later
unfoldable pub days_later : ℕ → CivilDate → CivilDate
days_later zero date = date
days_later (suc n) date = day_after (days_later n date)

-- ---- texts

-- a number below 100 in two digits
abbrev pub pair_text : ℕ → List ℕ
pair_text n = (48 + n / 10) ∷ (48 + n % 10) ∷ []

-- YYYY-MM-DD
abbrev pub date_text : CivilDate → List ℕ
date_text date =
    pair_text (date.year / 100) ++ pair_text (date.year % 100) ++ codes "-" ++ pair_text date.month ++ codes "-" ++ pair_text date.day

-- hh:mm:ss of a second of the day
abbrev pub time_text : ℕ → List ℕ
time_text second = pair_text (second / 3600) ++ codes ":" ++ pair_text (second / 60 % 60) ++ codes ":" ++ pair_text (second % 60)

-- ---- a civil time that a day begins at

-- the date that stands from place 0 on
abbrev pub year_of : List ℕ → Option ℕ
year_of text = pair_at text 0 >>= (λ century. pair_at text 2 >>= (λ year. Some (100 * century + year)))

abbrev pub date_of : List ℕ → Option CivilDate
date_of text =
    year_of text >>= (λ year. pair_at text 5 >>= (λ month. pair_at text 8 >>= (λ day. Some (record { year = year; month = month; day = day }))))

-- whether a text is that of a civil time of a year before 2999
unfoldable pub is_start : List ℕ → Bool
is_start text = is_some (second_of text) && option_map_or (λ year. nat_lt year 2999) (year_of text) false

-- a date and a second of the day, from which some seconds are counted, and then what stands behind them
unfoldable pub moved_text : CivilDate → ℕ → List ℕ → List ℕ
moved_text date second behind = date_text (days_later (second / 86400) date) ++ codes "T" ++ time_text (second % 86400) ++ behind

-- the text of a civil time, with date and time of day moved on by so many seconds, and with the same offset
unfoldable pub civil_text : List ℕ → ℕ → List ℕ
civil_text start seconds =
    unwrap_or (date_of start >>= (λ date. time_of start >>= (λ time. Some (moved_text date (time + seconds) (drop 19 start))))) []
