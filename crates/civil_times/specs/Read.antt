-- What is kept of a start that is read? No public clause cites this file.
use Rattle.std.specs.Prelude.{ℕ, ◌≡◌, ◌<◌, ◌≤◌, ◌≤ℤ◌, ℤ, pos, List, length, IsTrue, Some}
use Rattle.civil_times.specs.Times.{day_of, time_of}
use Rattle.civil_times.specs.Later.{is_start}

-- a day from 1970 on, with some more after it
abbrev pub IsStartDay : ℤ → Type 0
IsStartDay day = (pos 0 ≤ℤ day) × (day ≤ℤ pos 2_932_531)

-- the text is a start, with the day and the time of day that it names
pub record IsRead (text : List ℕ) (day : ℤ) (time : ℕ) : Type 0 where
  pub start : IsTrue (is_start text)
  pub long : 19 ≤ length text
  pub short : length text ≤ 25
  pub day_is : day_of text ≡ Some day
  pub day_range : IsStartDay day
  pub time_is : time_of text ≡ Some time
  pub time_range : time < 86400
