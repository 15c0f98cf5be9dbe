-- The text of a start moved on.
use Rattle.std.proofs.Common.{◌≡◌, ℕ, zero, suc, ◌+◌, ◌-◌, ◌*◌, ◌/◌, ◌%◌, ◌<◌, ◌≤◌, Bool, true, false, List, ◌++◌, ◌∷◌, [], length, drop, Some, None, codes, refl, sym, ap, arith, ◌∙◌, inl, inr, ℤ, pos, ◌+ℤ◌, ◌≤ℤ◌, length-drop}
use Rattle.std.specs.Prelude.{IsTrue, slice_get, nat_lt, nat_le, ◌&&◌, if◌then◌else◌}
use Rattle.std.specs.Char.{is_ascii_digit}
use Rattle.std.proofs.lemmas.Bool.{cases_Bool, and_parts, and_from, le-leb, leb-true, ltb-true, ltb-false}
use Rattle.jiff_core.specs.declared.civil.date.Date.{Date}
use Rattle.jiff_core.specs.Calendar.{days_in_month}
use Rattle.jiff_core.specs.Date.{epoch_day}
use Rattle.jiff_core.proofs.CalendarLemmas.{days_from_civil-day_count, day_count-lt_year, day_count-later_year, day_count-day_of_year, days_in_year_bounds, days_in_month_bounds}
use Rattle.jiff.proofs.SpanFacts.{signed_arith}
use Rattle.civil_times.specs.Marks.{pair_at}
use Rattle.civil_times.specs.Times.{second_of, second_at, has_marks, day_of, is_date, time_of, offset_of}
use Rattle.civil_times.specs.Later.{CivilDate, civil_date, days_later, date_text, time_text, date_of, is_start, moved_text, civil_text}
use Rattle.civil_times.proofs.DateLaws.{IsInCalendar, IsLater, number_of, later-days, same-date}
use Rattle.civil_times.proofs.StartLaws.{day-of, start-parts, parts-of, second-from, offset-long, step-back}

-- ---- what a start says of later dates

pub record IsLaterDate (text : List ℕ) (days : ℕ) (date : Date) : Type 0 where
  pub from : CivilDate
  pub from_is : date_of text ≡ Some from
  pub year : pos 0 ≤ℤ date.year
  pub is : civil_date date ≡ days_later days from

pub later-date : (text : List ℕ) (day : ℤ) (days : ℕ) (date : Date) → IsTrue (is_start text) → day_of text ≡ Some day → days ≤ 8 → epoch_day date ≡ day +ℤ pos days
    → IsLaterDate text days date
later-date text day days date starts day_is few number =
    let from = day-of text day day_is in
    let s = start-parts text starts in
    let same : from.date.year ≡ s.year = let mine = from.year_is in let other = s.year_is in cc (mine, other) in
    let early = s.early in
    let later = later-days days from.date from.in_calendar (omega (arith, same, early, few)) in
    let one = same-date date (days_later days from.date) later.in_calendar (number ∙ ap (λ z. z +ℤ pos days) from.number ∙ sym later.number) in
    record { from = from.date; from_is = from.date_is; year = one.0; is = one.1 }

pub later-text : (text : List ℕ) (time seconds : ℕ) (date : Date) → (later : IsLaterDate text ((time + seconds) / 86400) date) → time_of text ≡ Some time
    → civil_text text seconds ≡ date_text (civil_date date) ++ codes "T" ++ time_text ((time + seconds) % 86400) ++ drop 19 text
unfolding civil_text moved_text
later-text text time seconds date later time_is = rw (later.from_is, time_is, ← later.is) refl

-- ---- reading a text that was written

digit-read : (n : ℕ) → n < 10 → (if is_ascii_digit (48 + n) then Some (48 + n - 48) else None) ≡ Some n
digit-read n low =
    let digit : is_ascii_digit (48 + n) ≡ true = and_from _ _ (le-leb 48 (48 + n) (omega arith)) (le-leb (48 + n) 57 (omega arith)) in
    let same : 48 + n - 48 ≡ n = omega arith in
    rw (digit, same) refl

pair-read : (text : List ℕ) (place n : ℕ) → n < 100 → slice_get text place ≡ Some (48 + n / 10) → slice_get text (place + 1) ≡ Some (48 + n % 10) → pair_at text place ≡ Some n
pair-read text place n low tens ones =
    let high : n / 10 < 10 = omega arith in
    let rest : n % 10 < 10 = omega arith in
    let whole : 10 * (n / 10) + n % 10 ≡ n = omega arith in
    rw (tens, digit-read (n / 10) high, ones, digit-read (n % 10) rest, whole) refl

abbrev written : CivilDate → ℕ → List ℕ → List ℕ
written date second behind = date_text date ++ codes "T" ++ time_text second ++ behind

written-marks : (date : CivilDate) (second : ℕ) (behind : List ℕ) → has_marks (written date second behind) ≡ true
written-marks date second behind = refl

written-day : (date : CivilDate) (second : ℕ) (behind : List ℕ) → IsInCalendar date → 1970 ≤ date.year → date.year ≤ 2999 → day_of (written date second behind) ≡ Some (number_of date)
written-day date second behind here early late =
    let long = days_in_month_bounds (pos date.year) date.month in
    let month = here.1 in
    let day = here.2 in
    let whole : 100 * (date.year / 100) + date.year % 100 ≡ date.year = omega arith in
    let is : is_date date.year date.month date.day ≡ true =
    and_from _ _
    (and_from _ _ (and_from _ _ (le-leb 1970 date.year early) (le-leb date.year 2999 late)) (and_from _ _ (le-leb 1 date.month month.0) (le-leb date.month 12 month.1)))
    (and_from _ _ (le-leb 1 date.day day.0) (le-leb date.day (days_in_month (pos date.year) date.month) day.1)) in
    let text = written date second behind in
    let a = pair-read text 0 (date.year / 100) (omega arith) refl refl in
    let b = pair-read text 2 (date.year % 100) (omega arith) refl refl in
    let m = pair-read text 5 date.month (omega (arith, month)) refl refl in
    let d = pair-read text 8 date.day (omega (arith, day, long)) refl refl in
    rw (a, b, m, d, whole, is) refl

written-time : (date : CivilDate) (second : ℕ) (behind : List ℕ) → second < 86400 → time_of (written date second behind) ≡ Some second
written-time date second behind low =
    let text = written date second behind in
    let h = pair-read text 11 (second / 3600) (omega arith) refl refl in
    let m = pair-read text 14 (second / 60 % 60) (omega arith) refl refl in
    let s = pair-read text 17 (second % 60) (omega arith) refl refl in
    let is : (nat_le (second / 3600) 23 && nat_le (second / 60 % 60) 59 && nat_le (second % 60) 59) ≡ true =
    and_from _ _ (and_from _ _ (le-leb (second / 3600) 23 (omega arith)) (le-leb (second / 60 % 60) 59 (omega arith))) (le-leb (second % 60) 59 (omega arith)) in
    let whole : 3600 * (second / 3600) + 60 * (second / 60 % 60) + second % 60 ≡ second = omega arith in
    rw (h, m, s, is, whole) refl

got-behind : {X : Type 0} (n : ℕ) (xs : List X) (k : ℕ) → slice_get (drop n xs) k ≡ slice_get xs (n + k)
got-behind zero xs k = let e : 0 + k ≡ k = omega arith in rw e refl
got-behind (suc n) [] k = refl
got-behind (suc n) (x ∷ xs) k = let e : suc n + k ≡ suc (n + k) = omega arith in rw e (got-behind n xs k)

offset-same : (one other : List ℕ) → length one ≡ length other → slice_get one 19 ≡ slice_get other 19 → slice_get one 20 ≡ slice_get other 20 → slice_get one 21 ≡ slice_get other 21
    → slice_get one 22 ≡ slice_get other 22 → slice_get one 23 ≡ slice_get other 23 → slice_get one 24 ≡ slice_get other 24 → offset_of one ≡ offset_of other
offset-same one other long a b c d e f = rw (long, a, b, c, d, e, f) refl

written-offset : (date : CivilDate) (second : ℕ) (start : List ℕ) → 19 ≤ length start → offset_of (written date second (drop 19 start)) ≡ offset_of start
written-offset date second start long =
    let cut = length-drop 19 start in
    let same : length (written date second (drop 19 start)) ≡ length start = omega (arith, cut, long) in
    offset-same (written date second (drop 19 start)) start same (got-behind 19 start 0) (got-behind 19 start 1) (got-behind 19 start 2) (got-behind 19 start 3) (got-behind 19 start 4)
    (got-behind 19 start 5)

-- the year is below 3000
later-year : (date later : CivilDate) (days : ℕ) → IsInCalendar date → date.year < 2999 → days ≤ 8 → IsLater date days later → later.year ≤ 2999
later-year date later days here early few is = elim (cases_Bool (nat_lt 2999 later.year)) [
  | inl far ↦
      let over = ltb-true 2999 later.year far in
      let before = day_count-lt_year (pos date.year) date.month date.day (pos 2999) 1 1 here (omega arith) (omega (arith, signed_arith)) in
      let next = day_count-later_year (pos 2999) (pos later.year) (omega (arith, signed_arith)) (omega (arith, signed_arith)) in
      let long = days_in_year_bounds (pos 2999) in
      let first = day_count-day_of_year (pos later.year) later.month later.day is.in_calendar.2.0 in
      let count = days_from_civil-day_count (pos date.year) date.month date.day in
      let later_count = days_from_civil-day_count (pos later.year) later.month later.day in
      let number = is.number in
      absurd (omega (arith, signed_arith, before, next, long, first, count, later_count, number, few))
  | inr near ↦ ltb-false 2999 later.year near
]

-- ---- the law

time-range : (text : List ℕ) (time : ℕ) → time_of text ≡ Some time → time < 86400
time-range text time e =
    let hours = step-back (pair_at text 11) _ time e in
    let minutes = step-back (pair_at text 14) _ time hours.2 in
    let seconds = step-back (pair_at text 17) _ time minutes.2 in
    go hours.0 minutes.0 seconds.0 (nat_le hours.0 23 && nat_le minutes.0 59 && nat_le seconds.0 59) refl seconds.2
  where
    go : (hours minutes seconds : ℕ) (is : Bool) → (nat_le hours 23 && nat_le minutes 59 && nat_le seconds 59) ≡ is
        → (if is then Some (3600 * hours + 60 * minutes + seconds) else None) ≡ Some time → time < 86400
    go hours minutes seconds false not_so given = absurd (cc given)
    go hours minutes seconds true is given =
        let two = and_parts _ _ is in
        let one = and_parts _ _ two.0 in
        let h = leb-true hours 23 one.0 in
        let m = leb-true minutes 59 one.1 in
        let s = leb-true seconds 59 two.1 in
        let same : 3600 * hours + 60 * minutes + seconds ≡ time = cc given in
        omega (arith, h, m, s, same)

civil-written : (start : List ℕ) (time seconds : ℕ) (date : CivilDate) → date_of start ≡ Some date → time_of start ≡ Some time
    → civil_text start seconds ≡ written (days_later ((time + seconds) / 86400) date) ((time + seconds) % 86400) (drop 19 start)
unfolding civil_text moved_text
civil-written start time seconds date date_is time_is = rw (date_is, time_is) refl

pub later-second : (start : List ℕ) (second : ℤ) (seconds : ℕ) → IsTrue (is_start start) → second_of start ≡ Some second → seconds ≤ 604800
    → second_of (civil_text start seconds) ≡ Some (second +ℤ pos seconds)
later-second start second seconds starts is few =
    let p = parts-of start second is in
    let d = day-of start p.day p.day_is in
    let s = start-parts start starts in
    let same : d.date.year ≡ s.year = let mine = d.year_is in let other = s.year_is in cc (mine, other) in
    let early : d.date.year < 2999 = let e = s.early in omega (arith, same, e) in
    let low = time-range start p.time p.time_is in
    let days = (p.time + seconds) / 86400 in
    let most : days ≤ 8 = omega (arith, low, few) in
    let later = later-days days d.date d.in_calendar (omega (arith, early, most)) in
    let date = days_later days d.date in
    let rest = (p.time + seconds) % 86400 in
    let within : rest < 86400 = omega arith in
    let late = later-year d.date date days d.in_calendar early most later in
    let first : 1970 ≤ date.year = let kept = later.not_before in let begun = d.early in omega (arith, kept, begun) in
    let long = offset-long start p.offset p.offset_is in
    let offset : offset_of (written date rest (drop 19 start)) ≡ Some p.offset = written-offset date rest start (elim long [ inl twenty ↦ omega (arith, twenty) | inr more ↦ omega (arith, more) ]) ∙ p.offset_is in
    let read = second-from (written date rest (drop 19 start)) (number_of date) rest p.offset (written-marks date rest (drop 19 start))
    (written-day date rest (drop 19 start) later.in_calendar first late) (written-time date rest (drop 19 start) within) offset in
    let sum : second_at (number_of date) rest p.offset ≡ second +ℤ pos seconds =
    let number = later.number in let day = d.number in let at = p.second_is in let parts : 86400 * days + rest ≡ p.time + seconds = omega arith in omega (arith, signed_arith, number, day, at, parts) in
    ap second_of (civil-written start p.time seconds d.date d.date_is p.time_is) ∙ read ∙ ap Some sum

pub later-offset : (start : List ℕ) (seconds : ℕ) → IsTrue (is_start start) → drop 19 (civil_text start seconds) ≡ drop 19 start
later-offset start seconds starts =
    let s = start-parts start starts in
    let p = parts-of start s.second s.second_is in
    let d = day-of start p.day p.day_is in
    ap (λ (t : List ℕ). drop 19 t) (civil-written start p.time seconds d.date d.date_is p.time_is)
