-- Dates so many days later.
use Rattle.std.proofs.Common.{◌≡◌, ℕ, zero, suc, ◌+◌, ◌<◌, ◌≤◌, refl, ap, arith, ◌∙◌, inl, inr, ℤ, pos, ◌+ℤ◌, ◌≤ℤ◌}
use Rattle.std.proofs.lemmas.Bool.{cases_Bool, ltb-true, ltb-false}
use Rattle.std.specs.Prelude.{nat_lt}
use Rattle.jiff_core.specs.declared.civil.date.Date.{Date}
use Rattle.jiff_core.specs.Calendar.{days_in_month, days_from_civil, day_count, IsCivilDate}
use Rattle.jiff_core.specs.Date.{epoch_day}
use Rattle.jiff_core.proofs.CalendarLemmas.{days_from_civil-day_count, day_count-lt_year, day_count-year_bounds, day_count-later_year, day_count-day_of_year, day_count-epoch, days_in_month_bounds}
use Rattle.jiff_core.proofs.DateLemmas.{days_from_civil-day, days_from_civil-next_month, days_from_civil-next_year, epoch_day_injective}
use Rattle.jiff.proofs.SpanFacts.{signed_arith}
use Rattle.civil_times.specs.Later.{CivilDate, civil_date, day_after, days_later}

-- the calendar has the date
abbrev pub IsInCalendar : CivilDate → Type 0
IsInCalendar date = IsCivilDate (pos date.year) date.month date.day

abbrev pub number_of : CivilDate → ℤ
number_of date = days_from_civil (pos date.year) date.month date.day

pub record IsLater (date : CivilDate) (days : ℕ) (later : CivilDate) : Type 0 where
  pub in_calendar : IsInCalendar later
  pub number : number_of later ≡ number_of date +ℤ pos days
  pub not_before : date.year ≤ later.year
  pub year : later.year ≤ date.year + days

next-day : (date : CivilDate) → IsInCalendar date → date.year < 9999 → IsLater date 1 (day_after date)
next-day date here low = elim (cases_Bool (nat_lt date.day (days_in_month (pos date.year) date.month))) [
  | inl within ↦ rw within (record {
    in_calendar = (here.0, here.1, let less = ltb-true date.day (days_in_month (pos date.year) date.month) within in let first = here.2.0 in (omega arith, omega arith));
    number = omega (arith, signed_arith, days_from_civil-day (pos date.year) date.month date.day (date.day + 1) here.2.0 (omega arith));
    not_before = omega arith;
    year = omega arith;
  })
  | inr past ↦
      let last : date.day ≡ days_in_month (pos date.year) date.month = let over = ltb-false date.day (days_in_month (pos date.year) date.month) past in let most = here.2.1 in omega arith in
      rw past (elim (cases_Bool (nat_lt date.month 12)) [
        | inl within ↦ rw within (record {
          in_calendar = (here.0, let less = ltb-true date.month 12 within in let first = here.1.0 in (omega arith, omega arith), let long = days_in_month_bounds (pos date.year) (date.month + 1) in (omega arith, omega arith));
          number = days_from_civil-next_month (pos date.year) date.month date.day here.1.0 last;
          not_before = omega arith;
          year = omega arith;
        })
        | inr over ↦ rw over (
            let december : date.month ≡ 12 = let far = ltb-false date.month 12 over in let most = here.1.1 in omega arith in
            let end : date.day ≡ 31 = last ∙ ap (λ m. days_in_month (pos date.year) m) december in
            record {
              in_calendar = (omega (arith, signed_arith), (omega arith, omega arith), let long = days_in_month_bounds (pos (date.year + 1)) 1 in (omega arith, omega arith));
              not_before = omega arith;
              year = omega arith;
              number = rw (december, end) (days_from_civil-next_year (pos date.year) (pos (date.year + 1)) (omega (arith, signed_arith)) (omega (arith, signed_arith)));
            })
      ])
]

pub later-days : (days : ℕ) (date : CivilDate) → IsInCalendar date → date.year + days ≤ 9999 → IsLater date days (days_later days date)
unfolding days_later
later-days zero date here low = record { in_calendar = here; number = omega (arith, signed_arith); not_before = omega arith; year = omega arith }
later-days (suc days) date here low =
    let before = later-days days date here (omega arith) in
    let next = next-day (days_later days date) before.in_calendar (let far = before.year in omega arith) in
    record {
      in_calendar = next.in_calendar;
      number = let one = before.number in let two = next.number in omega (arith, signed_arith);
      not_before = let one = before.not_before in let two = next.not_before in omega arith;
      year = let one = before.year in let two = next.year in omega arith;
    }

-- a date of the library that has a date's number is that date
pub same-date : (date : Date) (other : CivilDate) → IsInCalendar other → epoch_day date ≡ number_of other → (pos 0 ≤ℤ date.year) × (civil_date date ≡ other)
same-date date other here same =
    let as_date : Date = record { year = pos other.year; month = other.month; day = other.day; year_in = here.0; month_in = here.1; day_in = here.2 } in
    let parts = epoch_day_injective date as_date same in
    (rw parts.0 (omega (arith, signed_arith)), rw (parts.0, parts.1, parts.2) refl)

-- the number of a date of these years
pub number-range : (date : CivilDate) → IsInCalendar date → 1970 ≤ date.year → date.year < 9999
    → (pos 0 ≤ℤ number_of date) × (number_of date ≤ℤ pos 2_932_531)
number-range date here low high =
    let count = days_from_civil-day_count (pos date.year) date.month date.day in
    let above = day_count-lt_year (pos date.year) date.month date.day (pos 9999) 1 1 here (omega arith) (omega (arith, signed_arith)) in
    let bounds = day_count-year_bounds (pos 9999) (omega (arith, signed_arith)) in
    let below : 4_371_953 ≤ day_count (pos date.year) date.month date.day = elim (cases_Bool (nat_lt 1970 date.year)) [
      | inl later ↦
          let after = day_count-later_year (pos 1970) (pos date.year) (omega (arith, signed_arith)) (let l = ltb-true 1970 date.year later in omega (arith, signed_arith)) in
          omega (arith, after, day_count-epoch, day_count-day_of_year (pos date.year) date.month date.day here.2.0)
      | inr not_later ↦
          let is : date.year ≡ 1970 = let l = ltb-false 1970 date.year not_later in omega arith in
          let first = rw is at (day_count-day_of_year (pos date.year) date.month date.day here.2.0) in
          rw is (omega (arith, first, day_count-epoch))
    ] in
    (omega (arith, signed_arith, count, below), omega (arith, signed_arith, count, above, bounds))
