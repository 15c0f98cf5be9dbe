-- What a start says.
use Rattle.std.proofs.Common.{◌≡◌, ◌⊎◌, ℕ, ◌+◌, ◌*◌, ◌<◌, ◌≤◌, Bool, true, false, List, length, Option, Some, None, refl, sym, arith, inl, inr, ℤ, pos, neg_ℤ}
use Rattle.std.specs.Prelude.{IsTrue, IsSome, is_some, nat_lt, ◌&&◌, ◌==◌, if◌then◌else◌}
use Rattle.std.specs.Option.{option_map_or}
use Rattle.std.proofs.lemmas.Bool.{and_parts, eqb-true, ltb-true, lt-ltb, leb-true}
use Rattle.jiff_core.specs.Calendar.{days_in_month, days_from_civil}
use Rattle.jiff.proofs.SpanFacts.{signed_arith}
use Rattle.taxi_text.specs.Commands.{◌>>=◌}
use Rattle.civil_times.specs.Marks.{pair_at, is_at, colon, plus, dash, letter_z}
use Rattle.civil_times.specs.Times.{second_of, second_at, has_marks, day_of, is_date, time_of, offset_of, offset_size, offset_seconds, is_utc}
use Rattle.civil_times.specs.Later.{CivilDate, year_of, date_of, is_start}
use Rattle.civil_times.specs.Read.{IsRead}
use Rattle.civil_times.proofs.DateLaws.{IsInCalendar, number_of, number-range}

-- where a step of a reading gives something, the steps before it did
pub step-back : {A B : Type 0} (o : Option A) (next : A → Option B) (y : B) → o >>= next ≡ Some y → (x : A) × (o ≡ Some x) × (next x ≡ Some y)
step-back None next y e = absurd (cc e)
step-back (Some x) next y e = (x, refl, e)

-- ---- the second of a text

pub record AreParts (text : List ℕ) (second : ℤ) : Type 0 where
  pub day : ℤ
  pub time : ℕ
  pub offset : ℤ
  pub marks : has_marks text ≡ true
  pub day_is : day_of text ≡ Some day
  pub time_is : time_of text ≡ Some time
  pub offset_is : offset_of text ≡ Some offset
  pub second_is : second ≡ second_at day time offset

abbrev from_marks : Bool → List ℕ → Option ℤ
from_marks marks text =
    if marks then day_of text >>= (λ day. time_of text >>= (λ time. offset_of text >>= (λ offset. Some (second_at day time offset)))) else None

pub parts-of : (text : List ℕ) (second : ℤ) → second_of text ≡ Some second → AreParts text second
unfolding second_of
parts-of text second e = go (has_marks text) refl e
  where
    go : (marks : Bool) → has_marks text ≡ marks → from_marks marks text ≡ Some second → AreParts text second
    go false lost given = absurd (cc given)
    go true there given =
        let day = step-back (day_of text) (λ day. time_of text >>= (λ time. offset_of text >>= (λ offset. Some (second_at day time offset)))) second given in
        let time = step-back (time_of text) (λ time. offset_of text >>= (λ offset. Some (second_at day.0 time offset))) second day.2 in
        let offset = step-back (offset_of text) (λ offset. Some (second_at day.0 time.0 offset)) second time.2 in
        record {
          day = day.0;
          time = time.0;
          offset = offset.0;
          marks = there;
          day_is = day.1;
          time_is = time.1;
          offset_is = offset.1;
          second_is = sym (cc offset.2);
        }

pub second-from : (text : List ℕ) (day : ℤ) (time : ℕ) (offset : ℤ) → has_marks text ≡ true → day_of text ≡ Some day → time_of text ≡ Some time → offset_of text ≡ Some offset
    → second_of text ≡ Some (second_at day time offset)
unfolding second_of
second-from text day time offset marks day_is time_is offset_is = rw (marks, day_is, time_is, offset_is) refl

-- ---- how long a civil time is

pub offset-long : (text : List ℕ) (offset : ℤ) → offset_of text ≡ Some offset → (length text ≡ 20) ⊎ (length text ≡ 25)
offset-long text offset e = go (is_utc text) refl e
  where
    sized : (is : Bool) → (length text == 25 && is_at colon text 22) ≡ is → (size : ℕ)
        → (if is then pair_at text 20 >>= (λ hours. pair_at text 23 >>= (λ minutes. offset_seconds hours minutes)) else None) ≡ Some size → length text ≡ 25
    sized true long size given = eqb-true (length text) 25 (and_parts (length text == 25) (is_at colon text 22) long).0
    sized false short size given = absurd (cc given)

    size-long : (size : ℕ) → offset_size text ≡ Some size → length text ≡ 25
    size-long size given = sized (length text == 25 && is_at colon text 22) refl size given

    behind : (ahead back : Bool)
        → (if ahead then offset_size text >>= (λ size. Some (pos size)) else (if back then offset_size text >>= (λ size. Some (neg_ℤ (pos size))) else None)) ≡ Some offset → length text ≡ 25
    behind true back given = let size = step-back (offset_size text) (λ size. Some (pos size)) offset given in size-long size.0 size.1
    behind false true given = let size = step-back (offset_size text) (λ size. Some (neg_ℤ (pos size))) offset given in size-long size.0 size.1
    behind false false given = absurd (cc given)

    go : (utc : Bool) → is_utc text ≡ utc
        → (if utc then Some (pos 0) else (if is_at plus text 19 then offset_size text >>= (λ size. Some (pos size)) else (if is_at dash text 19 then offset_size text >>= (λ size. Some (neg_ℤ (pos size))) else None))) ≡ Some offset
        → (length text ≡ 20) ⊎ (length text ≡ 25)
    go true ends given = inl (eqb-true (length text) 20 (and_parts (length text == 20) (is_at letter_z text 19) ends).0)
    go false other given = inr (behind (is_at plus text 19) (is_at dash text 19) given)

-- ---- the day of a text

pub record IsDay (text : List ℕ) (day : ℤ) : Type 0 where
  pub date : CivilDate
  pub date_is : date_of text ≡ Some date
  pub year_is : year_of text ≡ Some date.year
  pub in_calendar : IsInCalendar date
  pub early : 1970 ≤ date.year
  pub late : date.year ≤ 2999
  pub number : day ≡ number_of date

date-facts : (year month day : ℕ) → is_date year month day ≡ true
    → (1970 ≤ year) × (year ≤ 2999) × (1 ≤ month) × (month ≤ 12) × (1 ≤ day) × (day ≤ days_in_month (pos year) month)
date-facts year month day e =
    let two = and_parts _ _ e in
    let one = and_parts _ _ two.0 in
    let a = and_parts _ _ one.0 in
    let b = and_parts _ _ one.1 in
    let c = and_parts _ _ two.1 in
    (leb-true 1970 year a.0, leb-true year 2999 a.1, leb-true 1 month b.0, leb-true month 12 b.1, leb-true 1 day c.0, leb-true day (days_in_month (pos year) month) c.1)

pub day-of : (text : List ℕ) (day : ℤ) → day_of text ≡ Some day → IsDay text day
day-of text day e =
    let century = step-back (pair_at text 0) _ day e in
    let year = step-back (pair_at text 2) _ day century.2 in
    let month = step-back (pair_at text 5) _ day year.2 in
    let date = step-back (pair_at text 8) _ day month.2 in
    whole century.0 year.0 month.0 date.0 century.1 year.1 month.1 date.1 (is_date (100 * century.0 + year.0) month.0 date.0) refl date.2
  where
    whole : (century year month date : ℕ) → pair_at text 0 ≡ Some century → pair_at text 2 ≡ Some year → pair_at text 5 ≡ Some month → pair_at text 8 ≡ Some date
        → (is : Bool) → is_date (100 * century + year) month date ≡ is
        → (if is then Some (days_from_civil (pos (100 * century + year)) month date) else None) ≡ Some day → IsDay text day
    whole century year month date a b c d false lost given = absurd (cc given)
    whole century year month date a b c d true is given =
        let facts = date-facts (100 * century + year) month date is in
        record {
          date = record { year = 100 * century + year; month = month; day = date };
          date_is = rw (a, b, c, d) refl;
          year_is = rw (a, b) refl;
          in_calendar = (omega (arith, signed_arith, facts.1), (facts.2, facts.3), (facts.4, facts.5));
          early = facts.0;
          late = facts.1;
          number = sym (cc given);
        }

-- ---- a start

pub record IsStart (text : List ℕ) : Type 0 where
  pub second : ℤ
  pub second_is : second_of text ≡ Some second
  pub year : ℕ
  pub year_is : year_of text ≡ Some year
  pub early : year < 2999

pub start-parts : (text : List ℕ) → IsTrue (is_start text) → IsStart text
unfolding is_start
start-parts text e = go (second_of text) refl (year_of text) refl e
  where
    go : (second : Option ℤ) → second_of text ≡ second → (year : Option ℕ) → year_of text ≡ year
        → (is_some second && option_map_or (λ year. nat_lt year 2999) year false) ≡ true → IsStart text
    go None s year y given = absurd (cc given)
    go (Some second) s None y given = absurd (cc given)
    go (Some second) s (Some year) y given = record { second = second; second_is = s; year = year; year_is = y; early = ltb-true year 2999 given }

pub is-start : (text : List ℕ) (second : ℤ) (year : ℕ) → second_of text ≡ Some second → year_of text ≡ Some year → year < 2999 → IsTrue (is_start text)
unfolding is_start
is-start text second year s y early = rw (s, y) (lt-ltb year 2999 early)

-- ---- reading a start

pub never-some : {X : Type 0} (r : Option X) (P : Type 0) → r ≡ None → (P → ⊥) → (IsSome r → P) × (P → IsSome r)
never-some r P none not_so = (λ some. absurd (cc (rw none at some)), λ p. absurd (not_so p))

pub no-second : (text : List ℕ) → second_of text ≡ None → IsTrue (is_start text) → ⊥
no-second text none starts = let s = start-parts text starts in let is = s.second_is in cc (none, is)

pub no-day : (text : List ℕ) → day_of text ≡ None → IsTrue (is_start text) → ⊥
no-day text none starts = let s = start-parts text starts in let is = (parts-of text s.second s.second_is).day_is in cc (none, is)

pub no-time : (text : List ℕ) → time_of text ≡ None → IsTrue (is_start text) → ⊥
no-time text none starts = let s = start-parts text starts in let is = (parts-of text s.second s.second_is).time_is in cc (none, is)

pub too-late : (text : List ℕ) (year : ℕ) → year_of text ≡ Some year → 2999 ≤ year → IsTrue (is_start text) → ⊥
too-late text year is late starts =
    let s = start-parts text starts in
    let same : s.year ≡ year = let mine = s.year_is in cc (is, mine) in
    let early = s.early in
    omega (arith, same, early)

pub read-start : (text : List ℕ) (second day : ℤ) (time year : ℕ) → second_of text ≡ Some second → day_of text ≡ Some day → time_of text ≡ Some time → year_of text ≡ Some year
    → year < 2999 → time < 86400 → IsRead text day time
read-start text second day time year second_is day_is time_is year_is early range =
    let parts = parts-of text second second_is in
    let long = offset-long text parts.offset parts.offset_is in
    let date = day-of text day day_is in
    let same : date.date.year ≡ year = let mine = date.year_is in cc (year_is, mine) in
    let within = number-range date.date date.in_calendar date.early (omega (arith, same, early)) in
    record {
      start = is-start text second year second_is year_is early;
      long = elim long [ inl twenty ↦ omega (arith, twenty) | inr more ↦ omega (arith, more) ];
      short = elim long [ inl twenty ↦ omega (arith, twenty) | inr more ↦ omega (arith, more) ];
      day_is = day_is;
      day_range = rw date.number within;
      time_is = time_is;
      time_range = range;
    }
