-- The records of least times are let through, and the rows that they give.
use Rattle.std.proofs.Common.{◌≡◌, ℕ, ◌<◌, ◌≤◌, ◌^◌, zero, suc, false, List, [], ◌∷◌, ◌++◌, length, map, Option, Some, None, Ok, refl, sym, subst, arith, append_assoc, append-nil, ◌∙◌, ap}
use Rattle.std.specs.Prelude.{◌==◌, ◌&&◌, option_map, filter_map, flat_map, decimal, codes}
use Rattle.std.specs.List.{cons_option}
use Rattle.std.proofs.lemmas.Bool.Decides.{nat_tests}
use Rattle.std.proofs.lemmas.List.{flat_map_more}
use Rattle.std.proofs.lemmas.List.Elements.{filter_map-append}
use Rattle.std.proofs.lemmas.List.Folds.{list_any-append}
use Rattle.taxi_base.specs.declared.numbers.Segment.{Segment}
use Rattle.taxi_base.specs.declared.numbers.Class.{Class}
use Rattle.taxi_base.specs.Airport.{Airport, IsWellFormed, seconds}
use Rattle.taxi_base.proofs.AirportLaws.{seconds-range}
use Rattle.taxi_text.proofs.Numbers.{number-again}
use Rattle.airport_file.specs.Words.{segment_word, class_word}
use Rattle.airport_rules.specs.declared.rows.TimeRow.{TimeRow}
use Rattle.airport_rules.specs.declared.version.Version.TheVariants.{Two}
use Rattle.airport_rules.specs.Plan.{Plan}
use Rattle.airport_rules.specs.Rules.{judge, judge_seconds, number_within, within, is_timed}
use Rattle.airport_text.specs.Canonical.{numbers_below, time_record, times_on, time_records}
use Rattle.airport_file.proofs.NamedPlaces.{IsFound, word-found}
use Rattle.airport_text.proofs.Judging.{AreTaken, taken-append}

-- ---- the rows

-- the row of a class's least time on a segment, if there is one
abbrev pub time_row : Airport → ℕ → ℕ → Option TimeRow
time_row airport segment class =
    option_map (λ n. record { segment = record { 0 = segment }; class = record { 0 = class }; seconds = n }) (seconds airport (record { 0 = class }) (record { 0 = segment }))

-- those of the classes below a number on a segment, and of all classes on the segments below a number
abbrev pub rows_on : Airport → ℕ → ℕ → List TimeRow
rows_on airport segment classes = filter_map (time_row airport segment) (numbers_below classes)

abbrev pub rows_below : Airport → ℕ → List TimeRow
rows_below airport segments = flat_map (λ s. rows_on airport s (length airport.classes)) (numbers_below segments)

-- ---- one number

-- a number in its range is read again
pub number-taken : (least most n : ℕ) → least ≤ n → n ≤ most → n < 10 ^ 7 → number_within least most (decimal n) ≡ Some n
number-taken least most n low high few = ap (within least most) (number-again n few) ∙ inside
  where
    inside : within least most (Some n) ≡ Some n
    inside = grind (arith, nat_tests, low, high)

-- ---- one record

-- the plan with these times
abbrev pub with_times : Plan → List TimeRow → Plan
with_times plan times = record plan { times = times }

time-judged : (plan : Plan) (segment_name class_name number : List ℕ) (segment class n : ℕ) → IsFound segment_name plan.segments segment → IsFound class_name plan.classes class
    → number_within 1 3600 number ≡ Some n → is_timed (record { 0 = segment }) (record { 0 = class }) plan.times ≡ false
    → judge_seconds plan segment_name class_name number
    ≡ Ok (with_times plan (plan.times ++ record { segment = record { 0 = segment }; class = record { 0 = class }; seconds = n } ∷ []))
time-judged plan segment_name class_name number segment class n first second read fresh =
    rw (first.valid, second.valid, first.place, second.place, read, fresh) refl

-- the plan has the names of the airport's segments and classes
pub record IsNamed (airport : Airport) (plan : Plan) : Type 0 where
  pub well : IsWellFormed airport
  pub segments : plan.segments ≡ map (λ s. s.name) airport.segments
  pub classes : plan.classes ≡ map (λ c. c.name) airport.classes

pub segment-found : (airport : Airport) (plan : Plan) (s : Segment) → IsNamed airport plan → s.0 < length airport.segments → IsFound (segment_word airport s) plan.segments s.0
segment-found airport plan s named low =
    subst (λ ns. IsFound (segment_word airport s) ns s.0) (sym named.segments) (word-found (λ s. s.name) airport.segments s.0 10000 named.well.segments low)

pub class-found : (airport : Airport) (plan : Plan) (c : Class) → IsNamed airport plan → c.0 < length airport.classes → IsFound (class_word airport c) plan.classes c.0
class-found airport plan c named low =
    subst (λ ns. IsFound (class_word airport c) ns c.0) (sym named.classes) (word-found (λ c. c.name) airport.classes c.0 32 named.well.classes low)

time-taken : (airport : Airport) (plan : Plan) (segment class n : ℕ) → IsNamed airport plan → segment < length airport.segments → class < length airport.classes
    → seconds airport (record { 0 = class }) (record { 0 = segment }) ≡ Some n
    → is_timed (record { 0 = segment }) (record { 0 = class }) plan.times ≡ false
    → judge Two plan (codes "seconds" ∷ segment_word airport (record { 0 = segment }) ∷ class_word airport (record { 0 = class }) ∷ decimal n ∷ [])
    ≡ Ok (with_times plan (plan.times ++ record { segment = record { 0 = segment }; class = record { 0 = class }; seconds = n } ∷ []))
unfolding judge
time-taken airport plan segment class n named s c given fresh =
    let range = seconds-range airport (record { 0 = class }) (record { 0 = segment }) n named.well given in
    time-judged plan (segment_word airport (record { 0 = segment })) (class_word airport (record { 0 = class })) (decimal n) segment class n
    (segment-found airport plan (record { 0 = segment }) named s)
    (class-found airport plan (record { 0 = class }) named c)
    (number-taken 1 3600 n range.0 range.1 (omega (arith, range.1))) fresh

-- the record of a class on a segment, where it has a time there
cell-taken : (airport : Airport) (plan : Plan) (segment class : ℕ) → IsNamed airport plan → segment < length airport.segments → class < length airport.classes
    → is_timed (record { 0 = segment }) (record { 0 = class }) plan.times ≡ false
    → AreTaken plan (filter_map (λ c. time_record airport (record { 0 = segment }) (record { 0 = c })) (class ∷ [])) (with_times plan (plan.times ++ filter_map (time_row airport segment) (class ∷ [])))
cell-taken airport plan segment class named s c fresh = go (seconds airport (record { 0 = class }) (record { 0 = segment })) refl
  where
    go : (o : Option ℕ) → seconds airport (record { 0 = class }) (record { 0 = segment }) ≡ o
        → AreTaken plan
        (cons_option (option_map (λ n. codes "seconds" ∷ segment_word airport (record { 0 = segment }) ∷ class_word airport (record { 0 = class }) ∷ decimal n ∷ []) o) [])
        (with_times plan (plan.times ++ cons_option (option_map (λ n. record { segment = record { 0 = segment }; class = record { 0 = class }; seconds = n }) o) []))
    go (Some n) e = (
      with_times plan (plan.times ++ record { segment = record { 0 = segment }; class = record { 0 = class }; seconds = n } ∷ []),
      time-taken airport plan segment class n named s c e fresh,
      refl,
    )
    go None e = rw (append-nil plan.times) refl

-- ---- no time is given twice

timed-append : (segment : Segment) (class : Class) (before after : List TimeRow) → is_timed segment class before ≡ false → is_timed segment class after ≡ false
    → is_timed segment class (before ++ after) ≡ false
timed-append segment class before after e f = list_any-append (λ t. t.segment.0 == segment.0 && t.class.0 == class.0) before after ∙ rw (e, f) refl

-- a class has no time yet among those of the classes below it
timed-above : (airport : Airport) (segment class many : ℕ) → many ≤ class → is_timed (record { 0 = segment }) (record { 0 = class }) (rows_on airport segment many) ≡ false
timed-above airport segment class zero low = refl
timed-above airport segment class (suc many) low =
    rw (filter_map-append (time_row airport segment) (numbers_below many) (many ∷ []))
    (timed-append (record { 0 = segment }) (record { 0 = class }) (rows_on airport segment many) (filter_map (time_row airport segment) (many ∷ []))
    (timed-above airport segment class many (omega (arith, low)))
    (go (seconds airport (record { 0 = many }) (record { 0 = segment }))))
  where
    apart : (many == class) ≡ false
    apart = grind (arith, nat_tests, low)

    go : (o : Option ℕ)
        → is_timed (record { 0 = segment }) (record { 0 = class })
        (cons_option (option_map (λ n. record { segment = record { 0 = segment }; class = record { 0 = many }; seconds = n }) o) []) ≡ false
    go (Some n) = grind (arith, nat_tests, apart)
    go None = refl

-- nor among those on another segment
timed-elsewhere : (airport : Airport) (segment other class : ℕ) (classes : List ℕ) → (other == segment) ≡ false
    → is_timed (record { 0 = segment }) (record { 0 = class }) (filter_map (time_row airport other) classes) ≡ false
timed-elsewhere airport segment other class [] apart = refl
timed-elsewhere airport segment other class (c ∷ classes) apart =
    go (seconds airport (record { 0 = c }) (record { 0 = other })) (timed-elsewhere airport segment other class classes apart)
  where
    go : (o : Option ℕ) → is_timed (record { 0 = segment }) (record { 0 = class }) (filter_map (time_row airport other) classes) ≡ false
        → is_timed (record { 0 = segment }) (record { 0 = class })
        (cons_option (option_map (λ n. record { segment = record { 0 = other }; class = record { 0 = c }; seconds = n }) o) (filter_map (time_row airport other) classes)) ≡ false
    go (Some n) rest = rw (apart, rest) refl
    go None rest = rest

timed-past : (airport : Airport) (segment class many : ℕ) → many ≤ segment → is_timed (record { 0 = segment }) (record { 0 = class }) (rows_below airport many) ≡ false
timed-past airport segment class zero low = refl
timed-past airport segment class (suc many) low =
    let apart : (many == segment) ≡ false = grind (arith, nat_tests, low) in
    rw (sym (flat_map_more (λ s. rows_on airport s (length airport.classes)) [] (numbers_below many) many))
    (timed-append (record { 0 = segment }) (record { 0 = class }) (rows_below airport many) (rows_on airport many (length airport.classes))
    (timed-past airport segment class many (omega (arith, low)))
    (timed-elsewhere airport segment many class (numbers_below (length airport.classes)) apart))

-- ---- all records

on-taken : (airport : Airport) (plan : Plan) (segment many : ℕ) → IsNamed airport plan → segment < length airport.segments → many ≤ length airport.classes
    → ((class : ℕ) → is_timed (record { 0 = segment }) (record { 0 = class }) plan.times ≡ false)
    → AreTaken plan (filter_map (λ c. time_record airport (record { 0 = segment }) (record { 0 = c })) (numbers_below many)) (with_times plan (plan.times ++ rows_on airport segment many))
on-taken airport plan segment zero named s c fresh = rw (append-nil plan.times) refl
on-taken airport plan segment (suc many) named s c fresh =
    let middle : Plan = with_times plan (plan.times ++ rows_on airport segment many) in
    rw (
      filter_map-append (λ c. time_record airport (record { 0 = segment }) (record { 0 = c })) (numbers_below many) (many ∷ []),
      filter_map-append (time_row airport segment) (numbers_below many) (many ∷ []),
      sym (append_assoc plan.times (rows_on airport segment many) (filter_map (time_row airport segment) (many ∷ []))),
    )
    (taken-append plan middle _ _ _ (on-taken airport plan segment many named s (omega (arith, c)) fresh)
    (cell-taken airport middle segment many (record { well = named.well; segments = named.segments; classes = named.classes }) s (omega (arith, c))
    (timed-append (record { 0 = segment }) (record { 0 = many }) plan.times (rows_on airport segment many) (fresh many) (timed-above airport segment many many (omega arith)))))

times-below : (airport : Airport) (plan : Plan) (many : ℕ) → IsNamed airport plan → many ≤ length airport.segments → plan.times ≡ []
    → AreTaken plan (flat_map (times_on airport) (numbers_below many)) (with_times plan (rows_below airport many))
times-below airport plan zero named low none = rw (sym none) refl
times-below airport plan (suc many) named low none =
    let middle : Plan = with_times plan (rows_below airport many) in
    rw (
      sym (flat_map_more (times_on airport) [] (numbers_below many) many),
      sym (flat_map_more (λ s. rows_on airport s (length airport.classes)) [] (numbers_below many) many),
    )
    (taken-append plan middle _ _ _ (times-below airport plan many named (omega (arith, low)) none)
    (on-taken airport middle many (length airport.classes) (record { well = named.well; segments = named.segments; classes = named.classes }) (omega (arith, low)) (omega arith)
    (λ class. timed-past airport many class many (omega arith))))

pub times-taken : (airport : Airport) (plan : Plan) → IsNamed airport plan → plan.times ≡ []
    → AreTaken plan (time_records airport) (with_times plan (rows_below airport (length airport.segments)))
times-taken airport plan named none = times-below airport plan (length airport.segments) named (omega arith) none
