-- Each line is read as the command that was drawn.
use Rattle.std.proofs.Common.{◌≡◌, ℕ, ◌<◌, ◌≤◌, ◌+◌, ◌-◌, ◌^◌, Bool, true, false, List, [], ◌∷◌, ◌++◌, map, refl, sym, ap, arith, ◌∙◌, Some}
use Rattle.std.specs.Prelude.{◌==◌, codes, decimal}
use Rattle.std.specs.Char.{is_ascii_digit}
use Rattle.std.specs.List.{list_any, join_with_byte}
use Rattle.std.proofs.lemmas.Bool.Decides.{nat_tests}
use Rattle.std.proofs.lemmas.List.Folds.{list_any-append}
use Rattle.taxi_base.specs.Words.{is_name}
use Rattle.taxi_text.specs.declared.command.Command.TheVariants.{Arrival, Departure}
use Rattle.taxi_text.specs.Fields.{number_of}
use Rattle.taxi_text.specs.Words.{words_of}
use Rattle.taxi_text.specs.Commands.{command_of, command_of_words, asked_of, ◌>>=◌}
use Rattle.taxi_text.proofs.Numbers.{number-again}
use Rattle.airport_text.specs.Canonical.{Fields, numbers_below}
use Rattle.traffic_generator.specs.declared.places.Place.{Place}
use Rattle.traffic_generator.specs.declared.flights.Flight.{Flight}
use Rattle.traffic_generator.specs.Places.{place_name}
use Rattle.traffic_generator.specs.Flights.{draws_before, drawn_flight, flight_name, runway_name, stand_name, class_word, command_words, words_of_flight, command_lines, asked_command, asked_commands}
use Rattle.traffic_generator.proofs.TextLaws.{map-map}
use Rattle.traffic_generator.proofs.Below.{map-below-same}
use Rattle.traffic_generator.proofs.PlaceNames.{IsNear, decimal-digits, digits-fail, place_name-valid, numbered-valid}
use Rattle.traffic_generator.proofs.PlainFields.{both-false}
use Rattle.traffic_generator.proofs.GridLaws.{IsSide}
use Rattle.traffic_generator.proofs.CommandLines.{IsDrawn, drawn-is, runway-near, stand-near}

-- ---- words that hold no blank

abbrev HasBlank : List ℕ → Bool
HasBlank word = list_any (λ b. b == 32) word

abbrev AreWords : List (List ℕ) → Type 0
AreWords [] = Unit {0}
AreWords (word ∷ rest) = (HasBlank word ≡ false) × AreWords rest

word-first : (word rest : List ℕ) → HasBlank word ≡ false → words_of (word ++ 32 ∷ rest) ≡ word ∷ words_of rest
word-first [] rest whole = refl
word-first (b ∷ word) rest whole =
    let parts = both-false (b == 32) (HasBlank word) whole in
    rw (parts.0, word-first word rest parts.1) refl

word-last : (word : List ℕ) → HasBlank word ≡ false → words_of word ≡ word ∷ []
word-last [] whole = refl
word-last (b ∷ word) whole =
    let parts = both-false (b == 32) (HasBlank word) whole in
    rw (parts.0, word-last word parts.1) refl

words-again : (word : List ℕ) (rest : Fields) → AreWords (word ∷ rest) → words_of (join_with_byte 32 (word ∷ rest)) ≡ word ∷ rest
words-again word [] whole = word-last word whole.0
words-again word (next ∷ rest) whole =
    word-first word (join_with_byte 32 (next ∷ rest)) whole.0 ∙ ap (λ ws. word ∷ ws) (words-again next rest whole.1)

digit-whole : (b : ℕ) → is_ascii_digit b ≡ true → (b == 32) ≡ false
digit-whole b digit = grind (arith, nat_tests, digit)

decimal-whole : (n : ℕ) → n < 10 ^ 7 → HasBlank (decimal n) ≡ false
decimal-whole n low = digits-fail (λ b. b == 32) digit-whole (decimal n) (decimal-digits n low)

place_name-whole : (p : Place) → IsNear p → HasBlank (place_name 78 p) ≡ false
place_name-whole p near =
    list_any-append (λ b. b == 32) (decimal p.row) (45 ∷ decimal p.column) ∙ rw (decimal-whole p.row near.row, decimal-whole p.column near.column) refl

-- ---- one line

-- the words of a command are read as what is asked
asked-read : (flight class from to time : List ℕ) (t : ℕ) → is_name flight ≡ true → is_name class ≡ true → is_name from ≡ true → is_name to ≡ true → number_of time ≡ Some t
    → asked_of (flight ∷ class ∷ from ∷ to ∷ time ∷ codes "600" ∷ []) ≡ Some (record { flight = flight; class = class; from = from; to = to; time = t; slack = 600 })
asked-read flight class from to time t a b c d e = rw (a, b, c, d, e) refl

arrival-read : (flight class from to time : List ℕ) (t : ℕ) → is_name flight ≡ true → is_name class ≡ true → is_name from ≡ true → is_name to ≡ true → number_of time ≡ Some t
    → command_of_words (codes "arrival" ∷ flight ∷ class ∷ from ∷ to ∷ time ∷ codes "600" ∷ []) ≡ Some (Arrival (record { flight = flight; class = class; from = from; to = to; time = t; slack = 600 }))
arrival-read flight class from to time t a b c d e = ap (λ asked. asked >>= (λ x. Some (Arrival x))) (asked-read flight class from to time t a b c d e)

departure-read : (flight class from to time : List ℕ) (t : ℕ) → is_name flight ≡ true → is_name class ≡ true → is_name from ≡ true → is_name to ≡ true → number_of time ≡ Some t
    → command_of_words (codes "departure" ∷ flight ∷ class ∷ from ∷ to ∷ time ∷ codes "600" ∷ []) ≡ Some (Departure (record { flight = flight; class = class; from = from; to = to; time = t; slack = 600 }))
departure-read flight class from to time t a b c d e = ap (λ asked. asked >>= (λ x. Some (Departure x))) (asked-read flight class from to time t a b c d e)

class-read : (f : Flight) → (is_name (class_word f) ≡ true) × (HasBlank (class_word f) ≡ false)
class-read f = go f.medium refl
  where
    go : (b : Bool) → f.medium ≡ b → (is_name (class_word f) ≡ true) × (HasBlank (class_word f) ≡ false)
    go true e = rw e (refl, refl)
    go false e = rw e (refl, refl)

flight-read : (side number : ℕ) (f : Flight) → IsSide side → number < 2000 → IsDrawn side f → command_of (join_with_byte 32 (command_words side number f)) ≡ Some (asked_command side number f)
unfolding command_of
flight-read side number f is few drawn = go f.arrives refl
  where
    time : f.time < 7200
    time = drawn.time

    runway : IsNear (record { row = 0; column = f.runway })
    runway = runway-near side f is drawn

    stand : IsNear (record { row = side - 1; column = f.stand })
    stand = stand-near side f is drawn

    class : (is_name (class_word f) ≡ true) × (HasBlank (class_word f) ≡ false)
    class = class-read f

    name : is_name (flight_name number) ≡ true
    name = numbered-valid 70 number refl (omega (arith, few))

    name-whole : HasBlank (flight_name number) ≡ false
    name-whole = decimal-whole number (omega (arith, few))

    from : is_name (runway_name f) ≡ true
    from = place_name-valid 78 (record { row = 0; column = f.runway }) refl runway

    to : is_name (stand_name side f) ≡ true
    to = place_name-valid 78 (record { row = side - 1; column = f.stand }) refl stand

    from-whole : HasBlank (runway_name f) ≡ false
    from-whole = place_name-whole (record { row = 0; column = f.runway }) runway

    to-whole : HasBlank (stand_name side f) ≡ false
    to-whole = place_name-whole (record { row = side - 1; column = f.stand }) stand

    go : (b : Bool) → f.arrives ≡ b → command_of_words (words_of (join_with_byte 32 (command_words side number f))) ≡ Some (asked_command side number f)
    go true e =
        let rest : Fields = flight_name number ∷ class_word f ∷ runway_name f ∷ stand_name side f ∷ decimal f.time ∷ codes "600" ∷ [] in
        rw e (ap command_of_words (words-again (codes "arrival") rest (refl, (name-whole, (class.1, (from-whole, (to-whole, (decimal-whole f.time (omega (arith, time)), (refl, tt))))))))
        ∙ arrival-read (flight_name number) (class_word f) (runway_name f) (stand_name side f) (decimal f.time) f.time name class.0 from to (number-again f.time (omega (arith, time))))
    go false e =
        let rest : Fields = flight_name number ∷ class_word f ∷ stand_name side f ∷ runway_name f ∷ decimal (f.time + 3600) ∷ codes "600" ∷ [] in
        rw e (ap command_of_words (words-again (codes "departure") rest (refl, (name-whole, (class.1, (to-whole, (from-whole, (decimal-whole (f.time + 3600) (omega (arith, time)), (refl, tt))))))))
        ∙ departure-read (flight_name number) (class_word f) (stand_name side f) (runway_name f) (decimal (f.time + 3600)) (f.time + 3600) name class.0 to from (number-again (f.time + 3600) (omega (arith, time))))

-- ---- all lines

pub lines-read : (number side flights : ℕ) → IsSide side → flights ≤ 2000 → map command_of (command_lines number side flights) ≡ map (λ c. Some c) (asked_commands number side flights)
lines-read number side flights is few =
    map-map command_of (λ f. join_with_byte 32 (words_of_flight number side f)) (numbers_below flights)
    ∙ map-below-same _ _ flights (λ f low. flight-read side f (drawn_flight number side (draws_before side f)) is (omega (arith, low, few)) (drawn-is number side (draws_before side f) is))
    ∙ sym (map-map (λ c. Some c) (λ f. asked_command side f (drawn_flight number side (draws_before side f))) (numbers_below flights))
