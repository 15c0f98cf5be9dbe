-- The lines of the commands' text are the commands.
use Rattle.std.proofs.Common.{◌≡◌, ℕ, ◌<◌, ◌≤◌, ◌+◌, ◌-◌, ◌/◌, ◌^◌, Bool, true, false, List, [], ◌∷◌, ◌++◌, length, map, get_or, refl, sym, ap, ap₂, arith, ◌∙◌}
use Rattle.std.specs.Prelude.{All, not, filter, decimal}
use Rattle.std.specs.List.{join_with_byte}
use Rattle.std.specs.Str.Lines.{strip_carriage_return}
use Rattle.std.proofs.lemmas.List.Elements.{All-head, All-tail}
use Rattle.std.proofs.lemmas.Nat.{mod_below}
use Rattle.taxi_text.specs.Parts.{parts_of}
use Rattle.taxi_text.specs.Lines.{lines_of, lines_of_parts, is_skipped, commands_of}
use Rattle.airport_file.specs.Plain.{text_of_lines}
use Rattle.airport_text.specs.Canonical.{Fields, numbers_below}
use Rattle.traffic_generator.specs.declared.flights.Flight.{Flight}
use Rattle.traffic_generator.specs.Draws.{state_after}
use Rattle.traffic_generator.specs.Texts.{text_of, and_lines}
use Rattle.traffic_generator.specs.Flights.{draws_before, drawn_flight, flight_name, runway_name, stand_name, class_word, command_words, words_of_flight, command_lines, commands_text}
use Rattle.traffic_generator.proofs.TextLaws.{map-map}
use Rattle.traffic_generator.proofs.Below.{length-map-below, All-below}
use Rattle.traffic_generator.proofs.PlaceNames.{IsNear, place_name-short, decimal-short}
use Rattle.traffic_generator.proofs.PlainFields.{IsPlain, ArePlain, decimal-plain, place_name-plain, words-plain, plain-byte, no-feed, no-return, plain-first}
use Rattle.traffic_generator.proofs.GridLaws.{IsSide}
use Rattle.traffic_generator.proofs.Lengths.{width, lines-short}

-- ---- lines that hold no mark of a line

first-part : (line rest : List ℕ) → IsPlain line → parts_of 10 (line ++ 10 ∷ rest) ≡ line ∷ parts_of 10 rest
first-part [] rest plain = refl
first-part (b ∷ line) rest plain =
    let parts = plain-first b line plain in
    rw (no-feed b parts.0, first-part line rest parts.1) refl

parts-are : (lines : List (List ℕ)) → All IsPlain lines → parts_of 10 (text_of_lines lines) ≡ lines ++ [] ∷ []
parts-are [] all = refl
parts-are (l ∷ lines) all =
    first-part l (text_of_lines lines) (All-head IsPlain l lines all) ∙ ap (λ rest. l ∷ rest) (parts-are lines (All-tail IsPlain l lines all))

strip-plain : (line : List ℕ) → IsPlain line → strip_carriage_return line ≡ line
strip-plain line plain = rw (no-return (get_or line (length line - 1) 0) (plain-byte line (length line - 1) plain)) refl

lines-kept : (lines : List (List ℕ)) → All IsPlain lines → lines_of_parts (lines ++ [] ∷ []) ≡ lines
lines-kept [] all = refl
lines-kept (l ∷ []) all = ap (λ x. x ∷ []) (strip-plain l (All-head IsPlain l [] all))
lines-kept (l ∷ next ∷ lines) all =
    ap₂ (λ x xs. x ∷ xs) (strip-plain l (All-head IsPlain l (next ∷ lines) all)) (lines-kept (next ∷ lines) (All-tail IsPlain l (next ∷ lines) all))

lines-are : (lines : List (List ℕ)) → All IsPlain lines → lines_of (text_of_lines lines) ≡ lines
lines-are lines all = ap lines_of_parts (parts-are lines all) ∙ lines-kept lines all

filter-all : (p : List ℕ → Bool) (xs : List (List ℕ)) → All (λ x. p x ≡ true) xs → filter p xs ≡ xs
filter-all p [] all = refl
filter-all p (x ∷ xs) all = rw (All-head (λ x. p x ≡ true) x xs all) (ap (λ rest. x ∷ rest) (filter-all p xs (All-tail (λ x. p x ≡ true) x xs all)))

-- ---- a command

-- what was drawn for a flight of a grid
pub record IsDrawn (side : ℕ) (f : Flight) : Type 0 where
  pub runway : f.runway < side
  pub stand : f.stand < side
  pub time : f.time < 7200

pub drawn-is : (number side before : ℕ) → IsSide side → IsDrawn side (drawn_flight number side before)
drawn-is number side before is =
    let least = is.least in
    record {
      runway = mod_below (state_after number (before + 2 + 1) / 2 ^ 33) side (omega (arith, least));
      stand = mod_below (state_after number (before + 3 + 1) / 2 ^ 33) side (omega (arith, least));
      time = mod_below (state_after number (before + 4 + 1) / 2 ^ 33) 7200 (omega arith);
    }

row-near : (side row column : ℕ) → IsSide side → row < side → column < side → IsNear (record { row = row; column = column })
row-near side row column is low few = let most = is.most in record { row = omega (arith, low, most); column = omega (arith, few, most) }

pub runway-near : (side : ℕ) (f : Flight) → IsSide side → IsDrawn side f → IsNear (record { row = 0; column = f.runway })
runway-near side f is drawn = let least = is.least in row-near side 0 f.runway is (omega (arith, least)) drawn.runway

pub stand-near : (side : ℕ) (f : Flight) → IsSide side → IsDrawn side f → IsNear (record { row = side - 1; column = f.stand })
stand-near side f is drawn = let least = is.least in row-near side (side - 1) f.stand is (omega (arith, least)) drawn.stand

class-plain : (f : Flight) → IsPlain (class_word f) × (length (class_word f) ≤ 1)
class-plain f = go f.medium refl
  where
    go : (b : Bool) → f.medium ≡ b → IsPlain (class_word f) × (length (class_word f) ≤ 1)
    go true e = rw e (refl, omega arith)
    go false e = rw e (refl, omega arith)

-- the words need no quotes, there are few bytes, and the line isn't skipped
record IsCommand (words : Fields) : Type 0 where
  plain : ArePlain words
  short : width words < 100
  told : is_skipped (join_with_byte 32 words) ≡ false

words-are : (side number : ℕ) (f : Flight) → IsSide side → number < 2000 → IsDrawn side f → IsCommand (command_words side number f)
words-are side number f is few drawn = go f.arrives refl
  where
    time : f.time < 7200
    time = drawn.time

    name-plain : IsPlain (flight_name number)
    name-plain = decimal-plain number (omega (arith, few))

    name : length (decimal number) ≤ 7
    name = decimal-short number (omega (arith, few))

    class : IsPlain (class_word f) × (length (class_word f) ≤ 1)
    class = class-plain f

    runway : length (runway_name f) ≤ 16
    runway = place_name-short 78 (record { row = 0; column = f.runway }) (runway-near side f is drawn)

    stand : length (stand_name side f) ≤ 16
    stand = place_name-short 78 (record { row = side - 1; column = f.stand }) (stand-near side f is drawn)

    runway-plain : IsPlain (runway_name f)
    runway-plain = place_name-plain 78 (record { row = 0; column = f.runway }) refl (runway-near side f is drawn)

    stand-plain : IsPlain (stand_name side f)
    stand-plain = place_name-plain 78 (record { row = side - 1; column = f.stand }) refl (stand-near side f is drawn)

    go : (b : Bool) → f.arrives ≡ b → IsCommand (command_words side number f)
    go true e =
        let one = class.1 in
        let digits = decimal-short f.time (omega (arith, time)) in
        rw e (record {
          plain = (refl, (name-plain, (class.0, (runway-plain, (stand-plain, (decimal-plain f.time (omega (arith, time)), (refl, tt)))))));
          short = omega (arith, one, digits, name, runway, stand);
          told = refl;
        })
    go false e =
        let one = class.1 in
        let digits = decimal-short (f.time + 3600) (omega (arith, time)) in
        rw e (record {
          plain = (refl, (name-plain, (class.0, (stand-plain, (runway-plain, (decimal-plain (f.time + 3600) (omega (arith, time)), (refl, tt)))))));
          short = omega (arith, one, digits, name, runway, stand);
          told = refl;
        })

command-is : (number side f : ℕ) → IsSide side → f < 2000 → IsCommand (words_of_flight number side f)
command-is number side f is few = words-are side f (drawn_flight number side (draws_before side f)) is few (drawn-is number side (draws_before side f) is)

-- ---- the text

pub commands-written : (number side flights : ℕ) → and_lines 32 [] (map (words_of_flight number side) (numbers_below flights)) ≡ commands_text number side flights
unfolding and_lines commands_text
commands-written number side flights = ap text_of_lines (map-map (join_with_byte 32) (words_of_flight number side) (numbers_below flights))

pub commands-told : (number side flights : ℕ) → IsSide side → flights ≤ 2000 → commands_of (commands_text number side flights) ≡ command_lines number side flights
unfolding commands_text
commands-told number side flights is few =
    let plain : All IsPlain (command_lines number side flights) =
    All-below IsPlain (λ f. join_with_byte 32 (words_of_flight number side f)) flights (λ f low. words-plain (words_of_flight number side f) (command-is number side f is (omega (arith, low, few))).plain) in
    let told : All (λ l. not (is_skipped l) ≡ true) (command_lines number side flights) =
    All-below (λ l. not (is_skipped l) ≡ true) (λ f. join_with_byte 32 (words_of_flight number side f)) flights (λ f low. rw ((command-is number side f is (omega (arith, low, few))).told) refl) in
    ap (filter (λ l. not (is_skipped l))) (lines-are (command_lines number side flights) plain)
    ∙ filter-all (λ l. not (is_skipped l)) (command_lines number side flights) told

bare : (separator : ℕ) (lines : List Fields) → and_lines separator [] lines ≡ text_of separator lines
unfolding and_lines
bare separator lines = refl

pub commands-short : (number side flights : ℕ) → IsSide side → flights ≤ 2000 → length (commands_text number side flights) ≤ 16777216
commands-short number side flights is few =
    let lines : List Fields = map (words_of_flight number side) (numbers_below flights) in
    let written : commands_text number side flights ≡ text_of 32 lines = sym (commands-written number side flights) ∙ bare 32 lines in
    let short = lines-short 32 100 lines (All-below (λ l. width l < 100) (words_of_flight number side) flights (λ f low. (command-is number side f is (omega (arith, low, few))).short)) in
    let many = length-map-below (words_of_flight number side) flights in
    let same = ap (λ (t : List ℕ). length t) written in
    omega (arith, short, many, same, few)
