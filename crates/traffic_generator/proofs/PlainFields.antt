-- Fields that need no quotes: they hold no comma, no quote and no mark of a line.
use Rattle.std.proofs.Common.{◌≡◌, ℕ, ◌<◌, ◌^◌, Bool, true, false, zero, suc, List, [], ◌∷◌, ◌++◌, get_or, refl, arith, ◌∙◌}
use Rattle.std.specs.Prelude.{◌||◌, ◌==◌, decimal}
use Rattle.std.specs.List.{join_with_byte}
use Rattle.std.specs.Char.{is_ascii_digit}
use Rattle.std.proofs.lemmas.Bool.Decides.{nat_tests}
use Rattle.std.proofs.lemmas.List.Folds.{list_any-append}
use Rattle.csv.specs.Writing.{needs_quotes, needs_byte}
use Rattle.airport_text.specs.Canonical.{record_writer}
use Rattle.traffic_generator.specs.declared.places.Place.{Place}
use Rattle.traffic_generator.specs.Places.{place_name}
use Rattle.traffic_generator.proofs.PlaceNames.{IsNear, decimal-digits, digits-fail}

abbrev pub IsPlain : List ℕ → Type 0
IsPlain field = needs_quotes record_writer field ≡ false

abbrev pub ArePlain : List (List ℕ) → Type 0
ArePlain [] = Unit {0}
ArePlain (field ∷ rest) = IsPlain field × ArePlain rest

digit-plain : (b : ℕ) → is_ascii_digit b ≡ true → needs_byte record_writer b ≡ false
digit-plain b digit = grind (arith, nat_tests, digit)

-- numbers and names need no quotes
pub decimal-plain : (n : ℕ) → n < 10 ^ 7 → IsPlain (decimal n)
decimal-plain n low = digits-fail (needs_byte record_writer) digit-plain (decimal n) (decimal-digits n low)

pub place_name-plain : (letter : ℕ) (p : Place) → needs_byte record_writer letter ≡ false → IsNear p → IsPlain (place_name letter p)
place_name-plain letter p plain near =
    let rest : needs_quotes record_writer (decimal p.row ++ 45 ∷ decimal p.column) ≡ false =
    list_any-append (needs_byte record_writer) (decimal p.row) (45 ∷ decimal p.column) ∙ rw (decimal-plain p.row near.row, decimal-plain p.column near.column) refl in
    rw (plain, rest) refl

-- ---- words between blanks

pub words-plain : (words : List (List ℕ)) → ArePlain words → IsPlain (join_with_byte 32 words)
words-plain [] plain = refl
words-plain (w ∷ []) plain = plain.0
words-plain (w ∷ next ∷ words) plain =
    list_any-append (needs_byte record_writer) w (32 ∷ join_with_byte 32 (next ∷ words)) ∙ rw (plain.0, words-plain (next ∷ words) plain.1) refl

pub both-false : (a b : Bool) → (a || b) ≡ false → (a ≡ false) × (b ≡ false)
both-false true b e = absurd (cc e)
both-false false b e = (refl, e)

pub plain-byte : (bytes : List ℕ) (k : ℕ) → IsPlain bytes → needs_byte record_writer (get_or bytes k 0) ≡ false
plain-byte [] k plain = refl
plain-byte (b ∷ rest) zero plain = (both-false (needs_byte record_writer b) (needs_quotes record_writer rest) plain).0
plain-byte (b ∷ rest) (suc k) plain = plain-byte rest k (both-false (needs_byte record_writer b) (needs_quotes record_writer rest) plain).1

-- neither of the marks of a line
pub no-feed : (b : ℕ) → needs_byte record_writer b ≡ false → (b == 10) ≡ false
no-feed b plain = grind (arith, nat_tests, plain)

pub no-return : (b : ℕ) → needs_byte record_writer b ≡ false → (b == 13) ≡ false
no-return b plain = grind (arith, nat_tests, plain)

pub plain-first : (b : ℕ) (rest : List ℕ) → IsPlain (b ∷ rest) → (needs_byte record_writer b ≡ false) × IsPlain rest
plain-first b rest plain = both-false (needs_byte record_writer b) (needs_quotes record_writer rest) plain
