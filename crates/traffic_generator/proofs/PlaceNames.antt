-- The names of places are names, and no two are the same.
use Rattle.std.proofs.Common.{◌≡◌, ℕ, ◌<◌, ◌≤◌, ◌^◌, Bool, true, false, List, [], ◌∷◌, ◌++◌, length, refl, sym, ap, arith, ◌∙◌, length-append}
use Rattle.std.specs.Prelude.{◌&&◌, decimal, nat_lt, nat_le}
use Rattle.std.specs.List.{list_all, list_any}
use Rattle.std.specs.Char.{is_ascii_digit}
use Rattle.std.specs.Str.Parse.{digits_value}
use Rattle.std.proofs.lemmas.Bool.{and_from}
use Rattle.std.proofs.lemmas.Bool.Decides.{nat_tests}
use Rattle.std.proofs.lemmas.Fmt.{length-decimal-le, digits_decimal, digits_value-decimal}
use Rattle.std.proofs.lemmas.List.Folds.{list_all-append}
use Rattle.taxi_base.specs.Words.{is_name, is_name_byte}
use Rattle.taxi_text.proofs.Numbers.{numerals}
use Rattle.traffic_generator.specs.declared.places.Place.{Place}
use Rattle.traffic_generator.specs.Places.{place_name}

-- ---- numbers of at most seven digits

pub decimal-digits : (n : ℕ) → n < 10 ^ 7 → list_all is_ascii_digit (decimal n) ≡ true
decimal-digits n low = digits_decimal numerals n (omega arith)

pub decimal-short : (n : ℕ) → n < 10 ^ 7 → length (decimal n) ≤ 7
decimal-short n low = length-decimal-le 7 n (omega arith) low (omega arith)

decimal-same : (m n : ℕ) → m < 10 ^ 7 → n < 10 ^ 7 → decimal m ≡ decimal n → m ≡ n
decimal-same m n low below e = sym (digits_value-decimal numerals m (omega arith)) ∙ ap (digits_value 10) e ∙ digits_value-decimal numerals n (omega arith)

both-true : (a b : Bool) → (a && b) ≡ true → (a ≡ true) × (b ≡ true)
both-true true b e = (refl, e)
both-true false b e = absurd (cc e)

-- what passes at digits passes at all bytes of digits
module _ (p : ℕ → Bool) (passes : (b : ℕ) → is_ascii_digit b ≡ true → p b ≡ true) where
  pub digits-pass : (bytes : List ℕ) → list_all is_ascii_digit bytes ≡ true → list_all p bytes ≡ true
  digits-pass [] all = refl
  digits-pass (b ∷ rest) all =
      let parts = both-true (is_ascii_digit b) (list_all is_ascii_digit rest) all in
      rw (passes b parts.0, digits-pass rest parts.1) refl

module _ (p : ℕ → Bool) (fails : (b : ℕ) → is_ascii_digit b ≡ true → p b ≡ false) where
  pub digits-fail : (bytes : List ℕ) → list_all is_ascii_digit bytes ≡ true → list_any p bytes ≡ false
  digits-fail [] all = refl
  digits-fail (b ∷ rest) all =
      let parts = both-true (is_ascii_digit b) (list_all is_ascii_digit rest) all in
      rw (fails b parts.0, digits-fail rest parts.1) refl

-- ---- a name with a hyphen

-- digits before a hyphen are told by it
hyphen-splits : (xs ys us vs : List ℕ) → list_all is_ascii_digit xs ≡ true → list_all is_ascii_digit ys ≡ true → xs ++ 45 ∷ us ≡ ys ++ 45 ∷ vs → (xs ≡ ys) × (us ≡ vs)
hyphen-splits [] [] us vs x y e = (refl, cc e)
hyphen-splits [] (b ∷ ys) us vs x y e =
    let hyphen : b ≡ 45 = cc e in
    let digit : is_ascii_digit b ≡ true = (both-true (is_ascii_digit b) (list_all is_ascii_digit ys) y).0 in
    absurd (cc (rw hyphen at digit))
hyphen-splits (b ∷ xs) [] us vs x y e =
    let hyphen : b ≡ 45 = cc e in
    let digit : is_ascii_digit b ≡ true = (both-true (is_ascii_digit b) (list_all is_ascii_digit xs) x).0 in
    absurd (cc (rw hyphen at digit))
hyphen-splits (b ∷ xs) (c ∷ ys) us vs x y e =
    let rest : xs ++ 45 ∷ us ≡ ys ++ 45 ∷ vs = cc e in
    let same = hyphen-splits xs ys us vs (both-true (is_ascii_digit b) (list_all is_ascii_digit xs) x).1 (both-true (is_ascii_digit c) (list_all is_ascii_digit ys) y).1 rest in
    (cc (e, same.0), same.1)

-- a place whose numbers have at most seven digits
pub record IsNear (p : Place) : Type 0 where
  pub row : p.row < 10 ^ 7
  pub column : p.column < 10 ^ 7

-- the letter and the numbers are told by the name
pub place_name-same : (a b : ℕ) (p q : Place) → IsNear p → IsNear q → place_name a p ≡ place_name b q → (p.row ≡ q.row) × (p.column ≡ q.column)
place_name-same a b p q near close e =
    let rest : decimal p.row ++ 45 ∷ decimal p.column ≡ decimal q.row ++ 45 ∷ decimal q.column = cc e in
    let parts = hyphen-splits (decimal p.row) (decimal q.row) (decimal p.column) (decimal q.column) (decimal-digits p.row near.row) (decimal-digits q.row close.row) rest in
    (decimal-same p.row q.row near.row close.row parts.0, decimal-same p.column q.column near.column close.column parts.1)

pub place_name-letter : (a b : ℕ) (p q : Place) → place_name a p ≡ place_name b q → a ≡ b
place_name-letter a b p q e = cc e

-- ---- what the name is made of

pub place_name-short : (letter : ℕ) (p : Place) → IsNear p → length (place_name letter p) ≤ 16
place_name-short letter p near =
    let whole = length-append (decimal p.row) (45 ∷ decimal p.column) in
    let row = decimal-short p.row near.row in
    let column = decimal-short p.column near.column in
    omega (arith, whole, row, column)

digit-named : (b : ℕ) → is_ascii_digit b ≡ true → is_name_byte b ≡ true
digit-named b digit = grind (arith, nat_tests, digit)

pub place_name-valid : (letter : ℕ) (p : Place) → is_name_byte letter ≡ true → IsNear p → is_name (place_name letter p) ≡ true
place_name-valid letter p named near =
    let short = place_name-short letter p near in
    let few : nat_le (length (place_name letter p)) 16 ≡ true = grind (arith, nat_tests, short) in
    let some : nat_lt 0 (length (place_name letter p)) ≡ true = grind (arith, nat_tests) in
    let row : list_all is_name_byte (decimal p.row) ≡ true = digits-pass is_name_byte digit-named (decimal p.row) (decimal-digits p.row near.row) in
    let column : list_all is_name_byte (decimal p.column) ≡ true = digits-pass is_name_byte digit-named (decimal p.column) (decimal-digits p.column near.column) in
    let rest : list_all is_name_byte (decimal p.row ++ 45 ∷ decimal p.column) ≡ true = list_all-append is_name_byte (decimal p.row) (45 ∷ decimal p.column) ∙ rw (row, column) refl in
    let bytes : list_all is_name_byte (place_name letter p) ≡ true = rw (named, rest) refl in
    and_from _ _ (and_from _ _ some few) bytes

-- a letter and a number are a name
pub numbered-valid : (letter n : ℕ) → is_name_byte letter ≡ true → n < 10 ^ 7 → is_name (letter ∷ decimal n) ≡ true
numbered-valid letter n named low =
    let short = decimal-short n low in
    let few : nat_le (length (letter ∷ decimal n)) 16 ≡ true = grind (arith, nat_tests, short) in
    let some : nat_lt 0 (length (letter ∷ decimal n)) ≡ true = grind (arith, nat_tests) in
    let bytes : list_all is_name_byte (letter ∷ decimal n) ≡ true = rw (named, digits-pass is_name_byte digit-named (decimal n) (decimal-digits n low)) refl in
    and_from _ _ (and_from _ _ some few) bytes
