-- Numbers of at most seven digits.
use Rattle.std.proofs.Common.{Some, nat_lt, nat_le, decimal, ◌≡◌, ◌⊎◌, inl, inr, ◌+◌, ◌*◌, ◌-◌, ◌<◌, ◌≤◌, ◌^◌, ℕ, List, IsTrue, true, false, ap, subst, take, length, get_or, arith, rules}
use Rattle.std.proofs.lemmas.Str.Parse.{IsNumeralModel, IsDigitsTest, numerals_by_value, digits_value_short, digits_value-take-le, digit_at}
use Rattle.std.proofs.lemmas.Int.Digits.{digits_value_more}
use Rattle.std.proofs.lemmas.Str.{digit_value_digit}
use Rattle.std.proofs.lemmas.Bool.{and_from, cases_Bool}
use Rattle.std.proofs.lemmas.Bool.Decides.{nat_tests}
use Rattle.std.proofs.lemmas.Fmt.{decimal_nonempty, length-decimal-le, digits_decimal, digits_value-decimal}
use Rattle.std.specs.List.{list_all}
use Rattle.std.specs.Char.{is_ascii_digit}
use Rattle.std.specs.Str.Parse.{digits_value}
use Rattle.taxi_text.specs.Fields.{is_number, number_of}

tells : IsDigitsTest (λ word. list_all is_ascii_digit word ≡ true)
tells = search rules

pub numerals : IsNumeralModel (λ word. list_all is_ascii_digit word ≡ true) (digits_value 10)
numerals = numerals_by_value _ tells

-- The value of one digit more, which stays below 10 ^ 7.
pub next_digit : (digits : List ℕ) (i number : ℕ) → list_all is_ascii_digit digits ≡ true → length digits ≤ 7 → i < length digits → number ≡ digits_value 10 (take i digits)
    → (number * 10 + (get_or digits i 0 - 48) ≡ digits_value 10 (take (i + 1) digits)) × (number * 10 + (get_or digits i 0 - 48) < 10 ^ 7)
next_digit digits i number all few within so_far =
    let digit = digit_at digits i (numerals.to digits all) within in
    let e : number * 10 + (get_or digits i 0 - 48) ≡ digits_value 10 (take (i + 1) digits) =
    omega (arith, so_far, digit_value_digit (get_or digits i 0) digit, digits_value_more 10 digits i within) in
    (e, omega (arith, e, digits_value-take-le 10 digits (i + 1) (omega arith), digits_value_short numerals digits 7 all few))

pub is_number-parts : (word : List ℕ) → IsTrue (is_number word) → (length word ≤ 7) × (list_all is_ascii_digit word ≡ true)
is_number-parts word h = search rules

-- What a word is read as has at most seven digits.
pub number_of-short : (word : List ℕ) (n : ℕ) → number_of word ≡ Some n → n < 10 ^ 7
number_of-short word n e = go (cases_Bool (is_number word))
  where
    go : (is_number word ≡ true) ⊎ (is_number word ≡ false) → n < 10 ^ 7
    go (inl it_is) =
        let same : digits_value 10 word ≡ n = cc (rw it_is at e) in
        let parts = is_number-parts word it_is in
        let short = digits_value_short numerals word 7 parts.1 parts.0 in
        subst (λ m. m < 10 ^ 7) same short
    go (inr fails) = absurd (cc (rw fails at e))

below : (a b : ℕ) → a < b → nat_lt a b ≡ true
below a b h = grind (arith, nat_tests)

at_most : (a b : ℕ) → a ≤ b → nat_le a b ≡ true
at_most a b h = grind (arith, nat_tests)

-- The digits of a number below 10 ^ 7 are read as the number.
pub number-again : (n : ℕ) → n < 10 ^ 7 → number_of (decimal n) ≡ Some n
number-again n h =
    let small : n < 2 ^ 64 = omega arith in
    let some : nat_lt 0 (length (decimal n)) ≡ true = below 0 (length (decimal n)) (decimal_nonempty n small) in
    let few : nat_le (length (decimal n)) 7 ≡ true = at_most (length (decimal n)) 7 (length-decimal-le 7 n (omega arith) h small) in
    let digits : is_number (decimal n) ≡ true = and_from _ _ (and_from _ _ some few) (digits_decimal numerals n small) in
    rw digits (ap (λ v. Some v) (digits_value-decimal numerals n small))
