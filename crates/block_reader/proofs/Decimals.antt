-- Numbers of at most ten digits, without leading zeros.
use Rattle.std.proofs.Common.{Option, Some, None, subst, decimal, ◌≡◌, ◌+◌, ◌*◌, ◌-◌, ◌<◌, ◌≤◌, ◌^◌, ◌%◌, ◌∷◌, [], ◌∙◌, ℕ, zero, suc, Bool, cond, List, true, false, ap, sym, take, length, get_or, arith, rules, refl, inl, inr}
use Rattle.std.proofs.lemmas.Str.Parse.{IsNumeralModel, IsDigitsTest, numerals_by_value, digits_value_short, digit_at}
use Rattle.std.proofs.lemmas.Int.Digits.{digits_value_more}
use Rattle.std.proofs.lemmas.Str.{digit_value_digit}
use Rattle.std.proofs.lemmas.Bool.{cases_lt, and_parts, and_from, both_ways, false_from_ne_true}
use Rattle.std.proofs.lemmas.List.{length-append, get_or_append_left, length-take-le, get_or-take, take-take}
use Rattle.std.proofs.lemmas.Bool.Decides.{nat_tests}
use Rattle.std.proofs.lemmas.Fmt.{decimal_nonempty, decimal_by_steps, length-decimal-le, digits_decimal, digits_value-decimal, decimal-digits_value}
use Rattle.std.specs.List.{list_all}
use Rattle.std.specs.Char.{is_ascii_digit}
use Rattle.std.specs.Str.Parse.{digits_value}
use Rattle.std.specs.Prelude.{IfSome}
use Rattle.block_reader.specs.Fields.{is_decimal, digits_of, decimal_of}

tells : IsDigitsTest (λ word. list_all is_ascii_digit word ≡ true)
tells = search rules

pub numerals : IsNumeralModel (λ word. list_all is_ascii_digit word ≡ true) (digits_value 10)
numerals = numerals_by_value _ tells

pub record IsDecimal (most : ℕ) (word : List ℕ) : Type 0 where
  pub some : 0 < length word
  pub few : length word ≤ most
  pub digits : list_all is_ascii_digit word ≡ true
  pub lead : get_or word 0 0 ≡ 48 → length word ≡ 1

pub is_decimal-parts : (most : ℕ) (word : List ℕ) → is_decimal most word ≡ true → IsDecimal most word
is_decimal-parts most word h = record { some = grind (arith, nat_tests, h); few = grind (arith, nat_tests, h); digits = grind (arith, nat_tests, h); lead = λ z. grind (arith, nat_tests, h, z) }

pub is_decimal-from : (most : ℕ) (word : List ℕ) → IsDecimal most word → is_decimal most word ≡ true
is_decimal-from most word d = let some = d.some in let few = d.few in let digits = d.digits in let lead = d.lead in grind (arith, nat_tests, some, few, digits, lead)

-- ---- digit by digit

-- the first so many bytes are digits, and this is their value
abbrev pub IsReadSoFar : List ℕ → ℕ → ℕ → Type 0
IsReadSoFar digits count number = (list_all is_ascii_digit (take count digits) ≡ true) × (number ≡ digits_value 10 (take count digits))

all_digits-one : (digits : List ℕ) (i : ℕ) → i < length digits → list_all is_ascii_digit (take i digits) ≡ true → is_ascii_digit (get_or digits i 0) ≡ true
    → list_all is_ascii_digit (take (suc i) digits) ≡ true
all_digits-one [] i low all here = absurd (omega (arith, low))
all_digits-one (d ∷ digits) zero low all here = and_from (is_ascii_digit d) true here refl
all_digits-one (d ∷ digits) (suc i) low all here =
    let parts = and_parts (is_ascii_digit d) (list_all is_ascii_digit (take i digits)) all in
    and_from (is_ascii_digit d) _ parts.0 (all_digits-one digits i (omega (arith, low)) parts.1 here)

all_digits-more : (digits : List ℕ) (i : ℕ) → i < length digits → list_all is_ascii_digit (take i digits) ≡ true → is_ascii_digit (get_or digits i 0) ≡ true
    → list_all is_ascii_digit (take (i + 1) digits) ≡ true
all_digits-more digits i low all here =
    let e : suc i ≡ i + 1 = omega arith in
    subst (λ n. list_all is_ascii_digit (take n digits) ≡ true) e (all_digits-one digits i low all here)

-- where one byte is no digit, not all are
pub not_all_digits : (digits : List ℕ) (i : ℕ) → i < length digits → is_ascii_digit (get_or digits i 0) ≡ false → list_all is_ascii_digit digits ≡ false
not_all_digits digits i low other =
    false_from_ne_true _ (λ all. absurd (both_ways _ other (digit-at digits i low all))) where
      digit-at : (digits : List ℕ) (i : ℕ) → i < length digits → list_all is_ascii_digit digits ≡ true → is_ascii_digit (get_or digits i 0) ≡ true
      digit-at [] i low all = absurd (omega (arith, low))
      digit-at (d ∷ digits) zero low all = (and_parts (is_ascii_digit d) (list_all is_ascii_digit digits) all).0
      digit-at (d ∷ digits) (suc i) low all = digit-at digits i (omega (arith, low)) (and_parts (is_ascii_digit d) (list_all is_ascii_digit digits) all).1

-- one digit more, with which the value stays below 10 ^ 10
pub record IsNextRead (digits : List ℕ) (i number : ℕ) : Type 0 where
  pub digit : 48 ≤ get_or digits i 0
  pub read : IsReadSoFar digits (i + 1) (number * 10 + (get_or digits i 0 - 48))
  pub small : number * 10 + (get_or digits i 0 - 48) < 10 ^ 10

pub next_digit : (digits : List ℕ) (i number : ℕ) → length digits ≤ 10 → i < length digits → IsReadSoFar digits i number → is_ascii_digit (get_or digits i 0) ≡ true
    → IsNextRead digits i number
next_digit digits i number few within so_far here =
    let front : List ℕ = take (i + 1) digits in
    let all : list_all is_ascii_digit front ≡ true = all_digits-more digits i within so_far.0 here in
    let long : length front ≡ i + 1 = length-take-le (i + 1) digits (omega (arith, within)) in
    let same : get_or front i 0 ≡ get_or digits i 0 = get_or-take (i + 1) digits i 0 (omega arith) in
    let digit = digit_at front i (numerals.to front all) (omega (arith, long)) in
    let before : take i front ≡ take i digits = take-take i (i + 1) digits (omega arith) in
    let e : number * 10 + (get_or front i 0 - 48) ≡ digits_value 10 (take (i + 1) front) =
    omega (arith, so_far.1, ap (digits_value 10) before, digit_value_digit (get_or front i 0) digit, digits_value_more 10 front i (omega (arith, long))) in
    let whole : take (i + 1) front ≡ front = take-take (i + 1) (i + 1) digits (omega arith) in
    let value : number * 10 + (get_or digits i 0 - 48) ≡ digits_value 10 front = omega (arith, e, same, ap (digits_value 10) whole) in
    record { digit = omega (arith, same, digit); read = (all, value); small = omega (arith, value, digits_value_short numerals front 10 all (omega (arith, long, few, within))) }

pub value-small : (most : ℕ) (word : List ℕ) → IsDecimal most word → digits_value 10 word < 10 ^ most
value-small most word d = digits_value_short numerals word most d.digits d.few

-- what digits write is below 10 to their number
pub digits-small : (most : ℕ) (word : List ℕ) (r : Option ℕ) → length word ≤ most → r ≡ digits_of word → IfSome r (λ n. n < 10 ^ most)
digits-small most word r few e = subst (λ o. IfSome o (λ n. n < 10 ^ most)) (sym e) (go (list_all is_ascii_digit word) refl) where
  go : (b : Bool) → list_all is_ascii_digit word ≡ b → IfSome (cond b (Some (digits_value 10 word)) None) (λ n. n < 10 ^ most)
  go true all = digits_value_short numerals word most all few
  go false all = tt

some_or : {A : Type 0} (b : Bool) (x y : A) → cond b (Some x) None ≡ Some y → (b ≡ true) × (x ≡ y)
some_or true x y e = (refl, cc)
some_or false x y e = absurd cc

-- the first digit is no 0, but for the number 0
record IsLed (n : ℕ) (word : List ℕ) : Type 0 where
  some : 0 < length word
  one : n < 10 → length word ≡ 1
  first : 0 < n → 48 < get_or word 0 0

decimal-led : (n : ℕ) → n < 2 ^ 64 → IsLed n (decimal n)
decimal-led =
    decimal_by_steps IsLed
    (λ m l. record { some = omega arith; one = λ _. refl; first = λ p. omega (arith, p) })
    (λ m ds l h. record {
      some = omega (arith, length-append ds ((48 + m % 10) ∷ []));
      one = λ low. absurd (omega (arith, l, low));
      first = λ p. let k = get_or_append_left ds ((48 + m % 10) ∷ []) 0 0 h.some in let f = h.first (omega (arith, l)) in omega (arith, k, f);
    })

decimal-lead : (n : ℕ) → n < 2 ^ 64 → get_or (decimal n) 0 0 ≡ 48 → length (decimal n) ≡ 1
decimal-lead n fits z = elim (cases_lt n 10) [
  | inl low ↦ (decimal-led n fits).one low
  | inr high ↦ let f = (decimal-led n fits).first (omega (arith, high)) in absurd (omega (arith, f, z))
]

-- the digits of a number are read as the number
pub decimal-again : (most n : ℕ) → 0 < most → most ≤ 10 → n < 10 ^ most → n < 2 ^ 64 → decimal_of most (decimal n) ≡ Some n
decimal-again most n some few small fits =
    let e : is_decimal most (decimal n) ≡ true = is_decimal-from most (decimal n) (record {
      some = decimal_nonempty n fits;
      few = length-decimal-le most n some small fits;
      digits = digits_decimal numerals n fits;
      lead = decimal-lead n fits;
    }) in
    rw e (ap (λ v. Some v) (digits_value-decimal numerals n fits))

-- and no other word is
pub decimal-only : (most n : ℕ) (word : List ℕ) → most ≤ 10 → decimal_of most word ≡ Some n → (n < 10 ^ most) × (word ≡ decimal n)
decimal-only most n word few e =
    let p = some_or (is_decimal most word) (digits_value 10 word) n e in
    let d = is_decimal-parts most word p.0 in
    let small : digits_value 10 word < 10 ^ most = value-small most word d in
    let short : digits_value 10 word < 10 ^ 10 = digits_value_short numerals word 10 d.digits (let f = d.few in omega (arith, f, few)) in
    (rw (← p.1) small, sym (decimal-digits_value numerals word d.digits d.some d.lead (omega (arith, short))) ∙ ap decimal p.1)
