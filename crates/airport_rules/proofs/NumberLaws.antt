-- A name is known by its number.
use Rattle.std.proofs.Common.{◌≡◌, ◌<◌, ◌+◌, ◌*◌, ◌/◌, ◌%◌, ◌++◌, ◌∷◌, ◌∙◌, [], ℕ, List, true, sym, ap, arith, append_assoc, append-nil, length, get_or}
use Rattle.std.proofs.lemmas.Bool.{and_parts}
use Rattle.std.specs.Prelude.{IsTrue}
use Rattle.std.specs.List.{list_all}
use Rattle.std.specs.Int.Digits.{digits_of, number_from_digits_after}
use Rattle.std.proofs.lemmas.Bool.Decides.{nat_tests}
use Rattle.std.proofs.lemmas.Int.Digits.{digits_of_step}
use Rattle.std.proofs.lemmas.List.Sums.{AllPass-from_list_all}
use Rattle.taxi_base.specs.Words.{is_name, is_name_byte}
use Rattle.taxi_base.proofs.NameDigits.{byte-range, name-bytes}
use Rattle.airport_rules.specs.Places.{number_of}

-- the digits of a number with more digits written behind it, none of them 0
digits-after : (n : ℕ) (bytes : List ℕ) → list_all is_name_byte bytes ≡ true → digits_of 256 (number_from_digits_after 256 n bytes) ≡ digits_of 256 n ++ bytes
digits-after n [] each = sym (append-nil (digits_of 256 n))
digits-after n (b ∷ bytes) each =
    let both = and_parts (is_name_byte b) (list_all is_name_byte bytes) each in
    let range = byte-range b both.0 in
    let front : (n * 256 + b) / 256 ≡ n = omega (arith, range) in
    let last : (n * 256 + b) % 256 ≡ b = omega (arith, range) in
    let step = digits_of_step 256 (n * 256 + b) (omega arith) (omega (arith, range)) in
    digits-after (n * 256 + b) bytes both.1 ∙ ap (λ ds. ds ++ bytes) (rw (front, last) at step) ∙ append_assoc (digits_of 256 n) (b ∷ []) bytes

-- names of the same number are the same
pub number_of-same : (p q : List ℕ) → IsTrue (is_name p) → IsTrue (is_name q) → number_of p ≡ number_of q → p ≡ q
unfolding number_of
number_of-same p q p_name q_name same =
    sym (digits-after 0 p (name-bytes p p_name)) ∙ ap (digits_of 256) same ∙ digits-after 0 q (name-bytes q q_name)

-- each place of a name has a byte, and there are at most 16
pub byte-at : (name : List ℕ) (i : ℕ) → IsTrue (is_name name) → i < length name → (get_or name i 0 < 256) × (i < 16)
byte-at name i valid low =
    let byte = byte-range (get_or name i 0) (AllPass-from_list_all is_name_byte name (name-bytes name valid) i 0 low) in
    (byte.1, grind (arith, nat_tests, low, valid))
