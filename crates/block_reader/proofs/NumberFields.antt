-- A number and its last byte, read in one pass.
use Rattle.std.proofs.Common.{◌≡◌, ◌≢◌, ◌==◌, Bool, cond, ◌∙◌, ◌+◌, ◌*◌, ◌-◌, ◌<◌, ◌≤◌, ◌^◌, ◌||◌, ◌++◌, ◌∷◌, ◌⊎◌, not, ℕ, true, false, List, length, get_or, take, drop, Option, Some, None, inl, inr, refl, sym, ap, subst, arith}
use Rattle.std.specs.List.{list_all}
use Rattle.std.specs.Char.{is_ascii_digit}
use Rattle.std.specs.Str.Parse.{digits_value}
use Rattle.std.proofs.lemmas.Bool.{cases_lt, both_ways, eq-eqb, eqb-true, lt-ltb, le-leb, false_from_ne_true}
use Rattle.std.proofs.lemmas.Bool.Decides.{nat_tests}
use Rattle.std.proofs.lemmas.List.{length-take, get_or-take, take-take, get_or_at, get_or_append_left, get_or_past}
use Rattle.std.proofs.lemmas.Str.Parse.{digits_value_short}
use Rattle.block_reader.specs.Fields.{is_decimal, number_of}
use Rattle.block_reader.specs.Fronts.{IsSeparator, worth, worth_of_four, worth_of_five, worth_of_six, front_number}
use Rattle.block_reader.specs.Reading.{word_at, field_at}
use Rattle.block_reader.proofs.Pieces.{word-found, word-takes}
use Rattle.block_reader.proofs.Decimals.{numerals, is_decimal-parts, IsReadSoFar, not_all_digits, next_digit}

-- none of the first so many bytes is the last
abbrev pub IsBefore : ℕ → List ℕ → ℕ → Type 0
IsBefore last bytes place = (k : ℕ) → k < place → (get_or bytes k 0 == last) ≡ false

pub before-more : (last : ℕ) (bytes : List ℕ) (place : ℕ) → IsBefore last bytes place → (get_or bytes place 0 == last) ≡ false → IsBefore last bytes (place + 1)
before-more last bytes place before here k low = elim (cases_lt k place) [
  | inl earlier ↦ before k earlier
  | inr later ↦ (let e : place ≡ k = omega arith in subst (λ n. (get_or bytes n 0 == last) ≡ false) e here)
]

-- a byte that is not 0 stands before the end
pub byte-within : (bytes : List ℕ) (place : ℕ) → 0 < get_or bytes place 0 → place < length bytes
byte-within bytes place some = elim (cases_lt place (length bytes)) [
  | inl within ↦ within
  | inr past ↦ absurd (omega (arith, some, get_or_past bytes place 0 past))
]

digit-low : (byte : ℕ) → is_ascii_digit byte ≡ true → 48 ≤ byte
digit-low byte is = grind (arith, nat_tests, is)

module _ (last : ℕ) (bytes : List ℕ) where
  -- a word that is found is at least as long as what holds no last byte
  none-of : (place : ℕ) → IsBefore last bytes place → ((word rest : List ℕ) → bytes ≡ word ++ last ∷ rest → place ≤ length word → is_decimal 7 word ≡ false) → field_at number_of last bytes ≡ None
  none-of place before bad = go (word_at last bytes) refl where
    go : (o : Option (List ℕ × List ℕ)) → word_at last bytes ≡ o → field_at number_of last bytes ≡ None
    go None e = rw e refl
    go (Some (word, rest)) e =
        let is = word-takes last bytes word rest e in
        let at_end : get_or bytes (length word) 0 ≡ last = ap (λ l. get_or l (length word) 0) is ∙ get_or_at word last rest 0 (length word) refl in
        let longer : place ≤ length word = elim (cases_lt (length word) place) [
          | inl h ↦ absurd (both_ways _ (before (length word) h) (eq-eqb _ _ at_end))
          | inr h ↦ h
        ] in
        rw (e, bad word rest is longer) refl

  -- there are too many digits
  pub number-long : IsBefore last bytes 8 → field_at number_of last bytes ≡ None
  number-long before = none-of 8 before (λ word rest is longer. false_from_ne_true _ (λ yes. let parts = is_decimal-parts 7 word yes in absurd (omega (arith, parts.few, longer))))

  -- a byte comes that is neither a digit nor the last
  pub number-other : (place : ℕ) → IsBefore last bytes place → (get_or bytes place 0 == last) ≡ false → is_ascii_digit (get_or bytes place 0) ≡ false → field_at number_of last bytes ≡ None
  number-other place before here other = none-of (place + 1) (before-more last bytes place before here) (λ word rest is longer. false_from_ne_true _ (λ yes.
      let parts = is_decimal-parts 7 word yes in
      let within : place < length word = omega (arith, longer) in
      let same : get_or word place 0 ≡ get_or bytes place 0 = sym (ap (λ l. get_or l place 0) is ∙ get_or_append_left word (last ∷ rest) 0 place within) in
      absurd (both_ways _ (not_all_digits word place within (ap is_ascii_digit same ∙ other)) parts.digits)))

  -- no digit comes before the last byte
  pub number-missing : get_or bytes 0 0 ≡ last → 0 < last → field_at number_of last bytes ≡ None
  number-missing here some = rw (word-found last bytes 0 (byte-within bytes 0 (omega (arith, here, some))) (eq-eqb _ _ here) (λ k few. absurd (omega (arith, few)))) refl

module _ (last : ℕ) (bytes : List ℕ) (place number : ℕ) (few : place < 8) (separates : IsSeparator last) (before : IsBefore last bytes place) (read : IsReadSoFar bytes place number) where
  -- the last byte comes
  pub record IsEnd : Type 0 where
    pub within : place < length bytes
    pub found : field_at number_of last bytes ≡ Some (number, drop (place + 1) bytes)

  pub number-ends : get_or bytes place 0 ≡ last → 0 < place → (place ≡ 1) ⊎ (get_or bytes 0 0 ≢ 48) → IsEnd
  number-ends here some led =
      let within : place < length bytes = byte-within bytes place (omega (arith, here, separates.0)) in
      let long : length (take place bytes) ≡ place = omega (arith, within, length-take place bytes) in
      let first : get_or (take place bytes) 0 0 ≡ get_or bytes 0 0 = get_or-take place bytes 0 0 some in
      let is_led : (place == 1 || not (get_or bytes 0 0 == 48)) ≡ true = elim led [ inl one ↦ grind (arith, one) | inr other ↦ grind (arith, nat_tests, other) ] in
      let decimal : is_decimal 7 (take place bytes) ≡ true = rw (long, first, read.0, lt-ltb 0 place some, le-leb place 7 (omega (arith, few)), is_led) refl in
      record {
        within = within;
        found = rw (word-found last bytes place within (eq-eqb _ _ here) before, decimal) (ap (λ n. Some (n, drop (place + 1) bytes)) (sym read.1));
      }

  -- a digit comes
  pub record IsDigitMore : Type 0 where
    pub digit : 48 ≤ get_or bytes place 0
    pub small : number * 10 + (get_or bytes place 0 - 48) < 10 ^ 8
    pub goes_on : IsReadSoFar bytes (place + 1) (number * 10 + (get_or bytes place 0 - 48))
    pub ahead : IsBefore last bytes (place + 1)

  pub number-more : is_ascii_digit (get_or bytes place 0) ≡ true → IsDigitMore
  number-more here =
      let high : 48 ≤ get_or bytes place 0 = digit-low _ here in
      let within : place < length bytes = byte-within bytes place (omega (arith, high)) in
      let front : List ℕ = take (place + 1) bytes in
      let front_long : length front ≡ place + 1 = omega (arith, within, length-take (place + 1) bytes) in
      let same : get_or front place 0 ≡ get_or bytes place 0 = get_or-take (place + 1) bytes place 0 (omega arith) in
      let shorter : take place front ≡ take place bytes = take-take place (place + 1) bytes (omega arith) in
      let whole : take (place + 1) front ≡ front = take-take (place + 1) (place + 1) bytes (omega arith) in
      let so_far : IsReadSoFar front place number = (ap (list_all is_ascii_digit) shorter ∙ read.0, read.1 ∙ ap (digits_value 10) (sym shorter)) in
      let next = next_digit front place number (omega (arith, front_long, few)) (omega (arith, front_long)) so_far (ap is_ascii_digit same ∙ here) in
      let all : list_all is_ascii_digit front ≡ true = ap (list_all is_ascii_digit) (sym whole) ∙ next.read.0 in
      let value : number * 10 + (get_or bytes place 0 - 48) ≡ digits_value 10 front = ap (λ d. number * 10 + (d - 48)) (sym same) ∙ next.read.1 ∙ ap (digits_value 10) whole in
      record {
        digit = high;
        small = omega (arith, value, digits_value_short numerals front 8 all (omega (arith, front_long, few)));
        goes_on = (all, value);
        ahead = before-more last bytes place before (grind (arith, high, separates.1));
      }

-- ---- four digits, five or six, read at once

is_digit : (b : Bool) (value : ℕ) → cond b value 1000000 < 1000000 → (b ≡ true) × (cond b value 1000000 ≡ value)
is_digit true value small = (refl, refl)
is_digit false value small = absurd (omega (arith, small))

-- what is worth little is a digit
worth-digit : (byte : ℕ) → worth byte < 1000000 → (is_ascii_digit byte ≡ true) × (worth byte ≡ byte - 48)
unfolding worth
worth-digit byte small = is_digit (is_ascii_digit byte) (byte - 48) small

pub front-four : (last number : ℕ) (front : List ℕ) → get_or front 4 0 ≡ last → number ≡ worth_of_four front → ◌≡◌ {A = ℕ × ℕ} (number, 4) (front_number last front)
unfolding front_number
front-four last number front here is = rw (eq-eqb _ _ here, is) refl

pub front-five : (last number : ℕ) (front : List ℕ) → get_or front 4 0 ≢ last → get_or front 5 0 ≡ last → number ≡ worth_of_five front → ◌≡◌ {A = ℕ × ℕ} (number, 5) (front_number last front)
unfolding front_number
front-five last number front other here is = rw (false_from_ne_true _ (λ e. other (eqb-true _ _ e)), eq-eqb _ _ here, is) refl

pub front-six : (last number : ℕ) (front : List ℕ) → get_or front 4 0 ≢ last → get_or front 5 0 ≢ last → number ≡ worth_of_six front → ◌≡◌ {A = ℕ × ℕ} (number, 6) (front_number last front)
unfolding front_number
front-six last number front other next is =
    rw (false_from_ne_true _ (λ e. other (eqb-true _ _ e)), false_from_ne_true _ (λ e. next (eqb-true _ _ e)), is) refl

module _ (last : ℕ) (bytes : List ℕ) (separates : IsSeparator last) where
  -- the first so many bytes are digits, of this value
  record IsDigits (count number : ℕ) : Type 0 where
    before : IsBefore last bytes count
    read : IsReadSoFar bytes count number

  digit-more : (place number : ℕ) → place < 8 → IsDigits place number → worth (get_or bytes place 0) < 1000000 → IsDigits (place + 1) (number * 10 + worth (get_or bytes place 0))
  digit-more place number few so_far small =
      let digit = worth-digit (get_or bytes place 0) small in
      let more = number-more last bytes place number few separates so_far.before so_far.read digit.0 in
      record {
        before = more.ahead;
        read = subst (λ d. IsReadSoFar bytes (place + 1) (number * 10 + d)) (sym digit.1) more.goes_on;
      }

  four-digits : worth_of_four bytes < 1000000 → IsDigits 4 (worth_of_four bytes)
  four-digits small =
      let none : IsDigits 0 0 = record { before = λ k few. absurd (omega (arith, few)); read = (refl, refl) } in
      let one = digit-more 0 _ (omega arith) none (omega (arith, small)) in
      let two = digit-more 1 _ (omega arith) one (omega (arith, small)) in
      let three = digit-more 2 _ (omega arith) two (omega (arith, small)) in
      let four = digit-more 3 _ (omega arith) three (omega (arith, small)) in
      subst (λ n. IsDigits 4 n) (omega arith) four

  five-digits : worth_of_five bytes < 1000000 → IsDigits 5 (worth_of_five bytes)
  five-digits small = digit-more 4 _ (omega arith) (four-digits (omega (arith, small))) (omega (arith, small))

  six-digits : worth_of_six bytes < 1000000 → IsDigits 6 (worth_of_six bytes)
  six-digits small = digit-more 5 _ (omega arith) (five-digits (omega (arith, small))) (omega (arith, small))

  -- a number of so many digits before the last byte
  digits-end : (count number : ℕ) → count < 8 → 0 < count → IsDigits count number → get_or bytes 0 0 ≢ 48 → get_or bytes count 0 ≡ last → field_at number_of last bytes ≡ Some (number, drop (count + 1) bytes)
  digits-end count number few some digits led here = (number-ends last bytes count number few separates digits.before digits.read here some (inr led)).found

  pub front-number : (front : List ℕ) (number end : ℕ) → front ≡ take 7 bytes → ◌≡◌ {A = ℕ × ℕ} (number, end) (front_number last front) → get_or front 0 0 ≢ 48 → number < 1000000 → get_or front end 0 ≡ last
      → field_at number_of last bytes ≡ Some (number, drop (end + 1) bytes)
  unfolding front_number
  front-number front number end is found led small here = go (get_or front 4 0 == last) (get_or front 5 0 == last) refl refl found where
    same : (k : ℕ) → k < 7 → get_or front k 0 ≡ get_or bytes k 0
    same k low = ap (λ l. get_or l k 0) is ∙ get_or-take 7 bytes k 0 low

    four : worth_of_four front ≡ worth_of_four bytes
    four = omega (arith, ap worth (same 0 (omega arith)), ap worth (same 1 (omega arith)), ap worth (same 2 (omega arith)), ap worth (same 3 (omega arith)))

    five : worth_of_five front ≡ worth_of_five bytes
    five = omega (arith, four, ap worth (same 4 (omega arith)))

    six : worth_of_six front ≡ worth_of_six bytes
    six = omega (arith, five, ap worth (same 5 (omega arith)))

    is_led : get_or bytes 0 0 ≢ 48
    is_led = λ e. led (same 0 (omega arith) ∙ e)

    goal : Type 0
    goal = field_at number_of last bytes ≡ Some (number, drop (end + 1) bytes)

    -- so many digits, and the last byte behind them
    ended : (count value : ℕ) → count < 7 → 0 < count → IsDigits count value → number ≡ value → end ≡ count → goal
    ended count value few some digits is_value long =
        rw (is_value, long) (digits-end count value (omega (arith, few)) some digits is_led (sym (same count few) ∙ rw long at here))

    go : (a b : Bool) → (get_or front 4 0 == last) ≡ a → (get_or front 5 0 == last) ≡ b
        → ◌≡◌ {A = ℕ × ℕ} (number, end) (cond a (worth_of_four front, 4) (cond b (worth_of_five front, 5) (worth_of_six front, 6))) → goal
    go true b at next e =
        let value : number ≡ worth_of_four bytes = ap (λ (p : ℕ × ℕ). p.0) e ∙ four in
        ended 4 _ (omega arith) (omega arith) (four-digits (omega (arith, value, small))) value (ap (λ (p : ℕ × ℕ). p.1) e)
    go false true at next e =
        let value : number ≡ worth_of_five bytes = ap (λ (p : ℕ × ℕ). p.0) e ∙ five in
        ended 5 _ (omega arith) (omega arith) (five-digits (omega (arith, value, small))) value (ap (λ (p : ℕ × ℕ). p.1) e)
    go false false at next e =
        let value : number ≡ worth_of_six bytes = ap (λ (p : ℕ × ℕ). p.0) e ∙ six in
        ended 6 _ (omega arith) (omega arith) (six-digits (omega (arith, value, small))) value (ap (λ (p : ℕ × ℕ). p.1) e)

  pub five-number : (front : List ℕ) (number : ℕ) → front ≡ take 6 bytes → number ≡ worth_of_five front → get_or front 0 0 ≢ 48 → number < 1000000 → get_or front 5 0 ≡ last
      → field_at number_of last bytes ≡ Some (number, drop 6 bytes)
  five-number front number is worths led small here =
      rw value (digits-end 5 _ (omega arith) (omega arith) (five-digits (omega (arith, value, small))) (λ e. led (same 0 (omega arith) ∙ e)) (sym (same 5 (omega arith)) ∙ here)) where
        same : (k : ℕ) → k < 6 → get_or front k 0 ≡ get_or bytes k 0
        same k low = ap (λ l. get_or l k 0) is ∙ get_or-take 6 bytes k 0 low

        value : number ≡ worth_of_five bytes
        value =
            worths
            ∙ omega (arith, ap worth (same 0 (omega arith)), ap worth (same 1 (omega arith)), ap worth (same 2 (omega arith)), ap worth (same 3 (omega arith)), ap worth (same 4 (omega arith)))
