-- Which bytes a text lacks: names and numbers have no blank, and no line of an answer ends early.
use Rattle.std.proofs.Common.{◌≡◌, ◌/◌, ◌%◌, ◌==◌, ◌∙◌, ◌∷◌, ◌++◌, ◌⊎◌, [], ℕ, zero, suc, List, Bool, true, false, not, if◌then◌else◌, refl, sym, ap, arith, inl, inr, decimal}
use Rattle.std.specs.List.{list_all, slice_split, onto_first, join_with_byte}
use Rattle.std.specs.Char.{is_ascii_digit}
use Rattle.std.specs.Fmt.{digits, digits_onto, digit_glyph}
use Rattle.std.proofs.lemmas.Bool.{cases_Bool, and_parts, and_from, not-true, eqb-true, eq-eqb, true≢false}
use Rattle.std.proofs.lemmas.Bool.Decides.{nat_tests}
use Rattle.std.proofs.lemmas.List.Folds.{list_all-append}
use Rattle.std.proofs.lemmas.List.Splits.{slice_split-cons_yes, slice_split-cons_no}

abbrev pub lacks : ℕ → List ℕ → Bool
lacks byte text = list_all (λ b. not (b == byte)) text

-- a text of bytes that pass a test lacks each byte that fails it
pub lacks-failing : (test : ℕ → Bool) (byte : ℕ) (text : List ℕ) → test byte ≡ false → list_all test text ≡ true → lacks byte text ≡ true
lacks-failing test byte [] fails all = refl
lacks-failing test byte (b ∷ text) fails all =
    let parts = and_parts (test b) (list_all test text) all in
    and_from (not (b == byte)) (lacks byte text) (other (cases_Bool (b == byte)) parts.0) (lacks-failing test byte text fails parts.1)
  where
    other : ((b == byte) ≡ true) ⊎ ((b == byte) ≡ false) → test b ≡ true → not (b == byte) ≡ true
    other (inl same) passes = absurd (true≢false (sym passes ∙ ap test (eqb-true b byte same) ∙ fails))
    other (inr differ) passes = rw differ refl

pub lacks-append : (byte : ℕ) (xs ys : List ℕ) → lacks byte xs ≡ true → lacks byte ys ≡ true → lacks byte (xs ++ ys) ≡ true
lacks-append byte xs ys h k = list_all-append (λ b. not (b == byte)) xs ys ∙ and_from (lacks byte xs) (lacks byte ys) h k

-- ---- digits

glyph-digit : (n : ℕ) → is_ascii_digit (digit_glyph false (n % 10)) ≡ true
glyph-digit n = grind (arith, nat_tests)

-- one digit more in front, and the rest where there is one
one-more : (stops : Bool) (d : ℕ) (acc rest : List ℕ) → is_ascii_digit d ≡ true → list_all is_ascii_digit acc ≡ true → list_all is_ascii_digit rest ≡ true → list_all is_ascii_digit (if stops then d ∷ acc else rest) ≡ true
one-more true d acc rest digit all more = and_from (is_ascii_digit d) (list_all is_ascii_digit acc) digit all
one-more false d acc rest digit all more = more

onto-digits : (k n : ℕ) (acc : List ℕ) → list_all is_ascii_digit acc ≡ true → list_all is_ascii_digit (digits_onto k 10 false n acc) ≡ true
onto-digits zero n acc all = all
onto-digits (suc k) n acc all =
    let digit = glyph-digit n in
    one-more (n / 10 == 0) (digit_glyph false (n % 10)) acc (digits_onto k 10 false (n / 10) (digit_glyph false (n % 10) ∷ acc)) digit all
    (onto-digits k (n / 10) (digit_glyph false (n % 10) ∷ acc) (and_from (is_ascii_digit (digit_glyph false (n % 10))) (list_all is_ascii_digit acc) digit all))

pub decimal-digits : (n : ℕ) → list_all is_ascii_digit (decimal n) ≡ true
unfolding digits
decimal-digits n = onto-digits 64 n [] refl

-- ---- parts

-- the first part ends at the first such byte
pub split-at : (byte : ℕ) (part rest : List ℕ) → lacks byte part ≡ true → slice_split (λ b. b == byte) (part ++ (byte ∷ rest)) ≡ part ∷ slice_split (λ b. b == byte) rest
split-at byte [] rest h = slice_split-cons_yes (λ b. b == byte) byte rest (eq-eqb byte byte refl)
split-at byte (b ∷ part) rest h =
    let parts = and_parts (not (b == byte)) (lacks byte part) h in
    slice_split-cons_no (λ b. b == byte) b (part ++ (byte ∷ rest)) (not-true (b == byte) parts.0)
    ∙ ap (onto_first b) (split-at byte part rest parts.1)

-- a text without the byte is one part
pub split-none : (byte : ℕ) (part : List ℕ) → lacks byte part ≡ true → slice_split (λ b. b == byte) part ≡ part ∷ []
split-none byte [] h = refl
split-none byte (b ∷ part) h =
    let parts = and_parts (not (b == byte)) (lacks byte part) h in
    slice_split-cons_no (λ b. b == byte) b part (not-true (b == byte) parts.0) ∙ ap (onto_first b) (split-none byte part parts.1)

-- words that are joined are the parts again
pub split-join : (byte : ℕ) (word : List ℕ) (words : List (List ℕ)) → list_all (lacks byte) (word ∷ words) ≡ true → slice_split (λ b. b == byte) (join_with_byte byte (word ∷ words)) ≡ word ∷ words
split-join byte word [] h = split-none byte word (and_parts (lacks byte word) true h).0
split-join byte word (next ∷ words) h =
    let parts = and_parts (lacks byte word) (list_all (lacks byte) (next ∷ words)) h in
    split-at byte word (join_with_byte byte (next ∷ words)) parts.0 ∙ ap (λ ws. word ∷ ws) (split-join byte next words parts.1)

-- what each word lacks, but for the byte that joins them, the joined text lacks
pub lacks-join : (byte joint : ℕ) (words : List (List ℕ)) → (joint == byte) ≡ false → list_all (lacks byte) words ≡ true → lacks byte (join_with_byte joint words) ≡ true
lacks-join byte joint [] other h = refl
lacks-join byte joint (word ∷ []) other h = (and_parts (lacks byte word) true h).0
lacks-join byte joint (word ∷ next ∷ words) other h =
    let parts = and_parts (lacks byte word) (list_all (lacks byte) (next ∷ words)) h in
    let rest = lacks-join byte joint (next ∷ words) other parts.1 in
    lacks-append byte word (joint ∷ join_with_byte joint (next ∷ words)) parts.0 (rw other rest)
