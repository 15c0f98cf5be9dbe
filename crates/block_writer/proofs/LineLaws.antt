-- A line of words, as it grows word by word.
use Rattle.std.proofs.Common.{◌≡◌, ℕ, zero, suc, ◌+◌, ◌<◌, ◌≤◌, ◌^◌, List, [], ◌∷◌, ◌++◌, length, length-append, drop, decimal, append_assoc, refl, ◌∙◌, ap, arith}
use Rattle.std.proofs.lemmas.List.{length-drop}
use Rattle.std.proofs.lemmas.Fmt.{length-decimal-le}
use Rattle.replies.specs.Texts.{line_text, and_words}

and_words-append : (front text : List ℕ) (words : List (List ℕ)) → and_words (front ++ text) words ≡ front ++ and_words text words
and_words-append front text [] = refl
and_words-append front text (word ∷ words) =
    ap (λ t. and_words t words) (append_assoc front text (32 ∷ word)) ∙ and_words-append front (text ++ 32 ∷ word) words

-- ended by a line feed, it is the line
pub line_text-and_words : (first : List ℕ) (words : List (List ℕ)) → and_words first words ++ 10 ∷ [] ≡ line_text (first ∷ words)
line_text-and_words first [] = refl
line_text-and_words first (word ∷ words) =
    ap (λ t. t ++ 10 ∷ []) (and_words-append first (32 ∷ word) words)
    ∙ append_assoc first (and_words (32 ∷ word) words) (10 ∷ [])
    ∙ ap (λ t. first ++ t) (ap (λ t. t ++ 10 ∷ []) (and_words-append (32 ∷ []) word words) ∙ ap (λ t. 32 ∷ t) (line_text-and_words word words))

-- ---- a line that is written from its end

pub has-room : (more start : ℕ) (bytes old : List ℕ) → start ≤ 1536 → length bytes ≡ 1536 → drop start bytes ≡ old → length old + more ≤ 1536
    → (more ≤ start) × (start ≤ length bytes)
has-room more start bytes old low long is room = (omega (arith, ap length is, room, long, low, length-drop start bytes), omega (arith, low, long))

-- a number and a byte take up 21 bytes at most
pub number-starts : (n start end : ℕ) → n < 2 ^ 64 → start + length (decimal n) + 1 ≡ end → (start ≤ end) × (end ≤ start + 21)
number-starts n start end fits is =
    let long = length-decimal-le 20 n (omega arith) (omega (arith, fits)) fits in
    (omega (arith, is), omega (arith, is, long))

pub length-with_number : (n byte : ℕ) (old new : List ℕ) → n < 2 ^ 64 → new ≡ decimal n ++ byte ∷ old → length new ≤ length old + 21
length-with_number n byte old new fits is =
    omega (arith, ap length is, length-append (decimal n) (byte ∷ old), length-decimal-le 20 n (omega arith) (omega (arith, fits)) fits)

pub drop-whole : (xs : List ℕ) (n : ℕ) → length xs ≡ n → drop n xs ≡ []
drop-whole [] zero long = refl
drop-whole [] (suc n) long = refl
drop-whole (x ∷ xs) zero long = absurd (omega (arith, long))
drop-whole (x ∷ xs) (suc n) long = drop-whole xs n (omega (arith, long))
