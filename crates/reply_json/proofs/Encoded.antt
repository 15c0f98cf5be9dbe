-- Words and bytes that become strings, one after the other.
use Rattle.std.proofs.Common.{◌≡◌, ◌+◌, ◌<◌, ◌++◌, ◌∷◌, ◌∙◌, [], ℕ, List, map, take, length, get_or, refl, sym, ap, append_assoc, append-nil}
use Rattle.std.specs.Prelude.{encode_utf8, encode_utf8_all}
use Rattle.std.proofs.lemmas.List.{map-append}
use Rattle.std.proofs.lemmas.Grind.{take_at_read}

encode-append : (bytes more : List ℕ) → encode_utf8_all (bytes ++ more) ≡ encode_utf8_all bytes ++ encode_utf8_all more
encode-append [] more = refl
encode-append (b ∷ bytes) more = ap (λ (t : List ℕ). encode_utf8 b ++ t) (encode-append bytes more) ∙ sym (append_assoc (encode_utf8 b) (encode_utf8_all bytes) (encode_utf8_all more))

-- one byte more
pub encode-more : (bytes : List ℕ) (i d : ℕ) (before after : List ℕ) (byte : ℕ) → i < length bytes → byte ≡ get_or bytes i d → before ≡ encode_utf8_all (take i bytes) → after ≡ before ++ encode_utf8 byte
    → after ≡ encode_utf8_all (take (i + 1) bytes)
encode-more bytes i d before after byte low is so_far next =
    next ∙ ap (λ (t : List ℕ). t ++ encode_utf8 byte) so_far ∙ ap (λ (b : ℕ). encode_utf8_all (take i bytes) ++ encode_utf8 b) is
    ∙ ap (λ (t : List ℕ). encode_utf8_all (take i bytes) ++ t) (sym (append-nil (encode_utf8 (get_or bytes i d))))
    ∙ sym (encode-append (take i bytes) (get_or bytes i d ∷ [])) ∙ ap encode_utf8_all (sym ((take_at_read bytes i d low).1))

-- one word more, of those that are left
pub word-more : {V D : Type 0} (view : V → D) (value_of : List ℕ → D) (values : List V) (value : V) (read left rest all : List (List ℕ)) (word : List ℕ)
    → read ++ left ≡ all → left ≡ word ∷ rest → map view values ≡ map value_of read → view value ≡ value_of word
    → ((read ++ word ∷ []) ++ rest ≡ all) × (map view (values ++ value ∷ []) ≡ map value_of (read ++ word ∷ []))
word-more view value_of values value read left rest all word split next so_far one = (
  append_assoc read (word ∷ []) rest ∙ ap (λ (l : List (List ℕ)). read ++ l) (sym next) ∙ split,
  map-append view values (value ∷ []) ∙ ap (λ l. map view values ++ l ∷ []) one ∙ ap (λ l. l ++ value_of word ∷ []) so_far ∙ sym (map-append value_of read (word ∷ [])),
)
