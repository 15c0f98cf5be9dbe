-- Names and arcs in quotes stand for themselves.
use Rattle.std.proofs.Common.{◌≡◌, ◌≢◌, ◌==◌, ◌<◌, ◌≤◌, ◌++◌, ◌∷◌, ◌∙◌, [], ℕ, List, Bool, true, false, true≢false, nat_lt, codes, Option, Some, refl, sym, ap, ap₂, append_assoc, arith}
use Rattle.std.specs.Prelude.{◌%◌, ⊤, IsTrue, unwrap_or, encode_utf8_all}
use Rattle.taxi_base.specs.declared.numbers.Arc.{Arc}
use Rattle.taxi_base.specs.declared.numbers.Segment.{Segment}
use Rattle.taxi_base.specs.Airport.{Airport, segment_of, segment_name}
use Rattle.airport_file.specs.Words.{segment_word, word_of_arc}
use Rattle.std.specs.List.{list_all}
use Rattle.std.proofs.lemmas.Bool.{and_parts}
use Rattle.std.proofs.lemmas.Bool.Decides.{nat_tests}
use Rattle.std.proofs.lemmas.Str.{encode_ascii}
use Rattle.json.specs.Print.{escape_byte, escape}
use Rattle.taxi_base.specs.Words.{is_name_byte, is_name}
use Rattle.taxi_base.proofs.NameDigits.{name-bytes}
use Rattle.taxi_text.specs.Fields.{arc_word, sign_of}
use Rattle.serde_json.specs.Written.{compact_text}
use Rattle.reply_json.specs.Values.{text_value}

-- a byte that needs no escape, and has one byte in UTF-8
pub record IsPlain (b : ℕ) : Type 0 where
  pub printed : 32 ≤ b
  pub ascii : b < 128
  pub no_quote : b ≢ 34
  pub no_backslash : b ≢ 92

abbrev pub ArePlain : List ℕ → Type 0
ArePlain [] = ⊤
ArePlain (b ∷ bs) = IsPlain b × ArePlain bs

name-plain : (b : ℕ) → is_name_byte b ≡ true → IsPlain b
name-plain b e = record {
  printed = grind (arith, nat_tests);
  ascii = grind (arith, nat_tests);
  no_quote = λ same. true≢false (sym e ∙ ap is_name_byte same);
  no_backslash = λ same. true≢false (sym e ∙ ap is_name_byte same);
}

pub names-plain : (bs : List ℕ) → list_all is_name_byte bs ≡ true → ArePlain bs
names-plain [] e = tt
names-plain (b ∷ bs) e = let parts = and_parts (is_name_byte b) (list_all is_name_byte bs) e in (name-plain b parts.0, names-plain bs parts.1)

pub plain-append : (bs more : List ℕ) → ArePlain bs → ArePlain more → ArePlain (bs ++ more)
plain-append [] more one two = two
plain-append (b ∷ bs) more one two = (one.0, plain-append bs more one.1 two)

pub other : (b n : ℕ) → (b ≡ n → ⊥) → (b == n) ≡ false
other b n apart = grind (arith, nat_tests)

escape-one : (b : ℕ) → IsPlain b → escape_byte b ≡ b ∷ []
unfolding escape_byte
escape-one b plain =
    let printed = plain.printed in
    let quote : (b == 34) ≡ false = other b 34 plain.no_quote in
    let backslash : (b == 92) ≡ false = other b 92 plain.no_backslash in
    let eight : (b == 8) ≡ false = other b 8 (λ e. omega (arith, printed, e)) in
    let twelve : (b == 12) ≡ false = other b 12 (λ e. omega (arith, printed, e)) in
    let ten : (b == 10) ≡ false = other b 10 (λ e. omega (arith, printed, e)) in
    let thirteen : (b == 13) ≡ false = other b 13 (λ e. omega (arith, printed, e)) in
    let nine : (b == 9) ≡ false = other b 9 (λ e. omega (arith, printed, e)) in
    let above : nat_lt b 32 ≡ false = grind (arith, nat_tests) in
    rw (quote, backslash, eight, twelve, ten, thirteen, nine, above) refl

escape-plain : (bs : List ℕ) → ArePlain bs → escape bs ≡ bs
escape-plain [] plain = refl
escape-plain (b ∷ bs) plain = ap (λ (t : List ℕ). t ++ escape bs) (escape-one b plain.0) ∙ ap (λ (t : List ℕ). b ∷ t) (escape-plain bs plain.1)

pub encode-plain : (bs : List ℕ) → ArePlain bs → encode_utf8_all bs ≡ bs
encode-plain [] plain = refl
encode-plain (b ∷ bs) plain = ap (λ (t : List ℕ). t ++ encode_utf8_all bs) (encode_ascii b plain.0.ascii) ∙ ap (λ (t : List ℕ). b ∷ t) (encode-plain bs plain.1)

text-plain : (bs : List ℕ) → ArePlain bs → 34 ∷ (bs ++ 34 ∷ []) ≡ compact_text (text_value bs)
text-plain bs plain = ap (λ (t : List ℕ). 34 ∷ (t ++ 34 ∷ [])) (sym (ap escape (encode-plain bs plain) ∙ escape-plain bs plain))

pub name-quoted : (name : List ℕ) → IsTrue (is_name name) → 34 ∷ (name ++ 34 ∷ []) ≡ compact_text (text_value name)
name-quoted name is = text-plain name (names-plain name (name-bytes name is))

pub sign-plain : (forward : Bool) → IsPlain (sign_of forward)
sign-plain true = record {
  printed = omega arith;
  ascii = omega arith;
  no_quote = λ (e : 43 ≡ 34). omega (arith, e);
  no_backslash = λ (e : 43 ≡ 92). omega (arith, e);
}
sign-plain false = name-plain 45 refl

with-sign : (name : List ℕ) (sign : ℕ) → IsTrue (is_name name) → IsPlain sign → 34 ∷ (name ++ sign ∷ 34 ∷ []) ≡ compact_text (text_value (name ++ sign ∷ []))
with-sign name sign is plain =
    ap (λ (t : List ℕ). 34 ∷ t) (sym (append_assoc name (sign ∷ []) (34 ∷ [])))
    ∙ text-plain (name ++ sign ∷ []) (plain-append name (sign ∷ []) (names-plain name (name-bytes name is)) (plain, tt))

pub arc-quoted : (name : List ℕ) (forward : Bool) → IsTrue (is_name name) → 34 ∷ (name ++ sign_of forward ∷ 34 ∷ []) ≡ compact_text (text_value (arc_word name forward))
arc-quoted name forward is = with-sign name (sign_of forward) is (sign-plain forward)

-- a name between two quotes that are written one after the other
pub in_quotes : (start a b c bytes name : List ℕ) → start ≡ [] → a ≡ start ++ codes "\"" → b ≡ a ++ bytes → c ≡ b ++ codes "\"" → bytes ≡ name → c ≡ 34 ∷ (name ++ 34 ∷ [])
in_quotes start a b c bytes name p q r s t = rw (s, r, q, p, t) refl

-- the same with a sign
pub in_arc_quotes : (start a b c bytes sign name : List ℕ) (forward : Bool) → start ≡ [] → a ≡ start ++ codes "\"" → b ≡ a ++ bytes → c ≡ b ++ sign → bytes ≡ name
    → sign ≡ sign_of forward ∷ 34 ∷ [] → c ≡ 34 ∷ (name ++ sign_of forward ∷ 34 ∷ [])
in_arc_quotes start a b c bytes sign name forward p q r s t u = rw (s, r, q, p, t, u) refl

named-is : (found : Option (List ℕ)) (name : List ℕ) → found ≡ Some name → name ≡ unwrap_or found []
named-is found name is = ap (λ (o : Option (List ℕ)). unwrap_or o []) (sym is)

-- the word of an arc, of the name of its segment and its direction
pub word-is : (airport : Airport) (arc : Arc) (name : List ℕ) (forward : Bool) (segment : Segment) → segment ≡ segment_of arc → segment_name airport segment ≡ Some name
    → forward ≡ (arc.0 % 2 == 0) → compact_text (text_value (arc_word name forward)) ≡ compact_text (text_value (word_of_arc airport arc))
word-is airport arc name forward segment own named is =
    ap₂ (λ (n : List ℕ) (f : Bool). compact_text (text_value (arc_word n f))) (named-is (segment_name airport segment) name named ∙ ap (segment_word airport) own) is

pub named-text : (found : Option (List ℕ)) (name : List ℕ) → found ≡ Some name → compact_text (text_value name) ≡ compact_text (text_value (unwrap_or found []))
named-text found name is = ap (λ (n : List ℕ). compact_text (text_value n)) (named-is found name is)
