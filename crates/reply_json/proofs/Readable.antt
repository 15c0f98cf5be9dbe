-- Values whose text has no line feed, and is read back as the value.
use Rattle.std.proofs.Common.{◌≡◌, ◌∙◌, ◌==◌, ◌+◌, ◌<◌, ◌≤◌, ◌^◌, ◌||◌, ◌++◌, ◌∷◌, [], ℕ, zero, suc, List, Bool, true, false, true≢false, cond, nat_lt, decimal, All, Option, Some, IsFalse, Ordering, Less, Equal, Greater, nat_cmp, refl, sym, ap, append-nil, arith}
use Rattle.std.specs.Prelude.{◌/◌, ◌%◌, ⊤, option_map, option_and_then}
use Rattle.std.specs.Char.{digit_char}
use Rattle.std.specs.Cmp.Lexicographic.{slice_cmp}
use Rattle.std.specs.Ordering.{match_ordering, ordering_reverse}
use Rattle.std.specs.Str.Parse.{AllDigits}
use Rattle.std.proofs.lemmas.Cmp.{nat_list_cmp_total}
use Rattle.std.proofs.lemmas.Fmt.{decimal_is_IsNumeral}
use Rattle.std.proofs.lemmas.List.Elements.{All-nil, All-cons}
use Rattle.std.proofs.lemmas.Str.Parse.{digit_from_value}
use Rattle.json.specs.Json as json
use Rattle.json.specs.Print.{escape_letter, escape_byte, escape, quoted}
use Rattle.json.specs.Token.{Token}
use Rattle.json.specs.Tree as tree
use Rattle.json.proofs.Printed.Decimals.{IsNumber-decimal}
use Rattle.json.proofs.Printed.Tokens.{tokens-print}
use Rattle.json.proofs.Printed.Trees.{ArePrintable-json_tokens, value-json_tokens}
use Rattle.serde_json.specs.Data.{Num, unsigned, negative, float, Data, null, boolean, number, string, array, object, Items, no_items, item, Members, no_members, member, put}
use Rattle.serde_json.specs.Read.{of_json, of_items, of_members, read, max_depth}
use Rattle.serde_json.specs.Written.{outline, items_outline, members_outline, comma_if, compact_text, items_text, members_text}
use Rattle.serde_json.proofs.Numbers.{number_of-decimal}
use Rattle.serde_json.proofs.Texts.{print-outline}
use Rattle.reply_json.proofs.Quoted.{other}

-- ---- keys in rising order

-- a key stands before each of the members
abbrev StandsBefore : List ℕ → Members → Type 0
StandsBefore k no_members = ⊤
StandsBefore k (member l e ms) = (slice_cmp nat_cmp k l ≡ Less) × StandsBefore k ms

abbrev pub AreRising : Members → Type 0
AreRising no_members = ⊤
AreRising (member l e ms) = StandsBefore l ms × AreRising ms

before-put : (l k : List ℕ) (d : Data) (ms : Members) → slice_cmp nat_cmp l k ≡ Less → StandsBefore l ms → StandsBefore l (put k d ms)
before-put l k d no_members before rest = (before, tt)
before-put l k d (member m e ms) before rest = go (slice_cmp nat_cmp k m) (before-put l k d ms before rest.1) where
  go : (o : Ordering) → StandsBefore l (put k d ms) → StandsBefore l (match_ordering o (member k d (member m e ms)) (member m d ms) (member m e (put k d ms)))
  go Less later = (before, rest)
  go Equal later = rest
  go Greater later = (rest.0, later)

before-first : (k l : List ℕ) (ms : Members) → slice_cmp nat_cmp k l ≡ Less → StandsBefore l ms → StandsBefore k ms
before-first k l no_members before rest = tt
before-first k l (member m e ms) before rest = (nat_list_cmp_total.trans k l m before rest.0, before-first k l ms before rest.1)

turned : (k l : List ℕ) (o : Ordering) → slice_cmp nat_cmp k l ≡ o → slice_cmp nat_cmp l k ≡ ordering_reverse o
turned k l o e = nat_list_cmp_total.antisymm l k ∙ ap ordering_reverse e

pub rising-put : (k : List ℕ) (d : Data) (ms : Members) → AreRising ms → AreRising (put k d ms)
rising-put k d no_members rising = (tt, tt)
rising-put k d (member l e ms) rising = go (slice_cmp nat_cmp k l) refl (rising-put k d ms rising.1) where
  go : (o : Ordering) → slice_cmp nat_cmp k l ≡ o → AreRising (put k d ms) → AreRising (match_ordering o (member k d (member l e ms)) (member l d ms) (member l e (put k d ms)))
  go Less before later = ((before, before-first k l ms before rising.0), rising)
  go Equal same later = rising
  go Greater after later = (before-put l k d ms (turned k l Greater after) rising.0, later)

-- ---- values of whole numbers that fit 64 bits, which nest no deeper than so many levels

abbrev IsSmall : Num → Type 0
IsSmall (unsigned n) = n < 2 ^ 64
IsSmall (negative z) = ⊥
IsSmall (float x) = ⊥

abbrev mutual
  pub CanBeRead : Data → ℕ → Type 0
  CanBeRead null deep = ⊤
  CanBeRead (boolean b) deep = ⊤
  CanBeRead (number n) deep = IsSmall n
  CanBeRead (string s) deep = ⊤
  CanBeRead (array ds) zero = ⊥
  CanBeRead (array ds) (suc deep) = ItemsCanBeRead ds deep
  CanBeRead (object ms) zero = ⊥
  CanBeRead (object ms) (suc deep) = MembersCanBeRead ms deep × AreRising ms

  pub ItemsCanBeRead : Items → ℕ → Type 0
  ItemsCanBeRead no_items deep = ⊤
  ItemsCanBeRead (item d ds) deep = CanBeRead d deep × ItemsCanBeRead ds deep

  pub MembersCanBeRead : Members → ℕ → Type 0
  MembersCanBeRead no_members deep = ⊤
  MembersCanBeRead (member k d ms) deep = CanBeRead d deep × MembersCanBeRead ms deep

pub can-put : (k : List ℕ) (d : Data) (ms : Members) (deep : ℕ) → CanBeRead d deep → MembersCanBeRead ms deep → MembersCanBeRead (put k d ms) deep
can-put k d no_members deep can rest = (can, tt)
can-put k d (member l e ms) deep can rest = go (slice_cmp nat_cmp k l) (can-put k d ms deep can rest.1) where
  go : (o : Ordering) → MembersCanBeRead (put k d ms) deep → MembersCanBeRead (match_ordering o (member k d (member l e ms)) (member l d ms) (member l e (put k d ms))) deep
  go Less later = (can, rest)
  go Equal later = (can, rest.1)
  go Greater later = (rest.0, later)

-- ---- no line feed

abbrev HasNoFeed : List ℕ → Type 0
HasNoFeed [] = ⊤
HasNoFeed (b ∷ bytes) = IsFalse (b == 10) × HasNoFeed bytes

both : (xs ys : List ℕ) → HasNoFeed xs → HasNoFeed ys → HasNoFeed (xs ++ ys)
both [] ys one two = two
both (x ∷ xs) ys one two = (one.0, both xs ys one.1 two)

each-byte : (bytes : List ℕ) → HasNoFeed bytes → All (λ byte. IsFalse (byte == 10)) bytes
each-byte [] apart = All-nil (λ byte. IsFalse (byte == 10))
each-byte (b ∷ bytes) apart = All-cons (λ byte. IsFalse (byte == 10)) b bytes apart.0 (each-byte bytes apart.1)

letter-apart : (x : ℕ) → IsFalse (escape_letter x == 10)
letter-apart x = go ((x == 34) || (x == 92)) (x == 8) (x == 12) (x == 10) (x == 13) (x == 9) refl where
  go : (q a b c d e : Bool) → ((x == 34) || (x == 92)) ≡ q → IsFalse (cond q x (cond a 98 (cond b 102 (cond c 110 (cond d 114 (cond e 116 0))))) == 10)
  go true a b c d e is = other x 10 (λ same. true≢false (sym is ∙ ap (λ y. (y == 34) || (y == 92)) same))
  go false true b c d e is = refl
  go false false true c d e is = refl
  go false false false true d e is = refl
  go false false false false true e is = refl
  go false false false false false true is = refl
  go false false false false false false is = refl

digit-apart : (d : ℕ) → IsFalse (digit_char d == 10)
digit-apart d = go (nat_lt d 10) where
  go : (b : Bool) → IsFalse (cond b (48 + d) (87 + d) == 10)
  go true = other (48 + d) 10 (λ same. omega (arith, same))
  go false = other (87 + d) 10 (λ same. omega (arith, same))

byte-apart : (x : ℕ) → HasNoFeed (escape_byte x)
unfolding escape_byte
byte-apart x = go (nat_lt 0 (escape_letter x)) (nat_lt x 32) refl where
  go : (a b : Bool) → nat_lt x 32 ≡ b
      → HasNoFeed (cond a (92 ∷ escape_letter x ∷ []) (cond b (92 ∷ 117 ∷ 48 ∷ 48 ∷ digit_char (x / 16) ∷ digit_char (x % 16) ∷ []) (x ∷ [])))
  go true b is = (refl, (letter-apart x, tt))
  go false true is = (refl, (refl, (refl, (refl, (digit-apart (x / 16), (digit-apart (x % 16), tt))))))
  go false false is = (other x 10 (λ same. true≢false (ap (λ y. nat_lt y 32) (sym same) ∙ is)), tt)

escape-apart : (s : List ℕ) → HasNoFeed (escape s)
escape-apart [] = tt
escape-apart (b ∷ bytes) = both (escape_byte b) (escape bytes) (byte-apart b) (escape-apart bytes)

quoted-apart : (s : List ℕ) → HasNoFeed (quoted s)
quoted-apart s = (refl, both (escape s) (34 ∷ []) (escape-apart s) (refl, tt))

digits-apart : (ds : List ℕ) → AllDigits 10 ds → HasNoFeed ds
digits-apart [] are = tt
digits-apart (d ∷ ds) are = (other d 10 (λ same. omega (arith, same, digit_from_value d are.0)), digits-apart ds are.1)

comma-apart : (later : Bool) → HasNoFeed (comma_if later)
comma-apart true = (refl, tt)
comma-apart false = tt

mutual
  text-apart : (d : Data) (deep : ℕ) → CanBeRead d deep → HasNoFeed (compact_text d)
  text-apart null deep can = (refl, (refl, (refl, (refl, tt))))
  text-apart (boolean true) deep can = (refl, (refl, (refl, (refl, tt))))
  text-apart (boolean false) deep can = (refl, (refl, (refl, (refl, (refl, tt)))))
  text-apart (number (unsigned n)) deep can = digits-apart (decimal n) (decimal_is_IsNumeral n can).0.1
  text-apart (number (negative z)) deep can = absurd can
  text-apart (number (float x)) deep can = absurd can
  text-apart (string s) deep can = quoted-apart s
  text-apart (array ds) zero can = absurd can
  text-apart (array ds) (suc deep) can = (refl, items-apart false ds deep can)
  text-apart (object ms) zero can = absurd can
  text-apart (object ms) (suc deep) can = (refl, members-apart false ms deep can.0)

  items-apart : (later : Bool) (ds : Items) (deep : ℕ) → ItemsCanBeRead ds deep → HasNoFeed (items_text later ds)
  items-apart later no_items deep can = (refl, tt)
  items-apart later (item d ds) deep can =
      both (comma_if later) (compact_text d ++ items_text true ds) (comma-apart later)
      (both (compact_text d) (items_text true ds) (text-apart d deep can.0) (items-apart true ds deep can.1))

  members-apart : (later : Bool) (ms : Members) (deep : ℕ) → MembersCanBeRead ms deep → HasNoFeed (members_text later ms)
  members-apart later no_members deep can = (refl, tt)
  members-apart later (member k d ms) deep can =
      both (comma_if later) (quoted k ++ 58 ∷ (compact_text d ++ members_text true ms)) (comma-apart later)
      (both (quoted k) (58 ∷ (compact_text d ++ members_text true ms)) (quoted-apart k)
      (refl, both (compact_text d) (members_text true ms) (text-apart d deep can.0) (members-apart true ms deep can.1)))

pub text-one_line : (d : Data) (deep : ℕ) → CanBeRead d deep → All (λ byte. IsFalse (byte == 10)) (compact_text d)
text-one_line d deep can = each-byte (compact_text d) (text-apart d deep can)

-- ---- read back

-- some members, and then others
abbrev then_members : Members → Members → Members
then_members no_members more = more
then_members (member k d ms) more = member k d (then_members ms more)

then-none : (ms : Members) → then_members ms no_members ≡ ms
then-none no_members = refl
then-none (member k d ms) = ap (member k d) (then-none ms)

then-one : (found : Members) (k : List ℕ) (d : Data) (ms : Members) → then_members (then_members found (member k d no_members)) ms ≡ then_members found (member k d ms)
then-one no_members k d ms = refl
then-one (member l e found) k d ms = ap (member l e) (then-one found k d ms)

-- each key of some members stands before each of others
abbrev StandBefore : Members → Members → Type 0
StandBefore no_members ms = ⊤
StandBefore (member l e found) ms = StandsBefore l ms × StandBefore found ms

put-last : (found : Members) (k : List ℕ) (d : Data) (ms : Members) → StandBefore found (member k d ms) → put k d found ≡ then_members found (member k d no_members)
put-last no_members k d ms before = refl
put-last (member l e found) k d ms before = rw (turned l k Less before.0.0) (ap (member l e) (put-last found k d ms before.1))

before-next : (found : Members) (k : List ℕ) (d : Data) (ms : Members) → StandBefore found (member k d ms) → StandsBefore k ms → StandBefore (then_members found (member k d no_members)) ms
before-next no_members k d ms before rest = (rest, tt)
before-next (member l e found) k d ms before rest = (before.0.1, before-next found k d ms before.1 rest)

mutual
  pub outline-read : (d : Data) (deep : ℕ) → CanBeRead d deep → of_json (outline d) ≡ Some d
  outline-read null deep can = refl
  outline-read (boolean b) deep can = refl
  outline-read (number (unsigned n)) deep can = ap (option_map number) (number_of-decimal n can)
  outline-read (number (negative z)) deep can = absurd can
  outline-read (number (float x)) deep can = absurd can
  outline-read (string s) deep can = refl
  outline-read (array ds) zero can = absurd can
  outline-read (array ds) (suc deep) can = ap (option_map array) (items-read ds deep can)
  outline-read (object ms) zero can = absurd can
  outline-read (object ms) (suc deep) can = ap (option_map object) (members-read ms no_members deep can.0 can.1 tt)

  items-read : (ds : Items) (deep : ℕ) → ItemsCanBeRead ds deep → of_items (items_outline ds) ≡ Some ds
  items-read no_items deep can = refl
  items-read (item d ds) deep can = rw (outline-read d deep can.0, items-read ds deep can.1) refl

  members-read : (ms found : Members) (deep : ℕ) → MembersCanBeRead ms deep → AreRising ms → StandBefore found ms → of_members (members_outline ms) found ≡ Some (then_members found ms)
  members-read no_members found deep can rising before = ap Some (sym (then-none found))
  members-read (member k d ms) found deep can rising before =
      rw (outline-read d deep can.0)
      (ap (of_members (members_outline ms)) (put-last found k d ms before)
      ∙ members-read ms (then_members found (member k d no_members)) deep can.1 rising.1 (before-next found k d ms before rising.0)
      ∙ ap Some (then-one found k d ms))

mutual
  has-numbers : (d : Data) (deep : ℕ) → CanBeRead d deep → tree.HasNumbers (outline d)
  has-numbers null deep can = tt
  has-numbers (boolean b) deep can = tt
  has-numbers (number (unsigned n)) deep can = IsNumber-decimal n can
  has-numbers (number (negative z)) deep can = absurd can
  has-numbers (number (float x)) deep can = absurd can
  has-numbers (string s) deep can = tt
  has-numbers (array ds) zero can = absurd can
  has-numbers (array ds) (suc deep) can = items-have ds deep can
  has-numbers (object ms) zero can = absurd can
  has-numbers (object ms) (suc deep) can = members-have ms deep can.0

  items-have : (ds : Items) (deep : ℕ) → ItemsCanBeRead ds deep → tree.ItemsHaveNumbers (items_outline ds)
  items-have no_items deep can = tt
  items-have (item d ds) deep can = (has-numbers d deep can.0, items-have ds deep can.1)

  members-have : (ms : Members) (deep : ℕ) → MembersCanBeRead ms deep → tree.MembersHaveNumbers (members_outline ms)
  members-have no_members deep can = tt
  members-have (member k d ms) deep can = (has-numbers d deep can.0, members-have ms deep can.1)

mutual
  is-shallow : (d : Data) (deep : ℕ) → CanBeRead d deep → tree.depth (outline d) ≤ deep
  is-shallow null deep can = omega arith
  is-shallow (boolean b) deep can = omega arith
  is-shallow (number n) deep can = omega arith
  is-shallow (string s) deep can = omega arith
  is-shallow (array ds) zero can = absurd can
  is-shallow (array ds) (suc deep) can = omega (arith, items-shallow ds deep can)
  is-shallow (object ms) zero can = absurd can
  is-shallow (object ms) (suc deep) can = omega (arith, members-shallow ms deep can.0)

  items-shallow : (ds : Items) (deep : ℕ) → ItemsCanBeRead ds deep → tree.items_depth (items_outline ds) ≤ deep
  items-shallow no_items deep can = omega arith
  items-shallow (item d ds) deep can = omega (arith, is-shallow d deep can.0, items-shallow ds deep can.1)

  members-shallow : (ms : Members) (deep : ℕ) → MembersCanBeRead ms deep → tree.members_depth (members_outline ms) ≤ deep
  members-shallow no_members deep can = omega arith
  members-shallow (member k d ms) deep can = omega (arith, is-shallow d deep can.0, members-shallow ms deep can.1)

-- what is read, of the tokens
abbrev whole : Option (json.Json × List Token) → Option Data
whole read = option_and_then of_json (option_and_then (λ p. json.if_last p.0 p.1) read)

-- a value's text is read back as the value
pub text-read : (d : Data) (deep : ℕ) → deep ≤ max_depth → CanBeRead d deep → read (compact_text d) ≡ Some d
text-read d deep few can =
    ap read (sym (print-outline d))
    ∙ ap whole
    (ap (json.value max_depth) (tokens-print (tree.json_tokens (outline d)) (ArePrintable-json_tokens (outline d) (has-numbers d deep can)) ∙ sym (append-nil (tree.json_tokens (outline d))))
    ∙ value-json_tokens (outline d) max_depth [] (omega (arith, few, is-shallow d deep can)))
    ∙ outline-read d deep can
