-- The words of a block, each read as what it was written for.
use Rattle.std.proofs.Common.{◌≡◌, ◌<◌, ◌≤◌, ◌^◌, ◌==◌, ◌∷◌, [], ℕ, Bool, true, false, cond, IsTrue, List, Option, Some, None, codes, decimal, refl, subst, arith, rules, inl, inr}
use Rattle.std.specs.Prelude.{bytes_eq, nat_lt, ⊤}
use Rattle.std.specs.List.{list_all}
use Rattle.std.specs.Char.{is_ascii_digit}
use Rattle.std.proofs.lemmas.Bool.{cases_Bool}
use Rattle.std.proofs.lemmas.Bool.Decides.{nat_tests}
use Rattle.std.proofs.lemmas.Fmt.{digits_decimal}
use Rattle.std.proofs.lemmas.Slice.Eq.{bytes_eq-Decides}
use Rattle.taxi_base.specs.declared.rows.FlightKind.{FlightKind}
use Rattle.taxi_base.specs.declared.rows.FlightKind.TheVariants as kind
use Rattle.taxi_base.specs.Words.{is_name, is_name_byte}
use Rattle.taxi_text.specs.Commands.{is_batch_count}
use Rattle.taxi_text.specs.Fields.{name_of}
use Rattle.replies.specs.Texts.{kind_word}
use Rattle.replies.specs.Printable.{IsShort, IsCount, IsName}
use Rattle.block_reader.specs.Fields.{number_of, count_of, some_count_of, batch_count_of, total_of, step_number_of, kind_of}
use Rattle.block_reader.proofs.Pieces.{IsPlain}
use Rattle.block_reader.proofs.Decimals.{numerals, decimal-again, decimal-only}
use Rattle.block_reader.proofs.Spellings.{some-both, IsWord}

-- ---- bytes that do not end a word

all-plain : (test : ℕ → Bool) → ((b : ℕ) → test b ≡ true → 32 < b) → (word : List ℕ) → list_all test word ≡ true → IsPlain word
all-plain test each [] h = tt
all-plain test each (b ∷ word) h = elim (cases_Bool (test b)) [
  | inl passes ↦ let k = rw passes at h in (each b passes, all-plain test each word k)
  | inr fails ↦ let k = rw fails at h in absurd cc
]

digit-plain : (b : ℕ) → is_ascii_digit b ≡ true → 32 < b
digit-plain b h = grind (arith, nat_tests, h)

name_byte-plain : (b : ℕ) → is_name_byte b ≡ true → 32 < b
name_byte-plain b h = grind (arith, nat_tests, h)

decimal-plain : (n : ℕ) → n < 2 ^ 64 → IsPlain (decimal n)
decimal-plain n fits = all-plain is_ascii_digit digit-plain (decimal n) (digits_decimal numerals n fits)

-- ---- numbers

pub number-word : IsWord IsShort decimal number_of
number-word = record {
  again = λ n small. decimal-again 7 n (omega arith) (omega arith) small (omega (arith, small));
  only = λ w n e. decimal-only 7 n w (omega arith) e;
  plain = λ n small. decimal-plain n (omega (arith, small));
}

pub count-word : IsWord IsCount decimal count_of
count-word = record {
  again = λ n small. decimal-again 10 n (omega arith) (omega arith) small (omega (arith, small));
  only = λ w n e. decimal-only 10 n w (omega arith) e;
  plain = λ n small. decimal-plain n (omega (arith, small));
}

pub kept : {A : Type 0} (b : Bool) (x y : A) → cond b (Some x) None ≡ Some y → (b ≡ true) × (x ≡ y)
kept true x y e = (refl, cc)
kept false x y e = absurd cc

left : {A : Type 0} (b : Bool) (x y : A) → cond b None (Some x) ≡ Some y → (b ≡ false) × (x ≡ y)
left true x y e = absurd cc
left false x y e = (refl, cc)

pub some_count-word : IsWord (λ n. (0 < n) × IsCount n) decimal some_count_of
some_count-word = record {
  again = λ n good. rw (count-word.again n good.1) (let some : (n == 0) ≡ false = (let k = good.0 in grind (arith, nat_tests, k)) in rw some refl);
  only = λ w n e.
      let a = some-both (count_of w) _ n e in
      let b = left (a.0 == 0) a.0 n a.2 in
      let c = count-word.only w a.0 a.1 in
      let some : 0 < a.0 = (let k = b.0 in grind (arith, nat_tests, k)) in
      subst (λ (m : ℕ). ((0 < m) × IsCount m) × (w ≡ decimal m)) b.1 ((some, c.0), c.1);
  plain = λ n good. count-word.plain n good.1;
}

pub batch_count-word : IsWord (λ n. IsTrue (is_batch_count n)) decimal batch_count_of
batch_count-word = record {
  again = λ n good. rw (count-word.again n (few n good)) (let e : is_batch_count n ≡ true = good in rw e refl);
  only = λ w n e.
      let a = some-both (count_of w) _ n e in
      let b = kept (is_batch_count a.0) a.0 n a.2 in
      let c = count-word.only w a.0 a.1 in
      subst (λ (m : ℕ). IsTrue (is_batch_count m) × (w ≡ decimal m)) b.1 (b.0, c.1);
  plain = λ n good. count-word.plain n (few n good);
} where
  few : (n : ℕ) → IsTrue (is_batch_count n) → n < 10 ^ 10
  few n good = grind (arith, nat_tests, good)

pub total-word : IsWord (λ n. n < 2 ^ 32) decimal total_of
total-word = record {
  again = λ n small. rw (count-word.again n (omega (arith, small))) (let fits : nat_lt n (2 ^ 32) ≡ true = grind (arith, nat_tests, small) in rw fits refl);
  only = λ w n e.
      let a = some-both (count_of w) _ n e in
      let b = kept (nat_lt a.0 (2 ^ 32)) a.0 n a.2 in
      let c = count-word.only w a.0 a.1 in
      let small : a.0 < 2 ^ 32 = (let k = b.0 in grind (arith, nat_tests, k)) in
      subst (λ (m : ℕ). (m < 2 ^ 32) × (w ≡ decimal m)) b.1 (small, c.1);
  plain = λ n small. count-word.plain n (omega (arith, small));
}

pub step_number-word : IsWord (λ n. (1 ≤ n) × (n ≤ 256)) decimal step_number_of
step_number-word = record {
  again = λ n good. rw (number-word.again n (omega (arith, good.1))) (grind (arith, nat_tests, good.0, good.1));
  only = λ w n e.
      let a = some-both (number_of w) _ n e in
      let b = kept _ a.0 n a.2 in
      let c = number-word.only w a.0 a.1 in
      let low : 1 ≤ a.0 = (let k = b.0 in grind (arith, nat_tests, k)) in
      let high : a.0 ≤ 256 = (let k = b.0 in grind (arith, nat_tests, k)) in
      subst (λ (m : ℕ). ((1 ≤ m) × (m ≤ 256)) × (w ≡ decimal m)) b.1 ((low, high), c.1);
  plain = λ n good. number-word.plain n (omega (arith, good.1));
}

-- ---- names

name-parts : (name : List ℕ) → IsName name → list_all is_name_byte name ≡ true
name-parts name h = search rules

pub name-plain : (name : List ℕ) → IsName name → IsPlain name
name-plain name h = all-plain is_name_byte name_byte-plain name (name-parts name h)

pub name-word : IsWord IsName (λ name. name) name_of
name-word = record {
  again = λ name good. let e : is_name name ≡ true = search rules in rw e refl;
  only = λ w name e. let a = kept (is_name w) w name e in (subst (λ (n : List ℕ). IsTrue (is_name n)) a.1 (search rules), a.1);
  plain = λ name good. name-plain name good;
}

-- ---- words that are one of a few

-- a word that is this one gives this, else what the others give
pub tried : {X : Type 0} (P : X → Type 0) (w text : List ℕ) (x : X) (others : Option X) → (w ≡ text → P x) → ((y : X) → others ≡ Some y → P y)
    → (y : X) → cond (bytes_eq w text) (Some x) others ≡ Some y → P y
tried {X = X} P w text x others here other y e = elim (cases_Bool (bytes_eq w text)) [
  | inl is ↦ let k : Some x ≡ Some y = rw is at e in subst P (same x y k) (here ((bytes_eq-Decides w text).0 is))
  | inr not ↦ other y (rw not at e)
] where
  same : (a b : X) → Some a ≡ Some b → a ≡ b
  same a b k = cc

pub kind-word : IsWord (λ (kind : FlightKind). ⊤) kind_word kind_of
unfolding kind_of
kind-word = record {
  again = λ kind good. again kind;
  only = λ w kind e. only w kind e;
  plain = λ kind good. all-plain is_name_byte name_byte-plain (kind_word kind) (named kind);
} where
  again : (kind : FlightKind) → kind_of (kind_word kind) ≡ Some kind
  again kind.Filed = refl
  again kind.Arrival = refl
  again kind.Departure = refl

  named : (kind : FlightKind) → list_all is_name_byte (kind_word kind) ≡ true
  named kind.Filed = refl
  named kind.Arrival = refl
  named kind.Departure = refl

  only : (w : List ℕ) (kind : FlightKind) → kind_of w ≡ Some kind → ⊤ × (w ≡ kind_word kind)
  only w =
      tried (λ kind. ⊤ × (w ≡ kind_word kind)) w (codes "filed") kind.Filed _ (λ e. (tt, e))
      (tried (λ kind. ⊤ × (w ≡ kind_word kind)) w (codes "arrival") kind.Arrival _ (λ e. (tt, e))
      (tried (λ kind. ⊤ × (w ≡ kind_word kind)) w (codes "departure") kind.Departure _ (λ e. (tt, e))
      (λ y e. absurd cc)))
