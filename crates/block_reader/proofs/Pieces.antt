-- A text, or a word, that stands at the front of the bytes.
use Rattle.std.proofs.Common.{◌≡◌, ◌==◌, ◌&&◌, ◌+◌, ◌-◌, ◌*◌, ◌<◌, ◌≤◌, ◌∙◌, ℕ, zero, suc, Bool, true, false, cond, List, [], ◌∷◌, ◌++◌, length, get_or, take, drop, Option, Some, None, refl, sym, ap, arith, inl, inr}
use Rattle.std.specs.Prelude.{option_map, bytes_eq}
use Rattle.std.specs.Bool.{one_answer}
use Rattle.std.specs.Int.{Width, to_le_bytes, from_le_bytes}
use Rattle.std.specs.List.{position, position_or_len, AllByRecursion}
use Rattle.std.proofs.lemmas.List.Sums.{fails_before_first}
use borrow.Author.Tests.{ltb-false}
use Rattle.std.proofs.lemmas.Bool.{eq-eqb, eqb-true, cases_Bool, and_parts}
use Rattle.std.proofs.lemmas.Bool.Decides.{nat_tests}
use Rattle.std.proofs.lemmas.Slice.Eq.{bytes_eq-Decides}
use Rattle.std.proofs.lemmas.List.{take_all, take-append-drop, take-take, length-drop}
use Rattle.std.proofs.lemmas.List.Quantifiers.{position-Some}
use Rattle.block_reader.specs.Reading.{behind, begins_with, word_at}

eqb-same : (n : ℕ) → (n == n) ≡ true
eqb-same n = grind arith

-- ---- a text

pub behind-again : (text rest : List ℕ) → behind text (text ++ rest) ≡ Some rest
behind-again [] rest = refl
behind-again (b ∷ text) rest = rw (eqb-same b) (behind-again text rest)

guard_some : {A : Type 0} (b : Bool) (o : Option A) (x : A) → cond b o None ≡ Some x → (b ≡ true) × (o ≡ Some x)
guard_some true o x e = (refl, e)
guard_some false o x e = absurd cc

pub behind-takes : (text bytes rest : List ℕ) → behind text bytes ≡ Some rest → bytes ≡ text ++ rest
behind-takes [] bytes rest e = cc
behind-takes (b ∷ text) [] rest e = absurd cc
behind-takes (b ∷ text) (c ∷ bytes) rest e =
    let g = guard_some (c == b) (behind text bytes) rest e in
    let same : c ≡ b = eqb-true c b g.0 in
    rw (same, behind-takes text bytes rest g.1) refl

-- ---- a word

pub word-found : (last : ℕ) (bytes : List ℕ) (at : ℕ) → at < length bytes → (get_or bytes at 0 == last) ≡ true → ((k : ℕ) → k < at → (get_or bytes k 0 == last) ≡ false)
    → word_at last bytes ≡ Some (take at bytes, drop (at + 1) bytes)
word-found last [] at lt here before = absurd (omega (arith, lt))
word-found last (b ∷ bytes) zero lt here before = rw here refl
word-found last (b ∷ bytes) (suc at) lt here before =
    let shift : suc at + 1 ≡ suc (at + 1) = omega arith in
    rw (before 0 (omega arith), word-found last bytes at (omega (arith, lt)) here (λ k l. before (suc k) (omega (arith, l))), shift) refl

pub word-nowhere : (last : ℕ) (bytes : List ℕ) → ((k : ℕ) → k < length bytes → (get_or bytes k 0 == last) ≡ false) → word_at last bytes ≡ None
word-nowhere last [] none = refl
word-nowhere last (b ∷ bytes) none = rw (none 0 (omega arith), word-nowhere last bytes (λ k l. none (suc k) (omega (arith, l)))) refl

not_chosen : (b : Bool) (n : ℕ) → None ≡ cond b (Some n) None → b ≡ false
not_chosen true n e = cc
not_chosen false n e = refl

pub word-absent : (last : ℕ) (bytes : List ℕ) → None ≡ position (λ b. b == last) bytes → word_at last bytes ≡ None
word-absent last bytes e =
    let long : length bytes ≤ position_or_len (λ b. b == last) bytes = omega (arith, ltb-false _ _ (not_chosen _ _ e)) in
    word-nowhere last bytes (λ k l. fails_before_first (λ b. b == last) bytes k 0 (omega (arith, long, l)))

pub word-placed : (last : ℕ) (bytes : List ℕ) (at : ℕ) → Some at ≡ position (λ b. b == last) bytes → word_at last bytes ≡ Some (take at bytes, take (length bytes - (at + 1)) (drop (at + 1) bytes))
word-placed last bytes at e =
    let p = position-Some (λ b. b == last) bytes at 0 (sym e) in
    let all : take (length bytes - (at + 1)) (drop (at + 1) bytes) ≡ drop (at + 1) bytes = take_all (length bytes - (at + 1)) (drop (at + 1) bytes) (let l = length-drop (at + 1) bytes in omega (arith, l)) in
    word-found last bytes at p.0 p.1 p.2 ∙ ap (λ (t : List ℕ). Some (take at bytes, t)) (sym all)

first : Option (List ℕ × List ℕ) → List ℕ
first None = []
first (Some p) = p.0

second : Option (List ℕ × List ℕ) → List ℕ
second None = []
second (Some p) = p.1

-- what a word that was found says of the bytes
pub word-takes : (last : ℕ) (bytes word rest : List ℕ) → word_at last bytes ≡ Some (word, rest) → bytes ≡ word ++ last ∷ rest
unfolding first second
word-takes last [] word rest e = absurd cc
word-takes last (b ∷ bytes) word rest e = elim (cases_Bool (b == last)) [
  | inl is ↦
      let k = rw is at e in
      let w : [] ≡ word = ap first k in
      let r : bytes ≡ rest = ap second k in
      rw (eqb-true b last is, ← w, ← r) refl
  | inr not ↦ let k = rw not at e in more (word_at last bytes) refl (λ w r is. word-takes last bytes w r is) k
] where
  more : (o : Option (List ℕ × List ℕ)) → word_at last bytes ≡ o → ((w r : List ℕ) → word_at last bytes ≡ Some (w, r) → bytes ≡ w ++ last ∷ r)
      → option_map {U = List ℕ × List ℕ} (λ p. (b ∷ p.0, p.1)) o ≡ Some (word, rest) → b ∷ bytes ≡ word ++ last ∷ rest
  more None o takes e = absurd cc
  more (Some p) o takes e =
      let w : b ∷ p.0 ≡ word = ap (λ (q : Option (List ℕ × List ℕ)). first q) e in
      let r : p.1 ≡ rest = ap (λ (q : Option (List ℕ × List ℕ)). second q) e in
      rw (← w, ← r) (ap (λ (t : List ℕ). b ∷ t) (takes p.0 p.1 o))

-- no byte of a word ends it
abbrev pub IsPlain : List ℕ → Type 0
IsPlain word = AllByRecursion (λ b. 32 < b) word

pub word-again : (last : ℕ) (word rest : List ℕ) → last ≤ 32 → IsPlain word → word_at last (word ++ last ∷ rest) ≡ Some (word, rest)
word-again last [] rest low plain = rw (eqb-same last) refl
word-again last (b ∷ word) rest low plain =
    let differ : (b == last) ≡ false = (let h = plain.0 in grind (arith, low)) in
    rw (differ, word-again last word rest low plain.1) refl

-- ---- a text, compared as a whole

-- whether a text stands at the front is told by comparing it with as many bytes
pub begins-compared : (text bytes : List ℕ) → length text ≤ length bytes → begins_with text bytes ≡ bytes_eq text (take (length text) bytes)
begins-compared [] bytes fits = refl
begins-compared (b ∷ text) [] fits = absurd (omega (arith, fits))
begins-compared (b ∷ text) (c ∷ bytes) fits = rw (eqb-turned c b, begins-compared text bytes (omega (arith, fits))) refl where
  eqb-turned : (m n : ℕ) → (m == n) ≡ (n == m)
  eqb-turned m n = grind (arith, nat_tests)

pub begins-short : (text bytes : List ℕ) → length bytes < length text → begins_with text bytes ≡ false
begins-short [] bytes short = absurd (omega (arith, short))
begins-short (b ∷ text) [] short = refl
begins-short (b ∷ text) (c ∷ bytes) short = rw (begins-short text bytes (omega (arith, short))) (and_false (c == b)) where
  and_false : (x : Bool) → (x && false) ≡ false
  and_false true = refl
  and_false false = refl

-- bytes are told apart by the numbers that they are read as
pub compared-as_numbers : (w : Width) (a b : List ℕ) (m n : ℕ) → m ≡ from_le_bytes w a → n ≡ from_le_bytes w b → to_le_bytes w m ≡ a → to_le_bytes w n ≡ b → (m == n) ≡ bytes_eq a b
compared-as_numbers w a b m n is_m is_n is_a is_b =
    one_answer {P = a ≡ b} (m == n) (bytes_eq a b) (
      (λ e. sym is_a ∙ ap (to_le_bytes w) (eqb-true m n e) ∙ is_b),
      (λ e. eq-eqb m n (is_m ∙ ap (from_le_bytes w) e ∙ sym is_n)),
    ) (bytes_eq-Decides a b)

-- two texts with the same ends, which overlap or touch, are the same
ends-same : (n m : ℕ) (a b : List ℕ) → m ≤ n → take n a ≡ take n b → drop m a ≡ drop m b → a ≡ b
ends-same n m a b low front back =
    sym (take-append-drop m a)
    ∙ ap (λ (t : List ℕ). t ++ drop m a) (sym (take-take m n a low) ∙ ap (take m) front ∙ take-take m n b low)
    ∙ ap (λ (t : List ℕ). take m b ++ t) back
    ∙ take-append-drop m b

-- where their first bytes are the same, texts are told apart by their last
pub compared-by_ends : (n : ℕ) (a b first front last back : List ℕ) → length a ≡ length b → length a ≤ 2 * n → first ≡ take n a → front ≡ take n b
    → last ≡ drop (length a - n) a → back ≡ drop (length b - n) b → bytes_eq first front ≡ true → bytes_eq last back ≡ bytes_eq a b
compared-by_ends n a b first front last back long few is_first is_front is_last is_back same =
    one_answer {P = a ≡ b} (bytes_eq last back) (bytes_eq a b) (
      (λ e. ends-same n (length a - n) a b (omega (arith, few))
          (sym is_first ∙ (bytes_eq-Decides first front).0 same ∙ is_front)
          (sym is_last ∙ (bytes_eq-Decides last back).0 e ∙ is_back ∙ ap (λ m. drop (m - n) b) (sym long))),
      (λ e. (bytes_eq-Decides last back).1 (is_last ∙ ap (λ (x : List ℕ). drop (length x - n) x) e ∙ sym is_back)),
    ) (bytes_eq-Decides a b)

pub behind-begins : (text bytes : List ℕ) → begins_with text bytes ≡ true → behind text bytes ≡ Some (drop (length text) bytes)
behind-begins [] bytes is = refl
behind-begins (b ∷ text) [] is = absurd cc
behind-begins (b ∷ text) (c ∷ bytes) is = let parts = and_parts (c == b) (begins_with text bytes) is in rw parts.0 (behind-begins text bytes parts.1)

pub begins-fits : (text bytes : List ℕ) → begins_with text bytes ≡ true → length text ≤ length bytes
begins-fits [] bytes is = omega arith
begins-fits (b ∷ text) [] is = absurd cc
begins-fits (b ∷ text) (c ∷ bytes) is = let rest = begins-fits text bytes (and_parts (c == b) (begins_with text bytes) is).1 in omega (arith, rest)

pub behind-begins_not : (text bytes : List ℕ) → begins_with text bytes ≡ false → behind text bytes ≡ None
behind-begins_not [] bytes other = absurd cc
behind-begins_not (b ∷ text) [] other = refl
behind-begins_not (b ∷ text) (c ∷ bytes) other = elim (cases_Bool (c == b)) [
  | inl same ↦ let rest = rw same at other in rw same (behind-begins_not text bytes rest)
  | inr first ↦ rw first refl
]
