-- An arc word and its reading are one another's inverse.
use Rattle.std.proofs.Common.{◌≡◌, ◌+◌, ◌-◌, ◌<◌, ◌++◌, ◌∷◌, ◌∙◌, [], ℕ, List, Bool, true, false, IsTrue, refl, sym, ap, inl, inr, subst, take, length, get_or, length-append, length-take, Option, Some, None, arith, rules}
use Rattle.std.proofs.Math.Seq.{take-append_seam}
use Rattle.std.proofs.lemmas.List.{take_more, take_all}
use Rattle.std.proofs.lemmas.Bool.{cases_Bool}
use Rattle.std.proofs.lemmas.Grind.{common_steps}
use Rattle.taxi_base.specs.Words.{is_name}
use Rattle.taxi_text.specs.Fields.{name_of, direction_of, sign_of, arc_word, arc_of, arc_word_of}

direction-again : (forward : Bool) → direction_of (sign_of forward) ≡ Some forward
direction-again true = refl
direction-again false = refl

name-again : (name : List ℕ) → IsTrue (is_name name) → name_of name ≡ Some name
name-again name h = let e : is_name name ≡ true = search rules in rw e refl

last-again : (name : List ℕ) (sign : ℕ) → get_or (name ++ sign ∷ []) (length name) 0 ≡ sign
last-again [] sign = refl
last-again (b ∷ name) sign = last-again name sign

-- a word that is spelled so is read so
pub arc_word-again : (segment : List ℕ) (forward : Bool) → IsTrue (is_name segment) → arc_word_of (arc_word segment forward) ≡ Some (segment, forward)
arc_word-again segment forward h =
    let word = segment ++ sign_of forward ∷ [] in
    let front : length (segment ++ sign_of forward ∷ []) - 1 ≡ length segment = let l = length-append segment (sign_of forward ∷ []) in omega (arith, l) in
    ap (λ n. arc_of (name_of (take n (segment ++ sign_of forward ∷ []))) (direction_of (get_or (segment ++ sign_of forward ∷ []) n 0))) front
    ∙ ap (λ w. arc_of (name_of w) (direction_of (get_or (segment ++ sign_of forward ∷ []) (length segment) 0))) (take-append_seam segment (sign_of forward ∷ []))
    ∙ ap (λ b. arc_of (name_of segment) (direction_of b)) (last-again segment (sign_of forward))
    ∙ ap (λ n. arc_of n (direction_of (sign_of forward))) (name-again segment h) ∙ ap (arc_of (Some segment)) (direction-again forward)

-- what an option holds, or an empty word
abbrev held : Option (List ℕ × Bool) → List ℕ × Bool
held (Some p) = p
held None = ([], true)

arc_of-parts : (a : Option (List ℕ)) (b : Option Bool) (segment : List ℕ) (forward : Bool) → arc_of a b ≡ Some (segment, forward) → (a ≡ Some segment) × (b ≡ Some forward)
arc_of-parts (Some s) (Some f) segment forward e = (ap (λ o. Some (held o).0) e, ap (λ o. Some (held o).1) e)
arc_of-parts (Some s) None segment forward e = cc
arc_of-parts None b segment forward e = cc

name_of-some : (word name : List ℕ) → name_of word ≡ Some name → (word ≡ name) × IsTrue (is_name word)
name_of-some word name e = elim (cases_Bool (is_name word)) [
  | inl holds ↦ let k = rw holds at e in (cc, search rules)
  | inr fails ↦ let k = rw fails at e in cc
]

direction_of-some : (sign : ℕ) (forward : Bool) → direction_of sign ≡ Some forward → sign ≡ sign_of forward
direction_of-some sign true e = grind (arith, common_steps)
direction_of-some sign false e = grind (arith, common_steps)

is_name-some : (word : List ℕ) → IsTrue (is_name word) → 0 < length word
is_name-some word h = search rules

front_and_last : (word : List ℕ) → 0 < length word → word ≡ take (length word - 1) word ++ get_or word (length word - 1) 0 ∷ []
front_and_last word h = sym (take_all (length word - 1 + 1) word (omega arith)) ∙ take_more word (length word - 1) 0 (omega arith)

-- a word that is read so is spelled so
pub arc_word-only : (word segment : List ℕ) (forward : Bool) → arc_word_of word ≡ Some (segment, forward) → (word ≡ arc_word segment forward) × IsTrue (is_name segment)
arc_word-only word segment forward e =
    let parts = arc_of-parts (name_of (take (length word - 1) word)) (direction_of (get_or word (length word - 1) 0)) segment forward e in
    let name = name_of-some (take (length word - 1) word) segment parts.0 in
    let sign = direction_of-some (get_or word (length word - 1) 0) forward parts.1 in
    let some : 0 < length word = let l = length-take (length word - 1) word in let m = is_name-some (take (length word - 1) word) name.1 in omega (arith, l, m) in
    let Names : List ℕ → Type 0 = λ w. IsTrue (is_name w) in
    (front_and_last word some ∙ ap (λ (w : List ℕ). w ++ get_or word (length word - 1) 0 ∷ []) name.0 ∙ ap (λ (b : ℕ). segment ++ b ∷ []) sign, subst Names name.0 name.1)
