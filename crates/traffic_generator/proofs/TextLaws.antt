-- A text with lines after it, and more lines.
use Rattle.std.proofs.Common.{◌≡◌, ℕ, ◌+◌, ◌<◌, ◌≤◌, Bool, true, false, List, [], ◌∷◌, ◌++◌, map, take, length, get_or, refl, sym, ap, ◌∙◌, append_assoc, append-nil, add-one}
use Rattle.std.specs.Prelude.{flat_map, filter}
use Rattle.std.specs.Borrow.{Bor}
use Rattle.std.proofs.lemmas.List.{map_more, take_all}
use Rattle.std.proofs.lemmas.List.Elements.{filter-append}
use Rattle.std.specs.List.{join_with_byte}
use Rattle.std.proofs.lemmas.Grind.{flat_map-append}
use Rattle.airport_text.specs.Canonical.{Fields, numbers_below}
use Rattle.traffic_generator.specs.Texts.{text_of, and_lines}

-- ---- one line

-- a piece more, behind the separator
pub join-more : (separator : ℕ) (first : List ℕ) (pieces : Fields) (piece : List ℕ)
    → join_with_byte separator (first ∷ (pieces ++ piece ∷ [])) ≡ join_with_byte separator (first ∷ pieces) ++ separator ∷ piece
join-more separator first [] piece = refl
join-more separator first (p ∷ pieces) piece =
    ap (λ (rest : List ℕ). first ++ (separator ∷ rest)) (join-more separator p pieces piece)
    ∙ sym (append_assoc first (separator ∷ join_with_byte separator (p ∷ pieces)) (separator ∷ piece))

-- the same in a loop over the pieces
pub line-more : (separator : ℕ) (before first : List ℕ) (rest : List (Bor (List ℕ))) (i : ℕ) (d : Bor (List ℕ)) (text middle after : List ℕ) → i < length rest
    → text ≡ before ++ join_with_byte separator (first ∷ map (λ p. p.now) (take i rest)) → middle ≡ text ++ separator ∷ [] → after ≡ middle ++ (get_or rest i d).now
    → after ≡ before ++ join_with_byte separator (first ∷ map (λ p. p.now) (take (i + 1) rest))
line-more separator before first rest i d text middle after low so_far one two =
    let line : List ℕ = join_with_byte separator (first ∷ map (λ p. p.now) (take i rest)) in
    let piece : List ℕ = (get_or rest i d).now in
    two ∙ ap (λ t. t ++ piece) (one ∙ ap (λ t. t ++ separator ∷ []) so_far)
    ∙ append_assoc (before ++ line) (separator ∷ []) piece
    ∙ append_assoc before line (separator ∷ piece)
    ∙ ap (λ l. before ++ l) (sym (join-more separator first (map (λ p. p.now) (take i rest)) piece))
    ∙ ap (λ ps. before ++ join_with_byte separator (first ∷ ps)) (sym (map_more (λ (p : Bor (List ℕ)). p.now) rest i d low))

-- and at its end
pub line-ended : (separator : ℕ) (before first : List ℕ) (rest : List (Bor (List ℕ))) (i : ℕ) (text : List ℕ) → length rest ≤ i
    → text ≡ before ++ join_with_byte separator (first ∷ map (λ p. p.now) (take i rest))
    → text ++ 10 ∷ [] ≡ and_lines separator before ((first ∷ map (λ p. p.now) rest) ∷ [])
unfolding and_lines
line-ended separator before first rest i text past so_far =
    ap (λ t. t ++ 10 ∷ []) (so_far ∙ ap (λ (r : List (Bor (List ℕ))). before ++ join_with_byte separator (first ∷ map (λ p. p.now) r)) (take_all i rest past))
    ∙ append_assoc before (join_with_byte separator (first ∷ map (λ p. p.now) rest)) (10 ∷ [])

-- ---- no line, and lines after lines

pub text_of-append : (separator : ℕ) (xs ys : List Fields) → text_of separator (xs ++ ys) ≡ text_of separator xs ++ text_of separator ys
text_of-append separator [] ys = refl
text_of-append separator (l ∷ xs) ys =
    let line : List ℕ = join_with_byte separator l in
    ap (λ (rest : List ℕ). line ++ (10 ∷ rest)) (text_of-append separator xs ys) ∙ sym (append_assoc line (10 ∷ text_of separator xs) (text_of separator ys))

pub and_lines-none : (separator : ℕ) (text : List ℕ) → and_lines separator text [] ≡ text
unfolding and_lines
and_lines-none separator text = append-nil text

pub and_lines-both : (separator : ℕ) (text : List ℕ) (xs ys : List Fields) → and_lines separator (and_lines separator text xs) ys ≡ and_lines separator text (xs ++ ys)
unfolding and_lines
and_lines-both separator text xs ys =
    append_assoc text (text_of separator xs) (text_of separator ys) ∙ ap (λ t. text ++ t) (sym (text_of-append separator xs ys))

pub lines-then : (separator : ℕ) (before text after : List ℕ) (xs ys : List Fields) → text ≡ and_lines separator before xs → after ≡ and_lines separator text ys
    → after ≡ and_lines separator before (xs ++ ys)
lines-then separator before text after xs ys so_far next = next ∙ ap (λ t. and_lines separator t ys) so_far ∙ and_lines-both separator before xs ys

-- ---- one step of a loop over numbers

-- the lines of the next number
pub number-more : (separator : ℕ) (f : ℕ → List Fields) (n : ℕ) (before text after : List ℕ) → text ≡ and_lines separator before (flat_map f (numbers_below n))
    → after ≡ and_lines separator text (f n) → after ≡ and_lines separator before (flat_map f (numbers_below (n + 1)))
number-more separator f n before text after so_far next =
    let more : flat_map f (numbers_below (n + 1)) ≡ flat_map f (numbers_below n) ++ f n =
    rw add-one (flat_map-append f (numbers_below n) (n ∷ []) ∙ ap (λ r. flat_map f (numbers_below n) ++ r) (append-nil (f n))) in
    lines-then separator before text after (flat_map f (numbers_below n)) (f n) so_far next ∙ ap (λ r. and_lines separator before r) (sym more)

pub map-append : {A B : Type 0} (f : A → B) (xs ys : List A) → map f (xs ++ ys) ≡ map f xs ++ map f ys
map-append f [] ys = refl
map-append f (x ∷ xs) ys = ap (λ rest. f x ∷ rest) (map-append f xs ys)

-- its one line
pub number-line : (separator : ℕ) (f : ℕ → Fields) (n : ℕ) (before text after : List ℕ) → text ≡ and_lines separator before (map f (numbers_below n))
    → after ≡ and_lines separator text (f n ∷ []) → after ≡ and_lines separator before (map f (numbers_below (n + 1)))
number-line separator f n before text after so_far next =
    let more : map f (numbers_below (n + 1)) ≡ map f (numbers_below n) ++ f n ∷ [] = rw add-one (map-append f (numbers_below n) (n ∷ [])) in
    lines-then separator before text after (map f (numbers_below n)) (f n ∷ []) so_far next ∙ ap (λ r. and_lines separator before r) (sym more)

pub map-map : {A B C : Type 0} (g : B → C) (f : A → B) (xs : List A) → map g (map f xs) ≡ map (λ x. g (f x)) xs
map-map g f [] = refl
map-map g f (x ∷ xs) = ap (λ rest. g (f x) ∷ rest) (map-map g f xs)

-- the line of what is kept
module _ {A : Type 0} (separator : ℕ) (f : A → Fields) (keep : A → Bool) (g : ℕ → A) (n : ℕ) (before text after : List ℕ)
    (so_far : text ≡ and_lines separator before (map f (filter keep (map g (numbers_below n))))) where
  one-more : filter keep (map g (numbers_below (n + 1))) ≡ filter keep (map g (numbers_below n)) ++ filter keep (g n ∷ [])
  one-more = rw add-one (ap (filter keep) (map-append g (numbers_below n) (n ∷ [])) ∙ filter-append keep (map g (numbers_below n)) (g n ∷ []))

  pub kept-line : keep (g n) ≡ true → after ≡ and_lines separator text (f (g n) ∷ []) → after ≡ and_lines separator before (map f (filter keep (map g (numbers_below (n + 1)))))
  kept-line kept next =
      let more : filter keep (map g (numbers_below (n + 1))) ≡ filter keep (map g (numbers_below n)) ++ g n ∷ [] = one-more ∙ rw kept refl in
      lines-then separator before text after (map f (filter keep (map g (numbers_below n)))) (f (g n) ∷ []) so_far next
      ∙ ap (and_lines separator before) (sym (ap (map f) more ∙ map-append f (filter keep (map g (numbers_below n))) (g n ∷ [])))

  pub dropped-line : keep (g n) ≡ false → after ≡ text → after ≡ and_lines separator before (map f (filter keep (map g (numbers_below (n + 1)))))
  dropped-line dropped same =
      let more : filter keep (map g (numbers_below (n + 1))) ≡ filter keep (map g (numbers_below n)) =
      one-more ∙ rw dropped (append-nil (filter keep (map g (numbers_below n)))) in
      same ∙ so_far ∙ ap (λ ps. and_lines separator before (map f ps)) (sym more)
