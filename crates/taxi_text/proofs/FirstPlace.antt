-- Where the first line of a text ends, once more stands behind it; and the lines of a text that comes in pieces.
use Rattle.std.proofs.Common.{◌≡◌, ◌==◌, ◌+◌, ◌-◌, ◌<◌, ◌≤◌, ◌∷◌, ◌++◌, ◌∙◌, [], ℕ, List, Bool, true, false, cond, refl, sym, ap, take, drop, length, Option, Some, None, option_map, arith}
use Rattle.std.proofs.lemmas.List.{drop-append-le, take-append-le, length-drop}
use Rattle.std.proofs.lemmas.List.Splits.{length-slice_split}
use Rattle.std.specs.Str.Lines.{strip_carriage_return}
use Rattle.taxi_text.specs.Parts.{parts_of}
use Rattle.taxi_text.specs.Lines.{lines_of, lines_of_parts}
use Rattle.taxi_text.specs.FirstLines.{line_end, line_end_with, first_line_of, behind_line, behind_first_line, last_line_of, only_line}
use Rattle.taxi_text.proofs.Parts.{found-lt, split-found, split-none}
use Rattle.taxi_text.proofs.FirstLine.{before_more}

pub line_end-cons : (x : ℕ) (xs : List ℕ) → line_end (x ∷ xs) ≡ cond (x == 10) (Some 0) (option_map (λ n. 1 + n) (line_end xs))
line_end-cons x xs = go (x == 10) refl where
  go : (b : Bool) → (x == 10) ≡ b → line_end (x ∷ xs) ≡ cond b (Some 0) (option_map (λ n. 1 + n) (line_end xs))
  go true e = rw e (grind arith)
  go false e = rw e (grind arith)

same-place : (at : Option ℕ) → option_map (λ n. 0 + n) at ≡ at
same-place None = refl
same-place (Some n) = ap (λ (j : ℕ). Some j) (omega arith)

further : (at : Option ℕ) (n : ℕ) → option_map (λ e. (n + 1) + e) at ≡ option_map (λ e. 1 + e) (option_map (λ e. n + e) at)
further None n = refl
further (Some e) n = ap (λ (j : ℕ). Some j) (omega arith)

later : (end : Option ℕ) (n m : ℕ) (ys : List ℕ) → m ≡ n + 1 → line_end_with (option_map (λ e. 1 + e) end) m ys ≡ option_map (λ e. 1 + e) (line_end_with end n ys)
later (Some end) n m ys long = refl
later None n m ys long = ap (λ (k : ℕ). option_map (λ e. k + e) (line_end ys)) long ∙ further (line_end ys) n

-- the first line of two texts, one behind the other, ends where it ended in the first, or else in the second
pub line_end-append : (xs ys : List ℕ) → line_end_with (line_end xs) (length xs) ys ≡ line_end (xs ++ ys)
line_end-append [] ys = same-place (line_end ys)
line_end-append (x ∷ xs) ys = go (x == 10) refl (line_end-append xs ys) where
  go : (b : Bool) → (x == 10) ≡ b → line_end_with (line_end xs) (length xs) ys ≡ line_end (xs ++ ys)
      → line_end_with (line_end (x ∷ xs)) (length (x ∷ xs)) ys ≡ line_end ((x ∷ xs) ++ ys)
  go true e rest = rw (line_end-cons x xs, line_end-cons x (xs ++ ys), e) refl
  go false e rest =
      rw (line_end-cons x xs, line_end-cons x (xs ++ ys), e)
      (later (line_end xs) (length xs) (length (x ∷ xs)) ys (omega arith) ∙ ap (option_map (λ n. 1 + n)) rest)

-- the same in a text of which a front was dropped, and which is fed a piece
pub line_end-fed : (stored piece : List ℕ) (dropped : ℕ) (line : Option ℕ) → dropped ≤ length stored → line ≡ line_end (drop dropped stored)
    → line_end_with line (length stored - dropped) piece ≡ line_end (drop dropped (stored ++ piece))
line_end-fed stored piece dropped line within found =
    let long : length stored - dropped ≡ length (drop dropped stored) = let l = length-drop dropped stored in omega (arith, l) in
    ap (λ (l : Option ℕ). line_end_with l (length stored - dropped) piece) found
    ∙ ap (λ (n : ℕ). line_end_with (line_end (drop dropped stored)) n piece) long
    ∙ line_end-append (drop dropped stored) piece
    ∙ ap line_end (sym (drop-append-le dropped stored piece within))

-- ---- lines in turn

the-same : {X : Type 0} {x y : X} → Some x ≡ Some y → x ≡ y
the-same e = cc e

-- the first line that has ended, and those behind it, are the lines of a text, whatever comes after
pub lines-first : (kept more line : List ℕ) → first_line_of kept ≡ Some line → lines_of (kept ++ more) ≡ line ∷ lines_of (behind_first_line kept ++ more)
lines-first kept more line first = go (line_end kept) refl first where
  go : (end : Option ℕ) → line_end kept ≡ end → option_map (λ end. strip_carriage_return (take end kept)) end ≡ Some line
      → lines_of (kept ++ more) ≡ line ∷ lines_of (behind_line kept end ++ more)
  go None found named = absurd (cc named)
  go (Some end) found named =
      let within = found-lt (λ b. b == 10) kept end (sym found) in
      let still : Some end ≡ line_end (kept ++ more) = ap (λ (l : Option ℕ). line_end_with l (length kept) more) (sym found) ∙ line_end-append kept more in
      let rest = drop (end + 1) kept ++ more in
      let front : take end (kept ++ more) ≡ take end kept = take-append-le end kept more (omega (arith, within)) in
      let behind : drop (end + 1) (kept ++ more) ≡ rest = drop-append-le (end + 1) kept more (omega (arith, within)) in
      let some : 0 < length (parts_of 10 rest) = let l = length-slice_split (λ b. b == 10) rest in omega (arith, l) in
      ap lines_of_parts (split-found (λ b. b == 10) (kept ++ more) end still ∙ ap (λ (l : List ℕ). l ∷ parts_of 10 (drop (end + 1) (kept ++ more))) front ∙ ap (λ (l : List ℕ). take end kept ∷ parts_of 10 l) behind)
      ∙ before_more (take end kept) (parts_of 10 rest) some
      ∙ ap (λ (l : List ℕ). l ∷ lines_of rest) (the-same named)

-- where no line has ended, what is kept is the last line, unless nothing is kept
pub lines-last : (kept : List ℕ) → first_line_of kept ≡ None → lines_of kept ≡ only_line (last_line_of kept)
lines-last kept none = go (line_end kept) refl none where
  last : (b : Bool) → (length kept == 0) ≡ b → lines_of_parts (kept ∷ []) ≡ only_line (last_line_of kept)
  last true e = rw e refl
  last false e = rw e refl

  go : (end : Option ℕ) → line_end kept ≡ end → option_map (λ end. strip_carriage_return (take end kept)) end ≡ None → lines_of kept ≡ only_line (last_line_of kept)
  go None found named = ap lines_of_parts (split-none (λ b. b == 10) kept (sym found)) ∙ last (length kept == 0) refl
  go (Some end) found named = absurd (cc named)
