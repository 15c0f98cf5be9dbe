-- The first of the lines among the parts.
use Rattle.std.proofs.Common.{◌≡◌, ◌==◌, ◌<◌, ◌∷◌, [], ℕ, List, false, refl, ap, length, Option, Some, None, is_some, arith}
use Rattle.std.proofs.lemmas.List.Splits.{length-slice_split}
use Rattle.std.specs.Borrow.{Bor}
use Rattle.std.specs.Str.Lines.{strip_carriage_return}
use Rattle.taxi_text.specs.Parts.{parts_of, parts_left}
use Rattle.taxi_text.specs.Lines.{lines_of_parts}

pub before_more : (line : List ℕ) (parts : List (List ℕ)) → 0 < length parts → lines_of_parts (line ∷ parts) ≡ strip_carriage_return line ∷ lines_of_parts parts
before_more line [] l = absurd (omega arith)
before_more line (part ∷ parts) l = refl

-- the first part is a line, unless it is the last part and empty
pub first_line : (line : List ℕ) (rest : Option (Bor (List ℕ))) → (is_some rest ≡ false → (length line == 0) ≡ false)
    → lines_of_parts (line ∷ parts_left 10 rest) ≡ strip_carriage_return line ∷ lines_of_parts (parts_left 10 rest)
first_line line None h = rw (h refl) refl
first_line line (Some rest) h = before_more line (parts_of 10 rest.now) (let l = length-slice_split (λ b. b == 10) rest.now in omega (arith, l))

pub fewer_lines : (old : List (List ℕ)) (line : List ℕ) (new : List (List ℕ)) → old ≡ line ∷ new → length new < length old
fewer_lines old line new e = let n : length old ≡ length (line ∷ new) = ap (λ (l : List (List ℕ)). length l) e in omega (arith, n)
