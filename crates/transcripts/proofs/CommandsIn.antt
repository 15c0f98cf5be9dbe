-- The lines that hold commands, and the texts of their blocks, one after the other.
use Rattle.std.proofs.Common.{◌≡◌, ◌+◌, ◌≤◌, ◌++◌, ◌∷◌, ◌∙◌, ◌==◌, [], ℕ, List, Bool, true, false, not, length, filter, refl, sym, ap, append_assoc, append-nil, arith}
use Rattle.std.specs.List.{slice_split}
use Rattle.std.proofs.lemmas.List.Elements.{filter-append}
use Rattle.std.proofs.lemmas.List.{length-append}
use Rattle.std.proofs.lemmas.List.Sums.{count_by-le-length}
use Rattle.std.proofs.lemmas.List.Splits.{length-slice_split}
use Rattle.std.proofs.lemmas.Grind.{flat_map-append}
use Rattle.taxi_base.specs.Airport.{Airport}
use Rattle.taxi_text.specs.Lines.{lines_of, lines_of_parts, is_skipped}
use Rattle.replies.specs.declared.block.Block.{Block}
use Rattle.replies.specs.Texts.{block_text}
use Rattle.transcripts.specs.Runs.{blocks_text}

-- the lines that hold commands
abbrev pub commands_in : List (List ℕ) → List (List ℕ)
commands_in lines = filter (λ line. not (is_skipped line)) lines

-- one more line is read
pub split-more : (read left rest all : List (List ℕ)) (line : List ℕ) → read ++ left ≡ all → left ≡ line ∷ rest → (read ++ line ∷ []) ++ rest ≡ all
split-more read left rest all line split next = append_assoc read (line ∷ []) rest ∙ ap (λ l. read ++ l) (sym next) ∙ split

pub commands_in-skipped : (read : List (List ℕ)) (line : List ℕ) → is_skipped line ≡ true → commands_in (read ++ line ∷ []) ≡ commands_in read
commands_in-skipped read line skipped =
    filter-append _ read (line ∷ []) ∙ ap (λ (l : List (List ℕ)). commands_in read ++ l) (rw skipped refl) ∙ append-nil (commands_in read)

pub commands_in-kept : (read : List (List ℕ)) (line : List ℕ) → is_skipped line ≡ false → commands_in (read ++ line ∷ []) ≡ commands_in read ++ line ∷ []
commands_in-kept read line kept = filter-append _ read (line ∷ []) ∙ ap (λ (l : List (List ℕ)). commands_in read ++ l) (rw kept refl)

pub blocks_text-more : (airport : Airport) (blocks : List Block) (block : Block) → blocks_text airport (blocks ++ block ∷ []) ≡ blocks_text airport blocks ++ block_text airport block
blocks_text-more airport blocks block =
    flat_map-append (block_text airport) blocks (block ∷ []) ∙ ap (λ (l : List ℕ). blocks_text airport blocks ++ l) (append-nil (block_text airport block))

-- ---- how many commands there are

length-commands_in : (lines : List (List ℕ)) → length (commands_in lines) ≤ length lines
length-commands_in [] = omega arith
length-commands_in (line ∷ lines) = let rest = length-commands_in lines in go (is_skipped line) refl rest where
  go : (b : Bool) → is_skipped line ≡ b → length (commands_in lines) ≤ length lines → length (commands_in (line ∷ lines)) ≤ length (line ∷ lines)
  go true e rest = rw e (omega (arith, rest))
  go false e rest = rw e (omega (arith, rest))

length-lines_of_parts : (parts : List (List ℕ)) → length (lines_of_parts parts) ≤ length parts
length-lines_of_parts [] = omega arith
length-lines_of_parts (last ∷ []) = go (length last == 0) refl where
  go : (b : Bool) → (length last == 0) ≡ b → length (lines_of_parts (last ∷ [])) ≤ 1
  go true e = rw e (omega arith)
  go false e = rw e (omega arith)
length-lines_of_parts (part ∷ next ∷ parts) = let rest = length-lines_of_parts (next ∷ parts) in omega (arith, rest)

-- lines of a text that are read so far hold no more commands than the text has bytes, and one
pub commands_in-count : (bytes : List ℕ) (read left : List (List ℕ)) → read ++ left ≡ lines_of bytes → length (commands_in read) ≤ length bytes + 1
commands_in-count bytes read left is_split =
    let commands = length-commands_in read in
    let split = ap length is_split in
    let all = length-append read left in
    let lines = length-lines_of_parts (slice_split (λ b. b == 10) bytes) in
    let parts = length-slice_split (λ b. b == 10) bytes in
    let feeds = count_by-le-length (λ b. b == 10) bytes in
    omega (arith, commands, split, all, lines, parts, feeds)
