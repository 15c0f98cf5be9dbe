-- What is a run over command lines, and what is written of it?
use Rattle.std.specs.Prelude.{◌≡◌, ℕ, List, [], ◌∷◌, ◌++◌, length, flat_map, codes, decimal}
use Rattle.taxi_base.specs.Airport.{Airport}
use Rattle.taxi_base.specs.State.{State}
use Rattle.replies.specs.declared.block.Block.{Block}
use Rattle.replies.specs.Texts.{block_text}
use Rattle.replies.specs.Replies.{IsAnswered}

-- Each line in turn meets a block, in the state that the lines before it left: what is true of a line, its block and the
-- states before and after, is true of each. The first line finds the state before, and the last leaves the state after.
abbrev pub InTurn : (Airport → State → List ℕ → Block → State → Type 0) → Airport → State → List (List ℕ) → List Block → State → Type 0
InTurn IsMet airport before [] [] after = after ≡ before
InTurn IsMet airport before [] (block ∷ blocks) after = ⊥
InTurn IsMet airport before (line ∷ lines) [] after = ⊥
InTurn IsMet airport before (line ∷ lines) (block ∷ blocks) after =
    (between : State) × IsMet airport before line block between × InTurn IsMet airport between lines blocks after

-- a run: each line in turn is answered by a block
abbrev pub IsRun : Airport → State → List (List ℕ) → List Block → State → Type 0
IsRun = InTurn IsAnswered

-- the texts of blocks, in order
abbrev pub blocks_text : Airport → List Block → List ℕ
blocks_text airport blocks = flat_map (block_text airport) blocks

-- the line that ends a transcript, with the number of commands
abbrev pub done_line : ℕ → List ℕ
done_line count = codes "done " ++ decimal count ++ 10 ∷ []

-- the texts of all blocks, and the last line
abbrev pub transcript : Airport → List Block → List ℕ
transcript airport blocks = blocks_text airport blocks ++ done_line (length blocks)
