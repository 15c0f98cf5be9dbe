-- What a reader of blocks answers.
use Rattle.std.specs.Prelude.{ℕ, ◌≡◌, List, ◌++◌, length, Result, Ok, Err, ⊤}
use Rattle.taxi_base.specs.Airport.{Airport}
use Rattle.replies.specs.declared.block.Block.{Block}
use Rattle.replies.specs.Texts.{block_text}
use Rattle.replies.specs.Printable.{IsPrintable}
use Rattle.block_reader.specs.declared.refused.BlockRefused.{BlockRefused}
use Rattle.block_reader.specs.declared.refused.BlockRefused.TheVariants.{NotABlock, Memory}

-- bytes begin with the text of a printable block
abbrev pub BeginsWith : Airport → List ℕ → Block → Type 0
BeginsWith airport bytes block = IsPrintable airport block × ((rest : List ℕ) × (bytes ≡ block_text airport block ++ rest))

-- bytes are the text of a printable block, and nothing follows
abbrev pub IsBlockText : Airport → List ℕ → Type 0
IsBlockText airport bytes = (block : Block) × IsPrintable airport block × (bytes ≡ block_text airport block)

-- The block that the bytes begin with, and how long its text is. There is none exactly where no printable block's text
-- stands at the front. Memory may run out.
abbrev pub IsBlockRead : Airport → List ℕ → Result (Block × ℕ) BlockRefused → Type 0
IsBlockRead airport bytes (Ok read) = BeginsWith airport bytes read.0 × (read.1 ≡ length (block_text airport read.0))
IsBlockRead airport bytes (Err NotABlock) = (block : Block) → BeginsWith airport bytes block → ⊥
IsBlockRead airport bytes (Err Memory) = ⊤

-- where the bytes begin with a block, this block is read, unless memory runs out
abbrev pub Reads : Airport → Block → Result (Block × ℕ) BlockRefused → Type 0
Reads airport block (Ok read) = read ≡ (block, length (block_text airport block))
Reads airport block (Err NotABlock) = ⊥
Reads airport block (Err Memory) = ⊤
