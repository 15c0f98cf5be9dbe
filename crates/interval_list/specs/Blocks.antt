-- Where the nodes of blocks lie, and which of them are handed out.
use Rattle.std.specs.Prelude.{◌≡◌, ℕ, zero, suc, ◌-◌, List, [], ◌∷◌, ◌++◌, length, drop, IsPermutation}
use denote.RawPtr.{Ptr, InBlock, ◌+ₚ◌}
use denote.Memory.{lone}
use prog.Memory.{size}
use Rattle.interval_list.specs.contracts.node.Node as node
use Rattle.interval_list.specs.Cells.{Cell, places}

-- where a block begins, and how many nodes it has
abbrev pub Block : Type 0
Block = Ptr × ℕ

abbrev pub node_size : ℕ
node_size = size (lone node.the_row.mir)

-- the places of n nodes side by side from p on
abbrev pub row_places : Ptr → ℕ → List Ptr
row_places p zero = []
row_places p (suc n) = p ∷ row_places (p +ₚ node_size) n

-- the places of all nodes of a block but its first
abbrev pub body : Block → List Ptr
body b = row_places (b.0 +ₚ node_size) (b.1 - 1)

-- a block was taken apart: it is one of the blocks, and its body is with the nodes
abbrev pub IsTakenApart : Block → List Block → List Cell → List Block → List Cell → Type 0
IsTakenApart b blocks cells blocks' cells' = InBlock b.0 × (blocks' ≡ b ∷ blocks) × (places cells' ≡ body b ++ places cells)

-- the places of the bodies of all blocks
abbrev pub bodies : List Block → List Ptr
bodies [] = []
bodies (b ∷ bs) = body b ++ bodies bs

-- a block is the newest, and the nodes are the bodies of all blocks
abbrev pub IsNewest : Block → List Block → List Cell → Type 0
IsNewest b blocks cells = (blocks ≡ b ∷ drop 1 blocks) × IsPermutation (places cells) (bodies blocks)

-- a list's first block has a head and one node more, and the others a head and sixteen
abbrev pub block_size : ℕ → ℕ
block_size zero = 2
block_size (suc zero) = 17
block_size (suc (suc older)) = 60

-- the blocks that begin at these places, the newest first
abbrev pub blocks_at : List Ptr → List Block
blocks_at [] = []
blocks_at (p ∷ ps) = (p, block_size (length ps)) ∷ blocks_at ps

-- these are all blocks, with their heads and with the nodes of their bodies
abbrev pub AreAll : List Block → List Cell → List Cell → Type 0
AreAll blocks heads nodes = (blocks ≡ blocks_at (places heads)) × IsPermutation (places nodes) (bodies blocks)

-- the places of the bodies of all blocks, and of those of their nodes that were not handed out yet
pub record Stocked : Type 0 where
  pub made : List Ptr
  pub blank : List Ptr

-- the nodes at these places are those that were handed out
abbrev pub AreOut : List Ptr → Stocked → Type 0
AreOut used s = IsPermutation (used ++ s.blank) s.made
