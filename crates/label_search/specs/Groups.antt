-- Which cells may have a label? Each has a bit, those of 64 cells in one number.
use Rattle.std.specs.Prelude.{◌≡◌, ◌≢◌, ℕ, ◌/◌, ◌%◌, ◌<◌, List, length, Option, None, slice_index_or}
use Rattle.std.specs.Int.{bit_at}

-- the bits of a group of cells
abbrev pub bits_of_group : List ℕ → ℕ → ℕ
bits_of_group groups g = slice_index_or groups g 0

-- 1 where the cell is marked, and else 0
abbrev pub bit_of : List ℕ → ℕ → ℕ
bit_of groups c = bit_at (bits_of_group groups (c / 64)) (c % 64)

-- no cell but those that are marked has anything, and there are places for these
pub record AreMarked {A : Type 0} (known : List (Option A)) (groups : List ℕ) : Type 0 where
  pub others : (c : ℕ) → bit_of groups c ≡ 0 → slice_index_or known c None ≡ None
  pub inside : (c : ℕ) → bit_of groups c ≡ 1 → c < length known

-- no cell has anything
abbrev pub HaveNothing : {A : Type 0} → List (Option A) → Type 0
HaveNothing known = (c : ℕ) → slice_index_or known c None ≡ None

-- the cell is marked, and others are as before
pub record IsMarkedToo (old new : List ℕ) (cell : ℕ) : Type 0 where
  pub as_many : length new ≡ length old
  pub here : bit_of new cell ≡ 1
  pub others : (c : ℕ) → c ≢ cell → bit_of new c ≡ bit_of old c
