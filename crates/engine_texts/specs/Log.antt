-- What is kept of the commands that an engine answered?
use Rattle.std.specs.Prelude.{◌≡◌, ◌-◌, ℕ, List, Option, length, map, slice_get, Vec}
use Rattle.std.specs.declared.alloc.Global.{Global}
use Rattle.taxi_base.specs.Airport.{Airport}
use Rattle.replies.specs.declared.block.Block.{Block}
use Rattle.block_reader.specs.Read.{IsBlockText}
use Rattle.run_figures.specs.Counts.{AreCounts}
use Rattle.engine_texts.specs.declared.log.Log.{Log}

-- the bytes of each of some lines
abbrev pub texts_of : List (Vec ℕ Global) → List (List ℕ)
texts_of lines = map (λ line. line.items) lines

-- the lines of a list, in order
abbrev pub lines_in : Vec (Vec ℕ Global) Global → List (List ℕ)
lines_in lines = texts_of lines.items

-- the last of some lines
abbrev pub last_of : List (List ℕ) → Option (List ℕ)
last_of lines = slice_get lines (length lines - 1)

-- A log counts the replies of its lines, and the next reply is the text of a block.
pub record IsCounted (airport : Airport) (log : Log) (reply : List ℕ) : Type 0 where
  pub block : IsBlockText airport reply
  pub blocks : List Block
  pub counts : AreCounts airport blocks log.counts
  pub each : length blocks ≡ length (lines_in log.lines)
