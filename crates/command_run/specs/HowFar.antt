-- How far was a file read, and what is so of the lines that were read?
use Rattle.std.specs.Prelude.{◌≡◌, ◌<◌, ◌≤◌, ◌⊎◌, ℕ, List, [], ◌∷◌, ◌++◌, length, take, Option, Some, None}
use Rattle.std.specs.List.{flat_map}
use Rattle.taxi_base.specs.State.{State}
use Rattle.taxi_text.specs.Lines.{lines_of}
use Rattle.taxi_io.specs.Files.{Gave}
use Rattle.taxi_io.specs.Written.{Output}
use Rattle.command_run.specs.Ended.{ended_lines_of}

-- each pair is of before and after
abbrev pub Told : Type 0
Told = Option (List ℕ) × Option (List ℕ)

abbrev pub Pieces : Type 0
Pieces = List (List ℕ) × List (List ℕ)

abbrev pub Outputs : Type 0
Outputs = Output × Output

-- what is left of a file, where it is told, is these bytes
abbrev pub AreLeft : Option (List ℕ) → List ℕ → Type 0
AreLeft None bytes = Unit {0}
AreLeft (Some left) bytes = left ≡ bytes

-- ---- how reading ended

-- The file was read to its end, within the limit, and its lines are done: so many commands, with what is in force after them.
pub record IsReadWhole (AreDone : List (List ℕ) → Outputs → ℕ → State → Type 0) (limit : ℕ) (left : Told) (written : Outputs) (count : ℕ) : Type 0 where
  pub bytes : List ℕ
  pub gave : Gave left.0 left.1 bytes
  pub file : AreLeft left.0 bytes
  pub at_end : AreLeft left.1 []
  pub within : length bytes ≤ limit
  pub after : State
  pub told : AreDone (lines_of bytes) written count after

-- Reading ended after these bytes of the file were taken. The lines that have ended in them are done, where only so many bytes count.
pub record IsReadUpTo (AreDone : List (List ℕ) → Outputs → ℕ → State → Type 0) (limit : ℕ) (left : Told) (written : Outputs) (taken : List ℕ) : Type 0 where
  pub gave : Gave left.0 left.1 taken
  pub count : ℕ
  pub after : State
  pub told : AreDone (ended_lines_of (take limit taken)) written count after

-- ---- how soon a line was done

-- the last of some pieces; no bytes where there is none
abbrev pub last_piece : List (List ℕ) → List ℕ
last_piece [] = []
last_piece (piece ∷ []) = piece
last_piece (piece ∷ next ∷ more) = last_piece (next ∷ more)

-- A line of a file is the next to be done, behind these. Of the file these pieces were taken: what comes up to the end of the line, and
-- what stands ahead of it. The line has ended, and it ends in the last of them, so no read was made once it had ended; or the last read
-- gave nothing, since the file ended, and the line has no line feed.
pub record IsInTime (left : Told) (given : Pieces) (before : List (List ℕ)) (line : List ℕ) : Type 0 where
  pub through : List ℕ
  pub ahead : List ℕ
  pub gave : Gave left.0 left.1 (through ++ ahead)
  pub few : length ahead < 4096
  pub pieces : List (List ℕ)
  pub given_more : given.1 ≡ given.0 ++ pieces
  pub joined : flat_map (λ piece. piece) pieces ≡ through ++ ahead
  pub last : lines_of through ≡ before ++ line ∷ []
  pub at_once : ((length ahead < length (last_piece pieces)) × (ended_lines_of through ≡ before ++ line ∷ []))
      ⊎ ((last_piece pieces ≡ []) × (ahead ≡ []) × (ended_lines_of through ≡ before))
