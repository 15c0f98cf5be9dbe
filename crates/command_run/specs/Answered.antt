-- What was answered and written of a run over the commands of a file, by how it ended?
use Rattle.std.specs.Prelude.{◌≡◌, ◌<◌, ◌≤◌, ℕ, List, ◌++◌, false, length, map}
use Rattle.taxi_base.specs.Airport.{Airport}
use Rattle.taxi_base.specs.State.{State, no_holder}
use Rattle.taxi_text.specs.Lines.{is_skipped}
use Rattle.taxi_io.specs.Written.{Output, Grew, GrewInPart, HandedInPart, AreHanded, AreHandedInPart}
use Rattle.replies.specs.declared.block.Block.{Block}
use Rattle.replies.specs.Texts.{block_text}
use Rattle.replies.specs.Replies.{IsAnswered}
use Rattle.transcripts.specs.Runs.{IsRun, blocks_text}
use Rattle.command_run.specs.declared.refused.RunRefused.{RunRefused}
use Rattle.command_run.specs.declared.refused.RunRefused.TheVariants.{ReadFault, TooLarge, WriteFault, Memory}
use Rattle.command_run.specs.Ended.{commands_among, commands_within}
pub use Rattle.command_run.specs.HowFar.{Told, Pieces, Outputs, AreLeft}
use Rattle.command_run.specs.HowFar.{IsReadWhole, IsReadUpTo, IsInTime}
use Rattle.command_run.specs.Told.{last_text}

-- what each block says, as text
abbrev pub texts_of : Airport → List Block → List (List ℕ)
texts_of airport blocks = map (block_text airport) blocks

-- each command in turn is answered by a block, of so many, and the blocks' texts are written, each handed over as one piece
pub record AreAnswered (airport : Airport) (before : State) (commands : List (List ℕ)) (written : Outputs) (count : ℕ) (after : State) : Type 0 where
  pub blocks : List Block
  pub run : IsRun airport before commands blocks after
  pub grew : Grew written.0 written.1 (blocks_text airport blocks)
  pub handed : AreHanded written.0 written.1 (texts_of airport blocks)
  pub counted : count ≡ length blocks

-- The same of the commands among lines, from no holder in force, and of who answered: what it holds in force is what the commands left,
-- and its last reply, before and after, is that to the last command, or as it was where there is none.
pub record AreAnsweredBy (airport : Airport) (last : List ℕ × List ℕ) (state : State) (lines : List (List ℕ)) (written : Outputs) (count : ℕ) (after : State) : Type 0 where
  pub answered : AreAnswered airport no_holder (commands_among lines) written count after
  pub in_force : state ≡ after
  pub last_reply : last.1 ≡ last_text last.0 (texts_of airport answered.blocks)

-- the same of the commands among lines, from no holder in force
abbrev pub LinesAreAnswered : Airport → List (List ℕ) → Outputs → ℕ → State → Type 0
LinesAreAnswered airport lines written count after = AreAnswered airport no_holder (commands_among lines) written count after

-- a line holds a command, and of its block a front was written, and not the whole
pub record IsBlockCut (airport : Airport) (state : State) (line : List ℕ) (written : Outputs) : Type 0 where
  pub holds : is_skipped line ≡ false
  pub block : Block
  pub after : State
  pub answered : IsAnswered airport state line block after
  pub front : GrewInPart written.0 written.1 (block_text airport block)
  pub in_part : HandedInPart written.0 written.1 (block_text airport block)

-- the file was read to its end, within the limit, and all its commands are answered
abbrev pub IsWholeRun : Airport → ℕ → Told → Outputs → ℕ → Type 0
IsWholeRun airport = IsReadWhole (LinesAreAnswered airport)

-- Reading ended after these bytes of the file were taken. The commands whose lines have ended in them are answered, where only so
-- many bytes count.
abbrev pub IsHaltedRun : Airport → ℕ → Told → Outputs → List ℕ → Type 0
IsHaltedRun airport = IsReadUpTo (LinesAreAnswered airport)

-- a front was written of the blocks that answer the file's commands, each handed over as one piece
pub record IsCutRun (airport : Airport) (limit : ℕ) (left : Told) (written : Outputs) : Type 0 where
  pub bytes : List ℕ
  pub file : AreLeft left.0 bytes
  pub blocks : List Block
  pub after : State
  pub run : IsRun airport no_holder (commands_within limit bytes) blocks after
  pub front : List ℕ
  pub behind : List ℕ
  pub split : front ++ behind ≡ blocks_text airport blocks
  pub grew : Grew written.0 written.1 front
  pub handed : AreHandedInPart written.0 written.1 (texts_of airport blocks)

-- The block of a command is cut short. Those of the lines before are written, and no read was made once the command's line had ended.
pub record IsPrompt (airport : Airport) (left : Told) (given : Pieces) (written : Outputs) : Type 0 where
  pub before : List (List ℕ)
  pub line : List ℕ
  pub in_time : IsInTime left given before line
  pub between : Output
  pub count : ℕ
  pub state : State
  pub answered : LinesAreAnswered airport before (written.0, between) count state
  pub cut : IsBlockCut airport state line (between, written.1)

-- how much was answered where a run didn't come to the end of its file
abbrev pub IsStopped : Airport → ℕ → Told → Pieces → Outputs → RunRefused → Type 0
IsStopped airport limit left given written ReadFault = (taken : List ℕ) × (length taken ≤ limit) × IsHaltedRun airport limit left written taken
IsStopped airport limit left given written TooLarge = (taken : List ℕ) × (limit < length taken) × IsHaltedRun airport limit left written taken
IsStopped airport limit left given written WriteFault = IsCutRun airport limit left written × IsPrompt airport left given written
IsStopped airport limit left given written Memory = IsCutRun airport limit left written
