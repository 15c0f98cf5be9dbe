-- What is written of each command of a file beside its block, and what was written, by how the run ended?
use Rattle.std.specs.Prelude.{◌≡◌, ◌<◌, ◌≤◌, ◌⊎◌, ◌+◌, ⊤, ℕ, true, false, List, [], ◌∷◌, ◌++◌, length, if◌then◌else◌}
use Rattle.std.specs.List.{flat_map}
use Rattle.taxi_base.specs.Airport.{Airport}
use Rattle.taxi_base.specs.State.{State, no_holder}
use Rattle.taxi_text.specs.Lines.{is_skipped}
use Rattle.taxi_io.specs.Written.{Output, Grew, GrewInPart, Handed, HandedInPart, AreHanded, AreHandedInPart}
use Rattle.replies.specs.declared.block.Block.{Block}
use Rattle.replies.specs.Texts.{block_text}
use Rattle.replies.specs.Replies.{IsAnswered}
use Rattle.transcripts.specs.Runs.{IsRun}
use Rattle.command_run.specs.declared.refused.RunRefused.{RunRefused}
use Rattle.command_run.specs.declared.refused.RunRefused.TheVariants.{ReadFault, TooLarge, WriteFault, Memory}
use Rattle.command_run.specs.Ended.{commands_among}
pub use Rattle.command_run.specs.Ended.{lines_within}
use Rattle.command_run.specs.HowFar.{Told, Pieces, Outputs, AreLeft, IsReadWhole, IsReadUpTo, IsInTime}

-- ---- commands with their numbers

-- a command of a file: which of the commands it is and which of all lines, both counted from 1, and the line
pub record Numbered : Type 0 where
  pub command : ℕ
  pub line : ℕ
  pub text : List ℕ

-- the commands among lines, where the first command and the first line have these numbers
abbrev pub numbered_from : (command line : ℕ) → List (List ℕ) → List Numbered
numbered_from command line [] = []
numbered_from command line (text ∷ lines) =
    if is_skipped text then numbered_from command (line + 1) lines
    else record { command = command; line = line; text = text } ∷ numbered_from (command + 1) (line + 1) lines

abbrev pub numbered_among : List (List ℕ) → List Numbered
numbered_among lines = numbered_from 1 1 lines

-- ---- what is written

-- what is written of a command and the block that answers it
abbrev pub Telling : Type 0
Telling = Airport → Numbered → Block → List ℕ

-- what is written of each of some commands
abbrev pub texts_told : Telling → Airport → List Numbered → List Block → List (List ℕ)
texts_told telling airport (command ∷ commands) (block ∷ blocks) = telling airport command block ∷ texts_told telling airport commands blocks
texts_told telling airport commands blocks = []

-- the whole of it
abbrev pub all_told : Telling → Airport → List (List ℕ) → List Block → List ℕ
all_told telling airport lines blocks = flat_map (λ text. text) (texts_told telling airport (numbered_among lines) blocks)

-- each command among these lines is answered in turn by a block, of so many, and what is told of it is written, each handed over as one
-- piece
pub record AreTold (telling : Telling) (airport : Airport) (lines : List (List ℕ)) (written : Outputs) (count : ℕ) (after : State) : Type 0 where
  pub blocks : List Block
  pub run : IsRun airport no_holder (commands_among lines) blocks after
  pub grew : Grew written.0 written.1 (all_told telling airport lines blocks)
  pub handed : AreHanded written.0 written.1 (texts_told telling airport (numbered_among lines) blocks)
  pub counted : count ≡ length blocks

-- the last of some texts, or this one where there is none
abbrev pub last_text : List ℕ → List (List ℕ) → List ℕ
last_text before [] = before
last_text before (text ∷ texts) = last_text text texts

-- The same, and of who told: what it holds in force is what the commands left, and its last text, before and after, is that of the last
-- command, or as it was where there is none.
pub record AreToldBy (telling : Telling) (airport : Airport) (last : List ℕ × List ℕ) (state : State) (lines : List (List ℕ)) (written : Outputs) (count : ℕ) (after : State) : Type 0 where
  pub told : AreTold telling airport lines written count after
  pub in_force : state ≡ after
  pub last_told : last.1 ≡ last_text last.0 (texts_told telling airport (numbered_among lines) told.blocks)

-- one command is answered by a block, and what is told of it is this text
pub record IsTold (telling : Telling) (airport : Airport) (before : State) (command : Numbered) (text : List ℕ) (after : State) : Type 0 where
  pub block : Block
  pub answered : IsAnswered airport before command.text block after
  pub is_text : text ≡ telling airport command block

-- a line holds a command, and of what is told of it a front was written, and not the whole
pub record IsCommandCut (telling : Telling) (airport : Airport) (before : State) (command : Numbered) (written : Outputs) : Type 0 where
  pub holds : is_skipped command.text ≡ false
  pub text : List ℕ
  pub after : State
  pub told : IsTold telling airport before command text after
  pub front : GrewInPart written.0 written.1 text
  pub in_part : HandedInPart written.0 written.1 text

-- the telling of a router: of each command its block is told
abbrev pub block_told : Telling
block_told airport command block = block_text airport block

-- ---- how a run ended

-- the file was read to its end, within the limit, and all its commands are told
abbrev pub IsWholeTold : Telling → Airport → ℕ → Told → Outputs → ℕ → Type 0
IsWholeTold telling airport = IsReadWhole (AreTold telling airport)

-- Reading ended after these bytes of the file were taken. The commands whose lines have ended in them are told, where only so many
-- bytes count.
abbrev pub IsHaltedTold : Telling → Airport → ℕ → Told → Outputs → List ℕ → Type 0
IsHaltedTold telling airport = IsReadUpTo (AreTold telling airport)

-- where reading failed, or gave more than the limit, who told is handed on with what is so of the lines that had ended
abbrev pub IsHandedOn : (List (List ℕ) → Outputs → ℕ → State → Type 0) → ℕ → Told → Outputs → RunRefused → Type 0
IsHandedOn AreDone limit left written ReadFault = (taken : List ℕ) × IsReadUpTo AreDone limit left written taken
IsHandedOn AreDone limit left written TooLarge = (taken : List ℕ) × IsReadUpTo AreDone limit left written taken
IsHandedOn AreDone limit left written WriteFault = ⊤
IsHandedOn AreDone limit left written Memory = ⊤

-- a front was written of what is told of the file's commands, each text handed over as one piece
pub record IsCutTold (telling : Telling) (airport : Airport) (limit : ℕ) (left : Told) (written : Outputs) : Type 0 where
  pub bytes : List ℕ
  pub file : AreLeft left.0 bytes
  pub blocks : List Block
  pub after : State
  pub run : IsRun airport no_holder (commands_among (lines_within limit bytes)) blocks after
  pub front : List ℕ
  pub behind : List ℕ
  pub split : front ++ behind ≡ all_told telling airport (lines_within limit bytes) blocks
  pub grew : Grew written.0 written.1 front
  pub handed : AreHandedInPart written.0 written.1 (texts_told telling airport (numbered_among (lines_within limit bytes)) blocks)

-- What is told of a command is cut short. That of the lines before is written, and no read was made once the command's line had ended.
pub record IsPromptTold (telling : Telling) (airport : Airport) (left : Told) (given : Pieces) (written : Outputs) : Type 0 where
  pub before : List (List ℕ)
  pub line : List ℕ
  pub in_time : IsInTime left given before line
  pub between : Output
  pub count : ℕ
  pub state : State
  pub told : AreTold telling airport before (written.0, between) count state
  pub cut : IsCommandCut telling airport state (record { command = count + 1; line = length before + 1; text = line }) (between, written.1)

-- how much was told where a run didn't come to the end of its file
abbrev pub IsStoppedTold : Telling → Airport → ℕ → Told → Outputs → RunRefused → Type 0
IsStoppedTold telling airport limit left written ReadFault = (taken : List ℕ) × (length taken ≤ limit) × IsHaltedTold telling airport limit left written taken
IsStoppedTold telling airport limit left written TooLarge = (taken : List ℕ) × (limit < length taken) × IsHaltedTold telling airport limit left written taken
IsStoppedTold telling airport limit left written WriteFault = IsCutTold telling airport limit left written
IsStoppedTold telling airport limit left written Memory = IsCutTold telling airport limit left written

-- ---- one line, for private clauses

-- a line that holds no command is passed over; else its command is told, and what is told is handed over as one piece
abbrev pub IsLineTold : Telling → Airport → State → (count line : ℕ) → List ℕ → List ℕ × List ℕ → Outputs → ℕ → State → Type 0
IsLineTold telling airport before count line text last written few after =
    ((is_skipped text ≡ true) × (few ≡ 0) × (written.1 ≡ written.0) × (after ≡ before) × (last.1 ≡ last.0))
    ⊎ ((is_skipped text ≡ false) × (few ≡ 1)
    × IsTold telling airport before (record { command = count + 1; line = line; text = text }) last.1 after
    × Grew written.0 written.1 last.1 × Handed written.0 written.1 last.1)

-- nothing is written of a line, or what is told of its command is cut short
abbrev pub IsLineCut : Telling → Airport → State → (count line : ℕ) → List ℕ → Outputs → Type 0
IsLineCut telling airport before count line text written =
    (written.1 ≡ written.0) ⊎ IsCommandCut telling airport before (record { command = count + 1; line = line; text = text }) written
