-- How much of a run's command file is taken when something is written of a command, or the last line?
use Rattle.std.specs.Prelude.{◌≡◌, ◌<◌, ◌≤◌, ◌⊎◌, ℕ, List, [], ◌∷◌, ◌++◌, Bool, true, false, length, take, unwrap_or, Option, Some, None, Ok}
use Rattle.taxi_base.specs.Airport.{Airport}
use Rattle.taxi_base.specs.State.{State}
use Rattle.taxi_io.specs.Counts.{Rose}
use Rattle.taxi_io.specs.Files.{Files, BeganMore, Gave, IsLonger, file_of}
use Rattle.taxi_io.specs.Written.{Output, Grew, GrewInPart}
use Rattle.command_run.specs.Ended.{ended_lines_of, unended_lines_of}
use Rattle.command_run.specs.HowFar.{Told, Pieces, Outputs, AreLeft, IsReadUpTo}
use Rattle.program_files.specs.declared.status.Status.{Status}
use Rattle.program_files.specs.declared.status.Status.TheVariants.{ReadFault, WriteFault, TooLarge}
use Rattle.program_files.specs.Call.{Call}
use Rattle.program_words.specs.Verb.{FileNames}
use Rattle.program_files.specs.Lines.{read_fault_line, too_large_line}
use Rattle.program_files.specs.Inputs.{airport_limit, commands_limit, IsJudged}

-- ---- the files that were begun

-- both files of a run were tried, by the names that were tried before and after
abbrev pub HaveBegun : FileNames → List (List ℕ) → List (List ℕ) → Type 0
HaveBegun names before after = BeganMore before after (names.airport ∷ names.commands ∷ [])

-- only the airport file was
abbrev pub HaveBegunFirst : FileNames → List (List ℕ) → List (List ℕ) → Type 0
HaveBegunFirst names before after = BeganMore before after (names.airport ∷ [])

-- the bytes of the file of this name, where the files are told: none of a file that isn't there
abbrev pub bytes_told : Option Files → List ℕ → Option (List ℕ)
bytes_told None name = None
bytes_told (Some files) name = Some (unwrap_or (file_of files name) [])

-- what is left of a file that was tried, where that is told: the whole, if nothing is begun
abbrev pub left_of : Bool → Option (List ℕ) → Option (List ℕ) → Option (List ℕ)
left_of false whole rest = whole
left_of true whole rest = rest

-- the whole command file of a run, and what is left of it at the end of the call
abbrev pub commands_left : Option Files → FileNames → Bool → Option (List ℕ) → Told
commands_left told names begun rest = (bytes_told told names.commands, left_of begun (bytes_told told names.commands) rest)

-- ---- what is done of the commands among some lines at an airport, as that they are answered

-- reading ended after these bytes were taken: the lines that have ended in them are done, and then the last line is written
pub record IsHalted (AreDone : Airport → List (List ℕ) → Outputs → ℕ → State → Type 0) (call : Call) (names : FileNames) (left : Told) (taken last : List ℕ) : Type 0 where
  pub airport : Airport
  pub accepted : IsJudged call.files names.airport (Ok airport)
  pub between : Output
  pub halted : IsReadUpTo (AreDone airport) commands_limit left (call.taken.0, between) taken
  pub told_last : Grew between call.taken.1 last

-- The lines that have ended in what was taken are all done, and a front of the last line is written. Where nothing is left of the file,
-- the last line that has no line feed may be done too.
pub record IsCaughtUp (AreDone : List (List ℕ) → Outputs → ℕ → State → Type 0) (left : Told) (written : Outputs) : Type 0 where
  pub taken : List ℕ
  pub gave : Gave left.0 left.1 taken
  pub others : List (List ℕ)
  pub at_end : (others ≡ []) ⊎ ((others ≡ unended_lines_of taken) × AreLeft left.1 [])
  pub between : Output
  pub count : ℕ
  pub after : State
  pub told : AreDone (ended_lines_of (take commands_limit taken) ++ others) (written.0, between) count after
  pub front : List ℕ
  pub grew : Grew between written.1 front

-- What is written of a command is cut short by what was taken of the file until then, or the last line is.
abbrev pub IsCutInStep : (List (List ℕ) → Outputs → ℕ → State → Type 0) → (Told → Pieces → Outputs → Type 0) → Told → List (List ℕ) → Outputs → Type 0
IsCutInStep AreDone IsPrompt left given written = ((first : List (List ℕ)) × IsPrompt left (first, given) written) ⊎ IsCaughtUp AreDone left written

-- Each command is done before more of the file is taken. Where reading ends in the command file, exactly the commands are done whose
-- lines have ended in what was taken, of which no more was than the limit where a read failed. Where what is written of a command can't
-- be written whole, the writing is prompt: the last read is the one in which the line of that command ended.
pub record KeepsPaceBy (AreDone : Airport → List (List ℕ) → Outputs → ℕ → State → Type 0) (IsPrompt : Airport → Told → Pieces → Outputs → Type 0) (call : Call) (names : FileNames) (left : Told) (ended : Status) : Type 0 where
  pub fault : ended ≡ ReadFault → (taken : List ℕ) × (length taken ≤ commands_limit) × IsHalted AreDone call names left taken read_fault_line
  pub large : ended ≡ TooLarge → (taken : List ℕ) × (commands_limit < length taken) × IsHalted AreDone call names left taken too_large_line
  pub late : ended ≡ WriteFault → (airport : Airport) × IsJudged call.files names.airport (Ok airport) × IsCutInStep (AreDone airport) (IsPrompt airport) left call.given call.taken

-- ---- before the command file is begun

-- A run that hasn't begun the command file does no command. It writes one line, with `ReadFault` that a read failed, and with
-- `TooLarge` that the airport file has more bytes than its limit. Where the files are told and the airport is accepted, a write that
-- fails is that of the line for a failed read.
pub record EndsBeforeCommands (call : Call) (names : FileNames) (ended : Status) : Type 0 where
  pub fault : ended ≡ ReadFault → Grew call.taken.0 call.taken.1 read_fault_line
  pub large : ended ≡ TooLarge → IsLonger call.files names.airport airport_limit × Grew call.taken.0 call.taken.1 too_large_line
  pub late : ended ≡ WriteFault → (files : Files) → call.files ≡ Some files → (airport : Airport) → IsJudged call.files names.airport (Ok airport)
      → Rose call.reads.0 call.reads.1 × GrewInPart call.taken.0 call.taken.1 read_fault_line
