-- How does a run at an accepted airport end? No public clause of a program cites this file.
use Rattle.std.specs.Prelude.{◌≡◌, ◌≤◌, ◌⊎◌, ℕ, List, Bool, true, false, Option, Result, Ok, Err}
use Rattle.taxi_base.specs.Airport.{Airport}
use Rattle.taxi_io.specs.Counts.{Rose}
use Rattle.taxi_io.specs.Files.{Files, Begins}
use Rattle.taxi_io.specs.Written.{Output}
use Rattle.command_run.specs.declared.refused.RunRefused.{RunRefused}
use Rattle.command_run.specs.declared.refused.RunRefused.TheVariants as refused
use Rattle.command_run.specs.Halts.{HaltsWith}
use Rattle.command_run.specs.HowFar.{Told, Pieces, Outputs}
use Rattle.program_files.specs.declared.stop.Stop.{Stop}
use Rattle.program_files.specs.declared.status.Status.{Status}
use Rattle.program_files.specs.declared.status.Status.TheVariants as status
use Rattle.program_files.specs.LastLine.{EndsWith}
use Rattle.program_files.specs.Inputs.{commands_limit}
use Rattle.program_files.specs.Stops.{IsCauseOfBegin, StopsWith}

-- what a run at an airport finds, and what it leaves: the counts of faults of the shelf and of the sink, whether a file is begun, what
-- is left of it, the pieces that reads have given, and what the sink took
pub record RunCall : Type 0 where
  pub files : Option Files
  pub reads : ℕ × ℕ
  pub writes : ℕ × ℕ
  pub begun : Bool
  pub left : Option (List ℕ)
  pub given : List (List ℕ)
  pub taken : Outputs

-- the command file can't be begun
pub record IsUnbegun (call : RunCall) (ended : Status) : Type 0 where
  pub why : Stop
  pub nothing : call.begun ≡ false
  pub cause : IsCauseOfBegin call.reads why
  pub stops : StopsWith why call.writes call.taken ended

-- How much was done, and how the last line decided the status. It is told by what is left of the file, what reads had given, and what
-- the sink took before the last line, with its count of faults then.
abbrev pub HasOutcome : (Told → Outputs → ℕ → Type 0) → (Told → Pieces → Outputs → RunRefused → Type 0) → (ℕ → List ℕ)
    → RunCall → Option (List ℕ) → List (List ℕ) → Output → ℕ → Status → Result ℕ RunRefused → Type 0
HasOutcome IsWhole IsStopped done_line call rest first between mid ended (Ok count) =
    IsWhole (rest, call.left) (call.taken.0, between) count × EndsWith (done_line count) status.Done (mid, call.writes.1) (between, call.taken.1) ended
HasOutcome IsWhole IsStopped done_line call rest first between mid ended (Err why) =
    IsStopped (rest, call.left) (first, call.given) (call.taken.0, between) why × HaltsWith why (mid, call.writes.1) (between, call.taken.1) ended
    × (why ≡ refused.ReadFault → Rose call.reads.0 call.reads.1) × (why ≡ refused.WriteFault → Rose call.writes.0 mid)

-- the command file of this name was begun, and the run over it came to such an outcome
pub record IsBegunRun (IsWhole : Told → Outputs → ℕ → Type 0) (IsStopped : Told → Pieces → Outputs → RunRefused → Type 0) (done_line : ℕ → List ℕ) (call : RunCall) (name : List ℕ) (ended : Status) : Type 0 where
  pub rest : Option (List ℕ)
  pub begins : Begins call.files name rest
  pub is_begun : call.begun ≡ true
  pub first : List (List ℕ)
  pub between : Output
  pub mid : ℕ
  pub later : call.writes.0 ≤ mid
  pub after : mid ≤ call.writes.1
  pub outcome : Result ℕ RunRefused
  pub has : HasOutcome IsWhole IsStopped done_line call rest first between mid ended outcome

-- a run ends so, by how much is done where its file is read to the end and where not, and by the line for so many commands
abbrev pub IsRunEndBy : (Airport → ℕ → Told → Outputs → ℕ → Type 0) → (Airport → ℕ → Told → Pieces → Outputs → RunRefused → Type 0) → (ℕ → List ℕ)
    → RunCall → Airport → List ℕ → Status → Type 0
IsRunEndBy IsWhole IsStopped done_line call airport name ended =
    IsUnbegun call ended ⊎ IsBegunRun (IsWhole airport commands_limit) (IsStopped airport commands_limit) done_line call name ended
