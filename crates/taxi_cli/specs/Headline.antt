-- What does a run's transcript say? For every airport file and list of commands, the transcript answers each command in turn:
-- an arrival's route is feasible among the commitments then standing and no feasible walk ends earlier; a departure's is
-- feasible and none pushes back later; no-route comes exactly when no feasible walk exists; no two aircraft ever hold
-- conflicting segments at one moment; and the checker accepts the transcript.
use Rattle.std.specs.Prelude.{◌≡◌, ◌↔◌, ◌⊎◌, ℕ, List, [], ◌∷◌, map, All, Contains, IsPermutation, Option, Some, None, ⊤}
use Rattle.taxi_base.specs.declared.answers.Request.{Request}
use Rattle.taxi_base.specs.declared.answers.Request.TheVariants as request
use Rattle.taxi_base.specs.declared.answers.Flight.{Flight}
use Rattle.taxi_base.specs.declared.answers.Refusal.TheVariants as refusal
use Rattle.taxi_base.specs.declared.rows.Step.{Step}
use Rattle.taxi_base.specs.declared.rows.LabelRow.{LabelRow}
use Rattle.taxi_base.specs.Airport.{Airport}
use Rattle.taxi_base.specs.Walks.{EndsEarliest, BeginsLatest, begin_of, end_of}
use Rattle.taxi_base.specs.Late.{KeepsEntered}
use Rattle.taxi_base.specs.State.{State, no_holder, step_begun, IsClashFree}
use Rattle.taxi_text.specs.declared.command.BatchRequest.{BatchRequest}
use Rattle.taxi_text.specs.declared.command.Command.{Command}
use Rattle.taxi_text.specs.declared.command.Command.TheVariants as command
use Rattle.taxi_text.specs.Commands.{command_of}
use Rattle.taxi_text.specs.Lines.{commands_of}
use Rattle.taxi_io.specs.Counts.{Rose}
use Rattle.taxi_io.specs.Files.{Files}
use Rattle.taxi_io.specs.Written.{Grew, GrewInPart}
use Rattle.replies.specs.declared.block.Block.{Block}
use Rattle.replies.specs.declared.block.Block.TheVariants.{Refused, Route, NoRoute, Batch}
use Rattle.replies.specs.declared.entries.Entry.{Entry}
use Rattle.replies.specs.declared.wish.Wish.{Wish}
use Rattle.replies.specs.Asked.{asked_in}
use Rattle.replies.specs.Batches.{wishes_of, IsNoDearer}
use Rattle.replies.specs.Refusals.{first_refusal}
use Rattle.replies.specs.Repairs.{TellsRepair}
use Rattle.replies.specs.Replies.{IsReply}
use Rattle.replies.specs.Passes.{IsPassed}
use Rattle.replies.specs.Sought.{Sought, sought_of, IsWalkFor}
use Rattle.replies.specs.Turns.{Turn, told_in, turns_of}
use Rattle.program_files.specs.declared.status.Status.{Status}
use Rattle.program_files.specs.declared.status.Status.TheVariants.{Done, WriteFault, Memory}
use Rattle.program_words.specs.Verb.{FileNames}
use Rattle.transcripts.specs.Runs.{InTurn, transcript}
use Rattle.transcript_check.specs.Checks.{IsRight}
use Rattle.program_files.specs.Inputs.{AreAccepted}
use Rattle.taxi_cli.specs.Endings.{Call}

-- a block that tells that there is no route
abbrev pub TellsNoRoute : Block → Type 0
TellsNoRoute (NoRoute labels) = ⊤
TellsNoRoute _ = ⊥

-- The best of the walks that a search seeks, each of which is feasible among the commitments then standing, but for the
-- flight's own, and begins and ends as is asked (`IsWalkFor`). An arrival's route is one of them, and no feasible walk ends
-- earlier. A departure's is one, and none pushes back later. The second that is told is that end, or that pushback.
abbrev pub IsBestWalk : Request → (List Step → Type 0) → ℕ → List Step → Type 0
IsBestWalk request.Filed IsOne second steps = ⊥
IsBestWalk (request.Arrival from to asked hold) IsOne second steps = EndsEarliest IsOne steps × (end_of steps ≡ second)
IsBestWalk (request.Departure from to asked queue) IsOne second steps = BeginsLatest IsOne steps × (begin_of steps ≡ second)

-- one search
pub record AnswersSearch (turn : Turn) : Type 0 where
  -- a route is best
  pub best : (name : List ℕ) → (second : ℕ) → (steps : List Step) → (labels : List LabelRow) → turn.told ≡ Route name second steps labels → IsBestWalk turn.sought.request (IsWalkFor turn.sought) second steps
  -- no-route comes exactly when no feasible walk exists
  pub no_route : TellsNoRoute turn.told ↔ ((steps : List Step) → IsWalkFor turn.sought steps → ⊥)

-- each flight that had begun by a time is in force afterwards, with the arcs and enters of the steps that it had entered
abbrev pub KeepEntered : State → ℕ → State → Type 0
KeepEntered state time after =
    (flight : Flight) → Contains state.flights flight → (begun : Step) → step_begun time flight.steps ≡ Some begun
    → (now : Flight) × Contains after.flights now × (now.name ≡ flight.name) × KeepsEntered time flight.steps now.steps

-- requests are served in an order that is no dearer than the given one, and that no exchange of neighbours makes cheaper
pub record IsServedNoDearer (airport : Airport) (state : State) (requests : List BatchRequest) (block : Block) (after : State) : Type 0 where
  pub wishes : List Wish
  pub known : wishes_of airport requests ≡ Some wishes
  pub total : ℕ
  pub entries : List (List ℕ × Entry)
  pub block_is : block ≡ Batch total entries
  pub no_dearer : IsNoDearer airport state wishes total entries after

-- one command in its turn
pub record AnswersCommand (airport : Airport) (state : State) (line : List ℕ) (block : Block) (after : State) : Type 0 where
  -- the block is the reply that is due, or that memory ran out, which leaves the state
  pub answers : IsReply airport state line block after
  -- each of its searches is answered, in the state that those before it leave
  pub searches : All AnswersSearch (turns_of airport state line block)
  -- and each route, or that there is none, answers one of them
  pub all_told : map (λ turn. turn.told) (turns_of airport state line block) ≡ told_in block
  -- a command that seeks a walk, is refused nothing and finds memory has it searched for
  pub searched : (command : Command) → command_of line ≡ Some command → first_refusal airport state command ≡ None
      → (sought : Sought) → sought_of airport state command ≡ Some sought → (block ≡ Refused refusal.Memory → ⊥)
      → turns_of airport state line block ≡ record { sought = sought; told = block } ∷ []
  -- so is each request of a batch that is refused nothing and finds memory, once and in some order, which is no dearer than the given one
  pub batched : (requests : List BatchRequest) → command_of line ≡ Some (command.Batch requests) → first_refusal airport state (command.Batch requests) ≡ None
      → (block ≡ Refused refusal.Memory → ⊥)
      → IsPermutation (map (λ turn. turn.sought.name) (turns_of airport state line block)) (map (λ request. (asked_in request).flight) requests)
      × IsServedNoDearer airport state requests block after
  -- so are the flight that is late and those in its way, in turn; who asked for nothing is dropped
  pub repaired : (name : List ℕ) → (time until : ℕ) → command_of line ≡ Some (command.Late name time until) → first_refusal airport state (command.Late name time until) ≡ None
      → (block ≡ Refused refusal.Memory → ⊥) → TellsRepair airport state name time until block
  -- what a flight had entered by the time of a late one, it keeps
  pub entered : (name : List ℕ) → (time until : ℕ) → command_of line ≡ Some (command.Late name time until) → KeepEntered state time after
  -- no two aircraft hold conflicting segments at one moment
  pub clash_free : IsClashFree airport after
  -- the checker accepts the block
  pub passes : IsPassed airport state line block after

-- the transcript answers each command in turn, from no flight in force, and the checker accepts it
pub record AnswersAll (airport : Airport) (commands : List (List ℕ)) (text : List ℕ) : Type 0 where
  pub blocks : List Block
  pub after : State
  pub in_turn : InTurn AnswersCommand airport no_holder commands blocks after
  pub clash_free_at_first : IsClashFree airport no_holder
  pub whole : text ≡ transcript airport blocks
  pub accepted : IsRight airport commands text blocks

-- the transcript of the commands of the files
pub record IsWholeAnswer (told : Option Files) (names : FileNames) (text : List ℕ) : Type 0 where
  pub airport : Airport
  pub commands : List ℕ
  pub accepted : AreAccepted told names airport commands
  pub answers : AnswersAll airport (commands_of commands) text

-- With `Done` the sink has grown by exactly such a transcript, whatever calls failed. Where the shelf tells its files, the airport
-- is accepted and the commands are within their limit, and no call of the shelf failed, the call ends so, or for a failed write or
-- for want of memory with a front of such a transcript.
pub record Headline (call : Call) (names : FileNames) (ended : Status) : Type 0 where
  pub done : ended ≡ Done → (text : List ℕ) × IsWholeAnswer call.files names text × Grew call.taken.0 call.taken.1 text
  pub ends : (files : Files) → call.files ≡ Some files → (airport : Airport) → (commands : List ℕ) → AreAccepted call.files names airport commands
      → (Rose call.reads.0 call.reads.1 → ⊥)
      → (ended ≡ Done) ⊎ (((ended ≡ WriteFault) ⊎ (ended ≡ Memory)) × ((text : List ℕ) × IsWholeAnswer call.files names text × GrewInPart call.taken.0 call.taken.1 text))
