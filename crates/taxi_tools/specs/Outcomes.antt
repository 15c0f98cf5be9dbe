-- Which text do the files give to what is asked for?
use Rattle.std.specs.Prelude.{◌≡◌, ◌<◌, ◌∷◌, ◌++◌, [], ℕ, List, length, codes, decimal, Option, Some, Ok}
use Rattle.taxi_base.specs.Airport.{Airport}
use Rattle.taxi_base.specs.State.{State}
use Rattle.taxi_text.specs.Lines.{commands_of}
use Rattle.taxi_io.specs.Files.{Files}
use Rattle.airport_graph.specs.Graph.{graph_text}
use Rattle.airport_lint.specs.Text.{IsAdviceText}
use Rattle.replies.specs.declared.block.Block.{Block}
use Rattle.command_run.specs.Supplied.{IsSuppliedRun, IsRunBefore}
use Rattle.plan_table.specs.Plan.{IsPlan}
use Rattle.checkpoint_file.specs.Lines.{checkpoint_text}
use Rattle.run_figures.specs.Figures.{IsFigures}
use Rattle.reply_reasons.specs.declared.reason.Reason.{Reason}
use Rattle.reply_reasons.specs.Explained.{IsExplained}
use Rattle.reply_reasons.specs.Text.{reasons_text}
use Rattle.program_words.specs.Verb.{FileNames}
use Rattle.program_files.specs.Inputs.{IsJudged, AreAccepted}
use Rattle.tool_words.specs.declared.words.AirportTool.{AirportTool}
use Rattle.tool_words.specs.declared.words.AirportTool.TheVariants.{Graph, Lint}
use Rattle.tool_words.specs.declared.words.RunTool.{RunTool}
use Rattle.tool_words.specs.declared.words.RunTool.TheVariants.{Plan, Figures, Checkpoint}
use Rattle.tool_words.specs.Verb.{Verb, OfAirport, OfRun, Explain, Json}
use Rattle.taxi_tools.specs.Objects.{AreObjects}

-- what a tool writes of an airport: the airport as a graph, or what is odd about it
abbrev pub IsAirportText : Airport → AirportTool → List ℕ → Type 0
IsAirportText airport Graph text = text ≡ graph_text airport
IsAirportText airport Lint text = IsAdviceText airport text

-- What a tool writes after a run with these blocks that leaves this in force: the plan of it, the figures of the run, or what is in force as a
-- command file.
abbrev pub IsTextAfter : Airport → List Block → State → RunTool → List ℕ → Type 0
IsTextAfter airport blocks after (Plan start) text = IsPlan airport after start text
IsTextAfter airport blocks after Figures text = IsFigures airport blocks after text
IsTextAfter airport blocks after Checkpoint text = text ≡ checkpoint_text airport after

-- what a tool writes of a run over all commands, in which memory ran out for none of them
abbrev pub IsRunText : Airport → List (List ℕ) → RunTool → List ℕ → Type 0
IsRunText airport commands tool text = (after : State) × (run : IsSuppliedRun airport commands after) × IsTextAfter airport run.blocks after tool text

-- Why the reply to the command of a number is as it is. It is explained by what the run over the commands before it leaves in force, in which
-- memory ran out for none of them.
pub record IsExplanation (airport : Airport) (commands : List (List ℕ)) (number : ℕ) (text : List ℕ) : Type 0 where
  pub before : State
  pub line : List ℕ
  pub run : IsRunBefore airport commands number (Some line) before
  pub reasons : List Reason
  pub explained : IsExplained airport before line reasons
  pub whole : text ≡ reasons_text airport reasons

-- what is written where there are fewer commands
unfoldable pub no_command_line : ℕ → List ℕ
no_command_line number = codes "no command " ++ decimal number ++ 10 ∷ []

-- what a tool writes of an airport that is accepted
pub record IsOfAirport (told : Option Files) (name : List ℕ) (tool : AirportTool) (text : List ℕ) : Type 0 where
  pub airport : Airport
  pub accepted : IsJudged told name (Ok airport)
  pub whole : IsAirportText airport tool text

-- what a tool writes of the run over a command file, at an airport that is accepted
pub record IsOfRun (told : Option Files) (names : FileNames) (tool : RunTool) (text : List ℕ) : Type 0 where
  pub airport : Airport
  pub commands : List ℕ
  pub accepted : AreAccepted told names airport commands
  pub whole : IsRunText airport (commands_of commands) tool text

-- why the reply to a command of a file is as it is, at an airport that is accepted
pub record IsOfCommand (told : Option Files) (names : FileNames) (number : ℕ) (text : List ℕ) : Type 0 where
  pub airport : Airport
  pub commands : List ℕ
  pub accepted : AreAccepted told names airport commands
  pub whole : IsExplanation airport (commands_of commands) number text

-- an accepted airport, and fewer commands than that
pub record LacksCommand (told : Option Files) (names : FileNames) (number : ℕ) : Type 0 where
  pub airport : Airport
  pub commands : List ℕ
  pub accepted : AreAccepted told names airport commands
  pub fewer : length (commands_of commands) < number

-- the whole output, where all goes well
abbrev pub IsDoneText : Option Files → Verb → List ℕ → Type 0
IsDoneText told (OfAirport airport tool) text = IsOfAirport told airport tool text
IsDoneText told (OfRun names tool) text = IsOfRun told names tool text
IsDoneText told (Explain names number) text = IsOfCommand told names number text
IsDoneText told (Json names) text = AreObjects told names text

-- the line that is written where there is no command of the number whose reply is to be explained
abbrev pub IsWrongText : Option Files → Verb → List ℕ → Type 0
IsWrongText told (Explain names number) text = LacksCommand told names number × (text ≡ no_command_line number)
IsWrongText told asked text = ⊥
