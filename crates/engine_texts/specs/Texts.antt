-- Which texts tell of a session? Each is what the program of tools writes of the same commands at the same airport.
use Rattle.std.specs.Prelude.{if◌then◌else◌, ◌==◌, ◌≡◌, [], ℕ, List, Option, Some, None, MatchOption, length}
use Rattle.taxi_base.specs.Airport.{Airport}
use Rattle.taxi_base.specs.State.{State}
use Rattle.civil_times.specs.Later.{is_start}
use Rattle.replies.specs.declared.block.Block.{Block}
use Rattle.replies.specs.Printable.{IsPrintable}
use Rattle.replies.specs.Texts.{block_text}
use Rattle.command_run.specs.Supplied.{IsSuppliedRun}
use Rattle.reply_json.specs.Lines.{object_line}
use Rattle.plan_table.specs.Plan.{IsPlan}
use Rattle.run_figures.specs.Figures.{IsFigures}
use Rattle.checkpoint_file.specs.Lines.{checkpoint_text}
use Rattle.reply_reasons.specs.declared.reason.Reason.{Reason}
use Rattle.reply_reasons.specs.Explained.{IsExplained}
use Rattle.reply_reasons.specs.Text.{reasons_text}
use Rattle.engine_texts.specs.Log.{last_of}
use Rattle.engine_texts.specs.Session.{SessionState}

-- the object of a line, the text of whose block is the engine's reply; so many commands were answered, and the line has this number
pub record IsObjectOf (session : SessionState) (number count : ℕ) (line text : List ℕ) : Type 0 where
  pub block : Block
  pub printable : IsPrintable session.engine.airport block
  pub reply : session.engine.reply ≡ block_text session.engine.airport block
  pub whole : text ≡ object_line session.engine.airport count number line block

-- the object of the last command, or nothing before the first
pub record IsObject (session : SessionState) (number : ℕ) (text : List ℕ) : Type 0 where
  pub commands : List (List ℕ)
  pub logged : session.log ≡ Some commands
  pub object : MatchOption (last_of commands) (text ≡ []) (λ line. IsObjectOf session number (length commands) line text)

-- The start that a text names, and no start where it is empty. None where it is no civil time of a year before 2999.
abbrev pub start_in : List ℕ → Option (Option (List ℕ))
start_in text = if length text == 0 then Some None else if is_start text then Some (Some text) else None

-- the plan of what is in force, under the start if one is named
pub record IsPlanText (session : SessionState) (start text : List ℕ) : Type 0 where
  pub named : Option (List ℕ)
  pub named_in : start_in start ≡ Some named
  pub plan : IsPlan session.engine.airport session.engine.state named text

-- the figures of the run over all commands, in which memory ran out for none of them, and which left in force what the engine has
pub record AreFigures (session : SessionState) (text : List ℕ) : Type 0 where
  pub commands : List (List ℕ)
  pub logged : session.log ≡ Some commands
  pub run : IsSuppliedRun session.engine.airport commands session.engine.state
  pub figures : IsFigures session.engine.airport run.blocks session.engine.state text

-- what is in force, as a command file
abbrev pub IsCheckpoint : SessionState → List ℕ → Type 0
IsCheckpoint session text = text ≡ checkpoint_text session.engine.airport session.engine.state

-- why a line that is given to these holders is answered as it is
pub record IsReasonsText (airport : Airport) (state : State) (line text : List ℕ) : Type 0 where
  pub reasons : List Reason
  pub explained : IsExplained airport state line reasons
  pub whole : text ≡ reasons_text airport reasons

-- Why a line is answered as it is if it comes next. It is given to what the run over all commands leaves in force, in which memory ran out for
-- none of them.
pub record IsExplanation (session : SessionState) (line text : List ℕ) : Type 0 where
  pub commands : List (List ℕ)
  pub logged : session.log ≡ Some commands
  pub before : State
  pub run : IsSuppliedRun session.engine.airport commands before
  pub told : IsReasonsText session.engine.airport before line text
