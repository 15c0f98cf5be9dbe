-- How may a call end, and what has it written then?
use Rattle.std.specs.Prelude.{◌≡◌, ℕ, List, [], ◌∷◌, Option, Some, None}
use Rattle.taxi_io.specs.Counts.{Rose}
use Rattle.taxi_io.specs.Written.{AreHandedInPart, Handed}
use Rattle.airport_file.specs.Reading.{RecordFault}
use Rattle.program_files.specs.declared.status.Status.{Status}
use Rattle.program_files.specs.declared.status.Status.TheVariants.{Done, Usage, AirportRefused, ReadFault, TooLarge, Wrong}
use Rattle.program_files.specs.Call.{Call, EndsAs}
use Rattle.program_files.specs.Lines.{refusal_line}
use Rattle.tool_words.specs.Usage.{usage_line}
use Rattle.tool_words.specs.Verb.{Verb}
use Rattle.taxi_tools.specs.Outcomes.{IsDoneText, IsWrongText}
use Rattle.taxi_tools.specs.Reads.{IsRefused}
use Rattle.taxi_tools.specs.Halts.{IsFaultText, IsLargeText}

-- the whole text that a call is due to write where it ends with a status, for what its words ask for
abbrev pub IsDueText : Call → Option Verb → Status → List ℕ → Type 0
IsDueText call None Usage text = text ≡ usage_line
IsDueText call (Some asked) Done text = IsDoneText call.files asked text
IsDueText call (Some asked) AirportRefused text = (fault : RecordFault) × IsRefused call.files asked fault × (text ≡ refusal_line fault)
IsDueText call (Some asked) ReadFault text = Rose call.reads.0 call.reads.1 × IsFaultText call.files asked text
IsDueText call (Some asked) TooLarge text = IsLargeText call.files asked text
IsDueText call (Some asked) Wrong text = IsWrongText call.files asked text
IsDueText call _ _ text = ⊥

abbrev pub Ends : Call → Option Verb → Status → Type 0
Ends call asked ended = EndsAs (IsDueText call asked) call.writes call.taken ended

-- The whole output is handed over as one piece, and again what was left of it until nothing was. A call that doesn't end with `Done` may
-- hand over nothing, or leave the piece in part.
pub record IsInOnePiece (call : Call) (asked : Option Verb) (ended : Status) : Type 0 where
  pub text : List ℕ
  pub handed : AreHandedInPart call.taken.0 call.taken.1 (text ∷ [])
  pub done : ended ≡ Done → IsDueText call asked Done text × Handed call.taken.0 call.taken.1 text
