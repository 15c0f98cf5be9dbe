-- How may a call end, and what has it written then?
use Rattle.std.specs.Prelude.{◌≡◌, ℕ, List, Option, Some, None}
use Rattle.airport_file.specs.Reading.{RecordFault}
use Rattle.program_files.specs.declared.status.Status.{Status}
use Rattle.program_files.specs.declared.status.Status.TheVariants.{Done, Usage, AirportRefused, ReadFault, TooLarge, Wrong, ScheduleRefused}
use Rattle.program_files.specs.Call.{IsWholeAs, IsCutShortAs, EndsAs}
pub use Rattle.program_files.specs.Call.{Call, call_of}
use Rattle.program_words.specs.Usage.{usage_line}
use Rattle.program_files.specs.Lines.{refusal_line}
use Rattle.program_words.specs.Verb.{Verb}
use Rattle.taxi_cli.specs.Outcomes.{IsDoneText, IsWrongText, IsScheduleRefusedText}
use Rattle.program_files.specs.Inputs.{IsRefused, IsReadFault}
use Rattle.taxi_cli.specs.Halts.{IsFaultText, IsLargeText}

-- the whole text that a call is due to write where it ends with a status, for what its words ask for
abbrev pub IsDueText : Call → Option Verb → Status → List ℕ → Type 0
IsDueText call None Usage text = text ≡ usage_line
IsDueText call (Some asked) Done text = IsDoneText call.files asked text
IsDueText call (Some asked) AirportRefused text = (fault : RecordFault) × IsRefused call.files asked fault × (text ≡ refusal_line fault)
IsDueText call (Some asked) ReadFault text = IsReadFault asked call.reads × IsFaultText call.files asked text
IsDueText call (Some asked) TooLarge text = IsLargeText call.files asked text
IsDueText call (Some asked) Wrong text = IsWrongText call.files asked text
IsDueText call (Some asked) ScheduleRefused text = IsScheduleRefusedText call.files asked text
IsDueText call _ _ text = ⊥

-- the sink took the whole text that goes with the status
abbrev pub IsWhole : Call → Option Verb → Status → Type 0
IsWhole call asked status = IsWholeAs (IsDueText call asked) call.taken status

-- the sink took a front of what was due with some status, and not the whole
abbrev pub IsCutShort : Call → Option Verb → Type 0
IsCutShort call asked = IsCutShortAs (IsDueText call asked) call.taken

-- how a call may end
abbrev pub Ends : Call → Option Verb → Status → Type 0
Ends call asked ended = EndsAs (IsDueText call asked) call.writes call.taken ended
