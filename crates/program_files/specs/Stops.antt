-- Why does a call end before the first command is answered? No public clause of the program cites this file.
use Rattle.std.specs.Prelude.{◌≡◌, ◌⊎◌, ℕ, List, Option, Err, ⊤}
use Rattle.taxi_io.specs.Counts.{Rose}
use Rattle.taxi_io.specs.Files.{Files, IsLonger}
use Rattle.taxi_io.specs.Written.{Output}
use Rattle.taxi_io.specs.declared.trouble.ReadRefused.{ReadRefused}
use Rattle.taxi_io.specs.declared.trouble.ReadRefused.TheVariants as refused
use Rattle.taxi_io.specs.declared.trouble.Trouble.{Trouble}
use Rattle.taxi_io.specs.declared.trouble.Trouble.TheVariants as trouble
use Rattle.airport_file.specs.declared.read.AirportRefused.{AirportRefused}
use Rattle.airport_file.specs.declared.read.AirportRefused.TheVariants as airport
use Rattle.program_words.specs.Verb.{Verb}
use Rattle.program_files.specs.declared.status.Status.{Status}
use Rattle.program_files.specs.declared.status.Status.TheVariants as status
use Rattle.program_files.specs.LastLine.{EndsWith}
use Rattle.program_files.specs.Lines.{read_fault_line, too_large_line, refusal_line}
use Rattle.program_files.specs.declared.stop.Stop.{Stop}
use Rattle.program_files.specs.declared.stop.Stop.TheVariants.{Refused, ReadFault, TooLarge, Memory}
use Rattle.program_files.specs.Inputs.{airport_limit, IsJudged, IsRefused, IsReadFault, IsTooLarge}

-- how a file that isn't read whole ends the call
abbrev pub stop_for : ReadRefused → Stop
stop_for refused.Fault = ReadFault
stop_for refused.TooLarge = TooLarge
stop_for refused.Memory = Memory

-- how an airport file that is no airport ends the call
abbrev pub stop_for_airport : AirportRefused → Stop
stop_for_airport (airport.Bad at why) = Refused at why
stop_for_airport airport.Memory = Memory

-- how a file that can't be begun ends the call
abbrev pub stop_for_begin : Trouble → Stop
stop_for_begin trouble.Failed = ReadFault
stop_for_begin trouble.Memory = Memory

-- what is true where the airport file ends the call, by the shelf's counts of faults before and after
abbrev pub IsCauseOfAirport : Option Files → List ℕ → ℕ × ℕ → Stop → Type 0
IsCauseOfAirport told name faults (Refused at why) = IsJudged told name (Err (record { at = at; why = why }))
IsCauseOfAirport told name faults ReadFault = Rose faults.0 faults.1
IsCauseOfAirport told name faults TooLarge = IsLonger told name airport_limit
IsCauseOfAirport told name faults Memory = ⊤

-- the same where a file can't be begun
abbrev pub IsCauseOfBegin : ℕ × ℕ → Stop → Type 0
IsCauseOfBegin faults (Refused at why) = ⊥
IsCauseOfBegin faults ReadFault = Rose faults.0 faults.1
IsCauseOfBegin faults TooLarge = ⊥
IsCauseOfBegin faults Memory = ⊤

-- the same where a file that is named ends what is asked for
abbrev pub IsCause : Option Files → Verb → ℕ × ℕ → Stop → Type 0
IsCause told asked faults (Refused at why) = IsRefused told asked (record { at = at; why = why })
IsCause told asked faults ReadFault = IsReadFault asked faults
IsCause told asked faults TooLarge = IsTooLarge told asked
IsCause told asked faults Memory = ⊤

-- how a call ends whose reading was stopped: by the writing of the line that says why; want of memory writes none
abbrev pub StopsWith : Stop → ℕ × ℕ → Output × Output → Status → Type 0
StopsWith (Refused at why) faults taken ended = EndsWith (refusal_line (record { at = at; why = why })) status.AirportRefused faults taken ended
StopsWith ReadFault faults taken ended = EndsWith read_fault_line status.ReadFault faults taken ended
StopsWith TooLarge faults taken ended = EndsWith too_large_line status.TooLarge faults taken ended
StopsWith Memory faults taken ended = (ended ≡ status.Memory) × (taken.1 ≡ taken.0)

-- How a call ends whose files are read whole before anything is written: what stopped the reading, or else a text was to be written
-- that goes with a status, and its writing decided how the call ends.
abbrev pub IsReadEnd : (Status → List ℕ → Type 0) → Option Files → Verb → ℕ × ℕ → ℕ × ℕ → Output × Output → Status → Type 0
IsReadEnd IsText told asked reads writes taken ended =
    ((why : Stop) × IsCause told asked reads why × StopsWith why writes taken ended)
    ⊎ ((whole : Status) × (text : List ℕ) × IsText whole text × EndsWith text whole writes taken ended)
