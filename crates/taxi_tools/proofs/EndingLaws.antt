-- How a call ends whose files are read whole before anything is written.
use Rattle.std.proofs.Common.{◌≡◌, ◌≤◌, [], ◌∷◌, inl, inr, ℕ, List, Option, Some, None, Result, Ok, Err, IfOk, IfErr, refl, sym, ◌∙◌, ap}
use Rattle.std.specs.Prelude.{⊤, MatchOption, MatchResult}
use Rattle.taxi_io.specs.Counts.{Rose}
use Rattle.taxi_io.specs.Files.{Files, BeganMore}
use Rattle.taxi_io.specs.Written.{Output}
use Rattle.taxi_io.specs.declared.trouble.Trouble.TheVariants as trouble
use Rattle.taxi_io.proofs.Pieces.{grew-nothing, handed-nothing}
use Rattle.command_run.specs.HowFar.{Told}
use Rattle.program_words.specs.Verb.{FileNames, Route}
use Rattle.program_files.specs.declared.status.Status.{Status}
use Rattle.program_files.specs.declared.status.Status.TheVariants.{Done, AirportRefused, ReadFault, Memory, TooLarge, Wrong}
use Rattle.program_files.specs.Call.{Call}
use Rattle.airport_file.specs.Reading.{RecordFault}
use Rattle.program_files.specs.Inputs.{IsJudged, IsRunTooLarge, IsRunInOrder}
use Rattle.program_files.specs.LastLine.{EndsWith}
use Rattle.program_files.specs.Lines.{read_fault_line, too_large_line, refusal_line}
use Rattle.program_files.proofs.EndingLaws.{last-ends_as}
use Rattle.program_files.specs.declared.stop.Stop.{Stop}
use Rattle.program_files.specs.declared.stop.Stop.TheVariants as stop
use Rattle.program_files.specs.Stops.{IsCause, IsCauseOfAirport, StopsWith}
use Rattle.tool_words.specs.declared.words.AirportTool.{AirportTool}
use Rattle.tool_words.specs.declared.words.RunTool.{RunTool}
use Rattle.tool_words.specs.Verb.{Verb, OfAirport, OfRun, Explain, Json}
use Rattle.taxi_tools.specs.Outcomes.{IsOfAirport, IsOfRun, IsOfCommand, LacksCommand, no_command_line, IsDoneText}
use Rattle.taxi_tools.specs.Reads.{IsRefused, IsTooLarge}
use Rattle.taxi_tools.specs.Halts.{IsFaultText, IsLargeText}
use Rattle.taxi_tools.specs.Endings.{IsDueText, Ends, IsInOnePiece}
use Rattle.taxi_tools.specs.Handed.{IsHandedOver}
use Rattle.taxi_tools.specs.CarriedOut.{IsCarriedOut}

-- the verbs whose files are read whole before anything is written
abbrev pub ReadsWhole : Verb → Type 0
ReadsWhole (Json names) = ⊥
ReadsWhole asked = ⊤

-- ---- what stops the reading

-- what is true where the reading is stopped, by what a refused airport is and a file that is too large
abbrev pub IsCauseBy : (RecordFault → Type 0) → Type 0 → ℕ × ℕ → Stop → Type 0
IsCauseBy Refused Large reads (stop.Refused at why) = Refused (record { at = at; why = why })
IsCauseBy Refused Large reads stop.ReadFault = Rose reads.0 reads.1
IsCauseBy Refused Large reads stop.TooLarge = Large
IsCauseBy Refused Large reads stop.Memory = ⊤

abbrev pub IsCauseFor : Option Files → Verb → ℕ × ℕ → Stop → Type 0
IsCauseFor told asked = IsCauseBy (IsRefused told asked) (IsTooLarge told asked)

airport-cause : (told : Option Files) (airport : List ℕ) (tool : AirportTool) (reads : ℕ × ℕ) (why : Stop) → IsCauseOfAirport told airport reads why → IsCauseFor told (OfAirport airport tool) reads why
airport-cause told airport tool reads (stop.Refused at why) cause = cause
airport-cause told airport tool reads stop.ReadFault cause = cause
airport-cause told airport tool reads stop.TooLarge cause = cause
airport-cause told airport tool reads stop.Memory cause = cause

-- of the two files of a run
abbrev pub IsCauseOfRun : Option Files → FileNames → ℕ × ℕ → Stop → Type 0
IsCauseOfRun told names = IsCauseBy (λ fault. IsJudged told names.airport (Err fault)) (IsRunTooLarge told names)

run-cause : {Text : Type 0} (told : Option Files) (names : FileNames) (reads : ℕ × ℕ) (output : Result Text Stop) → IfErr output (IsCause told (Route names) reads) → IfErr output (IsCauseOfRun told names reads)
run-cause told names reads (Ok text) cause = tt
run-cause told names reads (Err (stop.Refused at why)) cause = cause
run-cause told names reads (Err stop.ReadFault) cause = cause
run-cause told names reads (Err stop.TooLarge) cause = cause
run-cause told names reads (Err stop.Memory) cause = cause

fault-text : (told : Option Files) (asked : Verb) → IsFaultText told asked read_fault_line
fault-text told (OfAirport airport tool) = refl
fault-text told (OfRun names tool) = refl
fault-text told (Explain names number) = refl
fault-text told (Json names) = inl refl

large-text : (told : Option Files) (asked : Verb) → ReadsWhole asked → IsTooLarge told asked → IsLargeText told asked too_large_line
large-text told (OfAirport airport tool) whole large = (large, refl)
large-text told (OfRun names tool) whole large = (large, refl)
large-text told (Explain names number) whole large = (large, refl)
large-text told (Json names) whole large = absurd whole

stop-ends : (call : Call) (asked : Verb) (why : Stop) (ended : Status) → ReadsWhole asked → IsCauseFor call.files asked call.reads why → StopsWith why call.writes call.taken ended → Ends call (Some asked) ended
stop-ends call asked (stop.Refused at why) ended reads_whole cause stops =
    last-ends_as (IsDueText call (Some asked)) call.writes call.taken AirportRefused (refusal_line (record { at = at; why = why })) _ ended
    (record { at = at; why = why }, cause, refl) refl stops (λ whole. whole)
stop-ends call asked stop.ReadFault ended reads_whole cause stops =
    last-ends_as (IsDueText call (Some asked)) call.writes call.taken ReadFault read_fault_line _ ended (cause, fault-text call.files asked) refl stops (λ whole. whole)
stop-ends call asked stop.TooLarge ended reads_whole cause stops =
    last-ends_as (IsDueText call (Some asked)) call.writes call.taken TooLarge too_large_line _ ended (large-text call.files asked reads_whole cause) refl stops (λ whole. whole)
stop-ends call asked stop.Memory ended reads_whole cause stops = rw stops.0 (inl (rw stops.1 (grew-nothing call.taken.0)))

-- ---- one piece

pub written-in_one : (call : Call) (asked : Option Verb) (whole : Status) (text : List ℕ) (ended : Status) → EndsWith text whole call.writes call.taken ended
    → (whole ≡ Done → IsDueText call asked Done text) → IsInOnePiece call asked ended
written-in_one call asked whole text ended (Ok done, writing, is) due = record {
  text = text;
  handed = inr (call.taken.1, writing.handed, refl);
  done = λ e. (due (sym is ∙ e), writing.handed);
}
written-in_one call asked whole text ended (Err trouble.Failed, writing, is) due = record { text = text; handed = inl (inr writing.in_part); done = λ e. absurd (cc (is, e)) }
written-in_one call asked whole text ended (Err trouble.Memory, writing, is) due = record { text = text; handed = inl (inr writing.in_part); done = λ e. absurd (cc (is, e)) }

pub nothing-in_one : (call : Call) (asked : Option Verb) (ended : Status) → ended ≡ Memory → call.taken.1 ≡ call.taken.0 → IsInOnePiece call asked ended
nothing-in_one call asked ended memory nothing = record {
  text = [];
  handed = inl (inl (ap (λ (o : Output). o.pieces) nothing));
  done = λ e. absurd (cc (memory, e));
}

-- in whichever pieces the output is to be handed over
pub nothing-handed : (call : Call) (asked : Option Verb) (ended : Status) → ended ≡ Memory → call.taken.1 ≡ call.taken.0 → IsHandedOver call asked ended
nothing-handed call None ended memory nothing = nothing-in_one call None ended memory nothing
nothing-handed call (Some (OfAirport airport tool)) ended memory nothing = nothing-in_one call (Some (OfAirport airport tool)) ended memory nothing
nothing-handed call (Some (OfRun names tool)) ended memory nothing = nothing-in_one call (Some (OfRun names tool)) ended memory nothing
nothing-handed call (Some (Explain names number)) ended memory nothing = nothing-in_one call (Some (Explain names number)) ended memory nothing
nothing-handed call (Some (Json names)) ended memory nothing = record {
  texts = [] ∷ [];
  are = inl ([], refl);
  handed = handed-nothing call.taken.0 call.taken.1 ([] ∷ []) (ap (λ (o : Output). o.pieces) nothing);
  done = λ e. absurd (cc (memory, e));
}

stop-in_one : (call : Call) (asked : Option Verb) (why : Stop) (ended : Status) → StopsWith why call.writes call.taken ended → IsInOnePiece call asked ended
stop-in_one call asked (stop.Refused at why) ended stops = written-in_one call asked AirportRefused (refusal_line (record { at = at; why = why })) ended stops (λ e. absurd (cc e))
stop-in_one call asked stop.ReadFault ended stops = written-in_one call asked ReadFault read_fault_line ended stops (λ e. absurd (cc e))
stop-in_one call asked stop.TooLarge ended stops = written-in_one call asked TooLarge too_large_line ended stops (λ e. absurd (cc e))
stop-in_one call asked stop.Memory ended stops = nothing-in_one call asked ended stops.0 stops.1

one-handed : (call : Call) (asked : Verb) (ended : Status) → ReadsWhole asked → IsInOnePiece call (Some asked) ended → IsHandedOver call (Some asked) ended
one-handed call (OfAirport airport tool) ended reads_whole one = one
one-handed call (OfRun names tool) ended reads_whole one = one
one-handed call (Explain names number) ended reads_whole one = one
one-handed call (Json names) ended reads_whole one = absurd reads_whole

-- ---- a whole output, or what stopped it

-- a text that is due is written, or the line that says why there is none: how the call ends, and in which pieces it handed over
whole-ends : {Text : Type 0} (text : Text → List ℕ) (call : Call) (asked : Verb) (output : Result Text Stop) (ended : Status) → ReadsWhole asked
    → IfOk output (λ t. IsDoneText call.files asked (text t)) → IfErr output (IsCauseFor call.files asked call.reads)
    → MatchResult output (λ t. EndsWith (text t) Done call.writes call.taken ended) (λ why. StopsWith why call.writes call.taken ended)
    → Ends call (Some asked) ended × IsHandedOver call (Some asked) ended
whole-ends text call asked (Ok t) ended whole done cause ends = (
  last-ends_as (IsDueText call (Some asked)) call.writes call.taken Done (text t) (text t) ended done refl ends (λ whole. whole),
  one-handed call asked ended whole (written-in_one call (Some asked) Done (text t) ended ends (λ e. done)),
)
whole-ends text call asked (Err why) ended whole done cause stops = (
  stop-ends call asked why ended whole cause stops,
  one-handed call asked ended whole (stop-in_one call (Some asked) why ended stops),
)

pub airport-carried : {Text : Type 0} (text : Text → List ℕ) (call : Call) (airport : List ℕ) (tool : AirportTool) (left : FileNames → Told) (tried : List (List ℕ) × List (List ℕ)) (output : Result Text Stop) (ended : Status)
    → IfOk output (λ t. IsOfAirport call.files airport tool (text t)) → IfErr output (IsCauseOfAirport call.files airport call.reads)
    → BeganMore tried.0 tried.1 (airport ∷ []) → call.reads.0 ≤ call.reads.1 → call.writes.0 ≤ call.writes.1
    → MatchResult output (λ t. EndsWith (text t) Done call.writes call.taken ended) (λ why. StopsWith why call.writes call.taken ended)
    → IsCarriedOut call (OfAirport airport tool) left tried ended
airport-carried text call airport tool left tried output ended done cause order reads writes ends =
    let both = whole-ends text call (OfAirport airport tool) output ended tt done (caused output cause) ends in
    record { ends = both.0; handed = both.1; pace = tt; order = order; reads_later = reads; writes_later = writes }
  where
    caused : {T : Type 0} (output : Result T Stop) → IfErr output (IsCauseOfAirport call.files airport call.reads) → IfErr output (IsCauseFor call.files (OfAirport airport tool) call.reads)
    caused (Ok t) cause = tt
    caused (Err why) cause = airport-cause call.files airport tool call.reads why cause

pub run-carried : {Text : Type 0} (text : Text → List ℕ) (call : Call) (names : FileNames) (tool : RunTool) (left : FileNames → Told) (tried : List (List ℕ) × List (List ℕ)) (output : Result Text Stop) (ended : Status)
    → IfOk output (λ t. IsOfRun call.files names tool (text t)) → IfErr output (IsCause call.files (Route names) call.reads)
    → IsRunInOrder call.files names tried.0 tried.1 → call.reads.0 ≤ call.reads.1 → call.writes.0 ≤ call.writes.1
    → MatchResult output (λ t. EndsWith (text t) Done call.writes call.taken ended) (λ why. StopsWith why call.writes call.taken ended)
    → IsCarriedOut call (OfRun names tool) left tried ended
run-carried text call names tool left tried output ended done cause order reads writes ends =
    let both = whole-ends text call (OfRun names tool) output ended tt done (run-cause call.files names call.reads output cause) ends in
    record { ends = both.0; handed = both.1; pace = tt; order = order; reads_later = reads; writes_later = writes }

-- ---- why a reply is as it is

-- what a call has for the command of a number: an explanation, or no such command
abbrev pub IsFoundFor : {Text : Type 0} → (Text → List ℕ) → Call → FileNames → ℕ → Option Text → Type 0
IsFoundFor text call names number found = MatchOption found (LacksCommand call.files names number) (λ t. IsOfCommand call.files names number (text t))

-- it is written, or the line that there is none
abbrev pub EndsAsFound : {Text : Type 0} → (Text → List ℕ) → Call → ℕ → Status → Option Text → Type 0
EndsAsFound text call number ended found =
    MatchOption found (EndsWith (no_command_line number) Wrong call.writes call.taken ended) (λ t. EndsWith (text t) Done call.writes call.taken ended)

explanation-ends : {Text : Type 0} (text : Text → List ℕ) (call : Call) (names : FileNames) (number : ℕ) (output : Result (Option Text) Stop) (ended : Status)
    → IfOk output (IsFoundFor text call names number) → IfErr output (IsCauseFor call.files (Explain names number) call.reads)
    → MatchResult output (EndsAsFound text call number ended) (λ why. StopsWith why call.writes call.taken ended)
    → Ends call (Some (Explain names number)) ended × IsHandedOver call (Some (Explain names number)) ended
explanation-ends text call names number (Ok None) ended lacks cause ends = (
  last-ends_as (IsDueText call (Some (Explain names number))) call.writes call.taken Wrong (no_command_line number) (no_command_line number) ended (lacks, refl) refl ends (λ whole. whole),
  written-in_one call (Some (Explain names number)) Wrong (no_command_line number) ended ends (λ e. absurd (cc e)),
)
explanation-ends {Text} text call names number (Ok (Some t)) ended done cause ends = whole-ends text call (Explain names number) (Ok t) ended tt done tt ends
explanation-ends text call names number (Err why) ended done cause stops = (
  stop-ends call (Explain names number) why ended tt cause stops,
  stop-in_one call (Some (Explain names number)) why ended stops,
)

pub explanation-carried : {Text : Type 0} (text : Text → List ℕ) (call : Call) (names : FileNames) (number : ℕ) (left : FileNames → Told) (tried : List (List ℕ) × List (List ℕ)) (output : Result (Option Text) Stop) (ended : Status)
    → IfOk output (IsFoundFor text call names number) → IfErr output (IsCause call.files (Route names) call.reads)
    → IsRunInOrder call.files names tried.0 tried.1 → call.reads.0 ≤ call.reads.1 → call.writes.0 ≤ call.writes.1
    → MatchResult output (EndsAsFound text call number ended) (λ why. StopsWith why call.writes call.taken ended)
    → IsCarriedOut call (Explain names number) left tried ended
explanation-carried text call names number left tried output ended done cause order reads writes ends =
    let both = explanation-ends text call names number output ended done (run-cause call.files names call.reads output cause) ends in
    record { ends = both.0; handed = both.1; pace = tt; order = order; reads_later = reads; writes_later = writes }
