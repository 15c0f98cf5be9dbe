-- How a call ends whose text was to be written.
use Rattle.std.proofs.Common.{◌≡◌, inl, inr, ℕ, List, Option, Some, refl, sym, ◌∙◌, ap, subst}
use Rattle.taxi_base.specs.Airport.{Airport}
use Rattle.taxi_text.specs.Lines.{commands_of}
use Rattle.program_files.specs.declared.status.Status.{Status}
use Rattle.program_files.specs.declared.status.Status.TheVariants.{Done, Usage, AirportRefused, ReadFault, WriteFault, Memory, TooLarge, Wrong, ScheduleRefused}
use Rattle.taxi_io.proofs.Pieces.{grew-nothing}
use Rattle.program_files.specs.Lines.{refusal_line, read_fault_line, too_large_line}
use Rattle.taxi_cli.specs.Lines.{ok_line, wrong_line}
use Rattle.transcripts.specs.Runs.{transcript}
use Rattle.taxi_io.specs.Files.{Files}
use Rattle.program_files.specs.Stops.{IsCause, StopsWith, IsReadEnd}
use Rattle.text_verbs.specs.Texts.{IsMigrateText, IsImportText}
use Rattle.program_words.specs.declared.words.Verb.{Verb as LentAsked}
use Rattle.program_words.specs.LentWords.{asked_for, asked_as}
use Rattle.program_files.specs.declared.stop.Stop.{Stop}
use Rattle.program_files.specs.declared.stop.Stop.TheVariants as stop
use Rattle.program_words.specs.Verb.{FileNames, Traffic, Verb, Route, Check, Generate, Migrate, Import, asked_by}
use Rattle.generated_run.specs.declared.summary.Summary.{Summary}
use Rattle.generated_run.specs.Summaries.{IsSummary, six_lines}
use Rattle.transcript_check.specs.declared.failure.Failure.{Failure}
use Rattle.transcript_check.specs.declared.checking.Verdict.TheVariants as verdict
use Rattle.transcript_check.specs.Verdicts.{IsVerdict}
use Rattle.program_files.specs.Inputs.{AreToCheck, IsTooLarge}
use Rattle.taxi_cli.specs.Halts.{IsFaultText, IsLargeText}
use Rattle.program_files.proofs.EndingLaws.{last-ends_as}
use Rattle.taxi_cli.specs.Endings.{Call, IsDueText, IsWhole, Ends}
use Rattle.program_files.specs.LastLine.{EndsWith}

-- the writing of a line decided the status, and the line is the text that is due
pub last-ends : (call : Call) (asked : Option Verb) (whole : Status) (text line : List ℕ) (status : Status)
    → IsDueText call asked whole text → line ≡ text → EndsWith line whole call.writes call.taken status → (IsWhole call asked whole → Ends call asked whole)
    → Ends call asked status
last-ends call asked whole text line status due same ends as_whole = last-ends_as (IsDueText call asked) call.writes call.taken whole text line status due same ends as_whole

-- the writing of what a check finds ends the call
pub right-ends : (call : Call) (names : FileNames) (transcript : List ℕ) (airport : Airport) (commands bytes : List ℕ) (count : ℕ) (line : List ℕ) (status : Status)
    → AreToCheck call.files names transcript airport commands bytes → IsVerdict airport (commands_of commands) bytes (verdict.Right count)
    → line ≡ ok_line count → EndsWith line Done call.writes call.taken status → Ends call (Some (Check names transcript)) status
right-ends call names transcript airport commands bytes count line status files right same ends =
    last-ends call (Some (Check names transcript)) Done (ok_line count) line status
    (record {
      airport = airport;
      commands = commands;
      bytes = bytes;
      files = files;
      blocks = right.0;
      right = right.1;
      trusted = right.2;
      whole = ap ok_line right.3;
    })
    same ends (λ whole. whole)

pub wrong-ends : (call : Call) (names : FileNames) (transcript : List ℕ) (airport : Airport) (commands bytes : List ℕ) (number : ℕ) (why : Failure) (line : List ℕ) (status : Status)
    → AreToCheck call.files names transcript airport commands bytes → IsVerdict airport (commands_of commands) bytes (verdict.Wrong number why)
    → line ≡ wrong_line number why → EndsWith line Wrong call.writes call.taken status → Ends call (Some (Check names transcript)) status
wrong-ends call names transcript airport commands bytes number why line status files wrong same ends =
    last-ends call (Some (Check names transcript)) Wrong (wrong_line number why) line status
    (record { airport = airport; commands = commands; bytes = bytes; files = files; number = number; why = why; wrong = wrong; whole = refl })
    same ends (λ whole. whole)

-- the writing of what comes of made traffic ends the call
pub generate-ends : (call : Call) (traffic : Traffic) (summary : Summary) (line : List ℕ) (status : Status)
    → IsSummary traffic.number traffic.side traffic.flights summary → line ≡ six_lines summary → EndsWith line Done call.writes call.taken status
    → Ends call (Some (Generate traffic)) status
generate-ends call traffic summary line status comes_to same ends =
    last-ends call (Some (Generate traffic)) Done (six_lines summary) line status
    (record { summary = summary; comes_to = comes_to; whole = refl }) same ends (λ whole. whole)

-- a verb whose files are read whole before anything is written
abbrev pub ReadsWhole : Verb → Type 0
ReadsWhole (Route names) = ⊥
ReadsWhole asked = Unit {0}

fault-line : (told : Option Files) (asked : Verb) → IsFaultText told asked read_fault_line
fault-line told (Route names) = inl refl
fault-line told (Check names transcript) = refl
fault-line told (Generate traffic) = refl
fault-line told (Migrate airport) = refl
fault-line told (Import names) = refl

large-line : (told : Option Files) (asked : Verb) → ReadsWhole asked → IsTooLarge told asked → IsLargeText told asked too_large_line
large-line told (Route names) whole large = absurd whole
large-line told (Check names transcript) whole large = (large, refl)
large-line told (Generate traffic) whole large = absurd large
large-line told (Migrate airport) whole large = (large, refl)
large-line told (Import names) whole large = (large, refl)

-- what stopped the reading ends the call
pub stop-ends : (call : Call) (asked : Verb) (why : Stop) (status : Status) → ReadsWhole asked
    → IsCause call.files asked call.reads why → StopsWith why call.writes call.taken status → Ends call (Some asked) status
stop-ends call asked (stop.Refused at why) status whole cause stops =
    last-ends call (Some asked) AirportRefused (refusal_line (record { at = at; why = why })) _ status (record { at = at; why = why }, cause, refl) refl stops (λ whole. whole)
stop-ends call asked stop.ReadFault status whole cause stops =
    last-ends call (Some asked) ReadFault read_fault_line _ status (cause, fault-line call.files asked) refl stops (λ whole. whole)
stop-ends call asked stop.TooLarge status whole cause stops =
    last-ends call (Some asked) TooLarge too_large_line _ status (large-line call.files asked whole cause) refl stops (λ whole. whole)
stop-ends call asked stop.Memory status whole cause stops = rw stops.0 (inl (rw stops.1 (grew-nothing call.taken.0)))

-- how `migrate` ends ends the call
pub migrate-ends : (call : Call) (name : List ℕ) (status : Status)
    → IsReadEnd (IsMigrateText call.files name) call.files (Migrate name) call.reads call.writes call.taken status → Ends call (Some (Migrate name)) status
migrate-ends call name status (inl (why, cause, stops)) = stop-ends call (Migrate name) why status tt cause stops
migrate-ends call name status (inr (Done, text, is, ends)) = last-ends call (Some (Migrate name)) Done text text status is refl ends (λ whole. whole)
migrate-ends call name status (inr (Usage, text, is, ends)) = absurd is
migrate-ends call name status (inr (AirportRefused, text, is, ends)) = absurd is
migrate-ends call name status (inr (ReadFault, text, is, ends)) = absurd is
migrate-ends call name status (inr (WriteFault, text, is, ends)) = absurd is
migrate-ends call name status (inr (Memory, text, is, ends)) = absurd is
migrate-ends call name status (inr (TooLarge, text, is, ends)) = absurd is
migrate-ends call name status (inr (Wrong, text, is, ends)) = absurd is
migrate-ends call name status (inr (ScheduleRefused, text, is, ends)) = absurd is

-- and how `import` does
pub import-ends : (call : Call) (names : FileNames) (status : Status)
    → IsReadEnd (IsImportText call.files names) call.files (Import names) call.reads call.writes call.taken status → Ends call (Some (Import names)) status
import-ends call names status (inl (why, cause, stops)) = stop-ends call (Import names) why status tt cause stops
import-ends call names status (inr (Done, text, is, ends)) = last-ends call (Some (Import names)) Done text text status is refl ends (λ whole. whole)
import-ends call names status (inr (ScheduleRefused, text, is, ends)) = last-ends call (Some (Import names)) ScheduleRefused text text status is refl ends (λ whole. whole)
import-ends call names status (inr (Usage, text, is, ends)) = absurd is
import-ends call names status (inr (AirportRefused, text, is, ends)) = absurd is
import-ends call names status (inr (ReadFault, text, is, ends)) = absurd is
import-ends call names status (inr (WriteFault, text, is, ends)) = absurd is
import-ends call names status (inr (Memory, text, is, ends)) = absurd is
import-ends call names status (inr (TooLarge, text, is, ends)) = absurd is
import-ends call names status (inr (Wrong, text, is, ends)) = absurd is

-- how a call ends for what the words ask for
pub asked-ends : (call : Call) (words : List (List ℕ)) (lent : LentAsked) (asked : Verb) (status : Status)
    → asked_as (Some lent) ≡ asked_by words → asked_for lent ≡ asked → Ends call (Some asked) status → Ends call (asked_by words) status
asked-ends call words lent asked status by same ends =
    subst (λ (o : Option Verb). Ends call o status) (ap (λ (a : Verb). Some a) (sym same) ∙ by) ends

-- the words ask for one thing
pub one-asked : (words : List (List ℕ)) (lent : LentAsked) (asked other : Verb) → asked_as (Some lent) ≡ asked_by words → asked_for lent ≡ asked
    → asked_by words ≡ Some other → asked ≡ other
one-asked words lent asked other by same is =
    let one : Some (asked_for lent) ≡ Some other = by ∙ is in
    let two : asked_for lent ≡ other = cc one in
    sym same ∙ two
