-- Why a file that is not read whole ends the call.
use Rattle.std.proofs.Common.{◌≡◌, ◌≤◌, ◌++◌, ◌∙◌, ℕ, List, length, Option, Some, Result, Ok, inr, refl, sym, ap, append_assoc, arith}
use Rattle.taxi_base.specs.Airport.{Airport}
use Rattle.taxi_io.specs.Counts.{Rose}
use Rattle.taxi_io.specs.Files.{Files, IsFile, IsLonger, BeganMore}
use Rattle.taxi_io.specs.declared.trouble.ReadRefused.{ReadRefused}
use Rattle.taxi_io.specs.declared.trouble.ReadRefused.TheVariants as refused
use Rattle.airport_file.specs.Reading.{RecordFault, airport_of}
use Rattle.program_files.specs.declared.stop.Stop.{Stop}
use Rattle.program_files.specs.declared.stop.Stop.TheVariants as stop
use Rattle.program_words.specs.Verb.{FileNames, Route, Check, Migrate, Import}
use Rattle.program_files.specs.Inputs.{commands_limit, transcript_limit, IsJudged, AreAccepted}
use Rattle.program_files.specs.Stops.{stop_for, IsCause, IsCauseOfAirport}

pub commands_cause : (told : Option Files) (names : FileNames) (airport : Airport) (why : ReadRefused) (before between after : ℕ)
    → IsJudged told names.airport (Ok airport) → (why ≡ refused.TooLarge → IsLonger told names.commands commands_limit)
    → (why ≡ refused.Fault → Rose between after) → before ≤ between → IsCause told (Route names) (before, after) (stop_for why)
commands_cause told names airport refused.Fault before between after judged longer rose later = let risen = rose refl in omega arith
commands_cause told names airport refused.TooLarge before between after judged longer rose later = inr (airport, judged, longer refl)
commands_cause told names airport refused.Memory before between after judged longer rose later = tt

-- the airport file alone is asked for
pub airport_cause : (told : Option Files) (name : List ℕ) (faults : ℕ × ℕ) (why : Stop) → IsCauseOfAirport told name faults why → IsCause told (Migrate name) faults why
airport_cause told name faults (stop.Refused at why) cause = cause
airport_cause told name faults stop.ReadFault cause = cause
airport_cause told name faults stop.TooLarge cause = cause
airport_cause told name faults stop.Memory cause = cause

-- what stops the reading of a run's files stops that of an import
pub import_cause : (told : Option Files) (names : FileNames) (faults : ℕ × ℕ) (why : Stop) → IsCause told (Route names) faults why → IsCause told (Import names) faults why
import_cause told names faults (stop.Refused at why) cause = cause
import_cause told names faults stop.ReadFault cause = cause
import_cause told names faults stop.TooLarge cause = cause
import_cause told names faults stop.Memory cause = cause

pub transcript_cause : (told : Option Files) (names : FileNames) (transcript : List ℕ) (airport : Airport) (commands : List ℕ) (why : ReadRefused) (before between after : ℕ)
    → AreAccepted told names airport commands → (why ≡ refused.TooLarge → IsLonger told transcript transcript_limit)
    → (why ≡ refused.Fault → Rose between after) → before ≤ between → IsCause told (Check names transcript) (before, after) (stop_for why)
transcript_cause told names transcript airport commands refused.Fault before between after accepted longer rose later = let risen = rose refl in omega arith
transcript_cause told names transcript airport commands refused.TooLarge before between after accepted longer rose later = inr (airport, commands, accepted, longer refl)
transcript_cause told names transcript airport commands refused.Memory before between after accepted longer rose later = tt

-- some names were tried, and then others
pub began-more : (before between after names others : List (List ℕ)) → BeganMore before between names → BeganMore between after others → BeganMore before after (names ++ others)
began-more before between after names others one two = (rw one at two) ∙ append_assoc before names others

-- ---- files that are told

-- of a told airport file there is one judgement
pub one-judgement : (files : Files) (name : List ℕ) (a b : Result Airport RecordFault) → IsJudged (Some files) name a → IsJudged (Some files) name b → a ≡ b
one-judgement files name a b one two =
    let x = one.file in
    let y = two.file in
    let same : one.bytes ≡ two.bytes = cc in
    sym one.judged ∙ ap airport_of same ∙ two.judged

-- a told file within a limit has no more bytes than that
pub not-longer : (files : Files) (name bytes : List ℕ) (limit : ℕ) → IsFile (Some files) name bytes → length bytes ≤ limit → IsLonger (Some files) name limit → ⊥
not-longer files name bytes limit file within longer =
    let x = longer.1 in
    let same : bytes ≡ longer.0 = cc in
    let size = ap length same in
    let more = longer.2 in
    omega (arith, size, within, more)
