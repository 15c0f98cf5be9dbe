-- Which files does a call read, and what stops it?
use Rattle.std.specs.Prelude.{◌≡◌, ◌≤◌, ◌⊎◌, ℕ, List, [], ◌∷◌, length, Option, Some, None, Result, Ok, Err}
use Rattle.taxi_base.specs.Airport.{Airport}
use Rattle.taxi_io.specs.Counts.{Rose}
use Rattle.taxi_io.specs.Files.{Files, IsFile, IsLonger, BeganMore}
use Rattle.airport_file.specs.Reading.{RecordFault, airport_of}
use Rattle.program_words.specs.Verb.{FileNames, Verb, Route, Check, Generate, Migrate, Import}

-- the most bytes of an airport file, of a command file or a schedule, and of a transcript
abbrev pub airport_limit : ℕ
airport_limit = 4194304

abbrev pub commands_limit : ℕ
commands_limit = 16777216

abbrev pub transcript_limit : ℕ
transcript_limit = 268435456

-- an airport file within its limit, and what its bytes come to: an airport, or the record that breaks a rule
pub record IsJudged (told : Option Files) (name : List ℕ) (judgement : Result Airport RecordFault) : Type 0 where
  pub bytes : List ℕ
  pub file : IsFile told name bytes
  pub within : length bytes ≤ airport_limit
  pub judged : airport_of bytes ≡ judgement

-- an airport that is accepted, and a command file or a schedule within its limit
pub record AreAccepted (told : Option Files) (names : FileNames) (airport : Airport) (commands : List ℕ) : Type 0 where
  pub accepted : IsJudged told names.airport (Ok airport)
  pub file : IsFile told names.commands commands
  pub within : length commands ≤ commands_limit

-- the same, and a transcript within its limit
pub record AreToCheck (told : Option Files) (names : FileNames) (transcript : List ℕ) (airport : Airport) (commands text : List ℕ) : Type 0 where
  pub accepted : AreAccepted told names airport commands
  pub file : IsFile told transcript text
  pub within : length text ≤ transcript_limit

-- ---- what stops a call before a command is answered

-- a record of the airport file breaks a rule
abbrev pub IsRefused : Option Files → Verb → RecordFault → Type 0
IsRefused told (Route names) fault = IsJudged told names.airport (Err fault)
IsRefused told (Check names transcript) fault = IsJudged told names.airport (Err fault)
IsRefused told (Generate traffic) fault = ⊥
IsRefused told (Migrate airport) fault = IsJudged told airport (Err fault)
IsRefused told (Import names) fault = IsJudged told names.airport (Err fault)

-- a read of a file that is asked for failed, by the shelf's counts of faults before and after
abbrev pub IsReadFault : Verb → ℕ × ℕ → Type 0
IsReadFault (Generate traffic) reads = ⊥
IsReadFault _ reads = Rose reads.0 reads.1

-- the airport file is longer than its limit, or where the airport is accepted the command file or the schedule
abbrev pub IsRunTooLarge : Option Files → FileNames → Type 0
IsRunTooLarge told names =
    IsLonger told names.airport airport_limit
    ⊎ ((airport : Airport) × IsJudged told names.airport (Ok airport) × IsLonger told names.commands commands_limit)

-- a file is longer than its limit; of a check the transcript where the airport and the commands are accepted
abbrev pub IsTooLarge : Option Files → Verb → Type 0
IsTooLarge told (Route names) = IsRunTooLarge told names
IsTooLarge told (Check names transcript) =
    IsRunTooLarge told names
    ⊎ ((airport : Airport) × (commands : List ℕ) × AreAccepted told names airport commands × IsLonger told transcript transcript_limit)
IsTooLarge told (Generate traffic) = ⊥
IsTooLarge told (Migrate airport) = IsLonger told airport airport_limit
IsTooLarge told (Import names) = IsRunTooLarge told names

-- ---- which files were begun

-- Which files of a run or an import were begun, by the names that were tried before and after. The command file, or the schedule, is begun
-- only once the airport is accepted.
abbrev pub IsRunInOrder : Option Files → FileNames → List (List ℕ) → List (List ℕ) → Type 0
IsRunInOrder told names before after =
    BeganMore before after (names.airport ∷ [])
    ⊎ (((airport : Airport) × IsJudged told names.airport (Ok airport)) × BeganMore before after (names.airport ∷ names.commands ∷ []))

-- The same for any words: none for words of no form or for made traffic, and else those that the words name, in their order. A transcript is begun
-- only once the airport and the commands are accepted.
abbrev pub IsInOrder : Option Files → Option Verb → List (List ℕ) → List (List ℕ) → Type 0
IsInOrder told None before after = BeganMore before after []
IsInOrder told (Some (Route names)) before after = IsRunInOrder told names before after
IsInOrder told (Some (Check names transcript)) before after =
    IsRunInOrder told names before after
    ⊎ (((airport : Airport) × (commands : List ℕ) × AreAccepted told names airport commands)
    × BeganMore before after (names.airport ∷ names.commands ∷ transcript ∷ []))
IsInOrder told (Some (Generate traffic)) before after = BeganMore before after []
IsInOrder told (Some (Migrate airport)) before after = BeganMore before after (airport ∷ [])
IsInOrder told (Some (Import names)) before after = IsRunInOrder told names before after
