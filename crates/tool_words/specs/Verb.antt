-- What do the words after the program's name ask for, and which files do they name?
use Rattle.std.specs.Prelude.{◌≡◌, ◌<◌, ◌⊎◌, ◌==◌, ℕ, List, [], ◌∷◌, codes, bytes_eq, Option, Some, None, if◌then◌else◌, ⊤}
use Rattle.taxi_text.specs.Commands.{◌>>=◌}
use Rattle.taxi_text.specs.Fields.{number_of}
use Rattle.program_words.specs.Verb.{FileNames}
use Rattle.civil_times.specs.Later.{is_start}
use Rattle.tool_words.specs.declared.words.AirportTool.{AirportTool}
use Rattle.tool_words.specs.declared.words.AirportTool.TheVariants.{Graph, Lint}
use Rattle.tool_words.specs.declared.words.RunTool.{RunTool}
use Rattle.tool_words.specs.declared.words.RunTool.TheVariants.{Plan, Figures, Checkpoint}

-- What is asked for: of the airport of a file alone, that it is drawn as a graph, or what is odd about it; of a run, the plan that it leaves
-- as a table, with its times as seconds or, where a start is given, as civil times, or its figures, or what it leaves in force as a command
-- file; or why the reply to one of the commands of a run is as it is, counted from 1; or each reply of a run as a JSON object.
pub data Verb : Type 0 where
  OfAirport : (airport : List ℕ) → AirportTool → Verb
  OfRun : FileNames → RunTool → Verb
  Explain : FileNames → (number : ℕ) → Verb
  Json : FileNames → Verb

-- what a verb and one more word ask for
abbrev pub asked_of_one : List ℕ → List ℕ → Option Verb
asked_of_one verb airport =
    if bytes_eq verb (codes "graph") then Some (OfAirport airport Graph)
    else (if bytes_eq verb (codes "lint") then Some (OfAirport airport Lint) else None)

abbrev pub names_of : List ℕ → List ℕ → FileNames
names_of airport commands = record { airport = airport; commands = commands }

-- what a verb and two more words ask for
abbrev pub asked_of_two : List ℕ → List ℕ → List ℕ → Option Verb
asked_of_two verb airport commands =
    if bytes_eq verb (codes "plan") then Some (OfRun (names_of airport commands) (Plan None))
    else (if bytes_eq verb (codes "figures") then Some (OfRun (names_of airport commands) Figures)
    else (if bytes_eq verb (codes "checkpoint") then Some (OfRun (names_of airport commands) Checkpoint)
    else (if bytes_eq verb (codes "json") then Some (Json (names_of airport commands)) else None)))

-- the start that a word names; none where it names none
abbrev pub start_of : List ℕ → Option (List ℕ)
start_of word = if is_start word then Some word else None

-- a number that counts from 1; none where it is 0
abbrev pub counted_from_one : ℕ → Option ℕ
counted_from_one number = if number == 0 then None else Some number

-- the number of a command that a word names, which is any but 0
abbrev pub command_number : List ℕ → Option ℕ
command_number word = number_of word >>= counted_from_one

-- what a verb and three more words ask for: the third is a start, or the number of a command
abbrev pub asked_of_three : List ℕ → List ℕ → List ℕ → List ℕ → Option Verb
asked_of_three verb airport commands third =
    if bytes_eq verb (codes "plan") then start_of third >>= (λ start. Some (OfRun (names_of airport commands) (Plan (Some start))))
    else (if bytes_eq verb (codes "explain") then command_number third >>= (λ number. Some (Explain (names_of airport commands) number)) else None)

-- what the words ask for; none for words of no form
abbrev pub asked_by : List (List ℕ) → Option Verb
asked_by (verb ∷ airport ∷ []) = asked_of_one verb airport
asked_by (verb ∷ airport ∷ commands ∷ []) = asked_of_two verb airport commands
asked_by (verb ∷ airport ∷ commands ∷ third ∷ []) = asked_of_three verb airport commands third
asked_by _ = None

-- the words name a file so
abbrev pub IsNamed : Option Verb → List ℕ → Type 0
IsNamed None name = ⊥
IsNamed (Some (OfAirport airport tool)) name = name ≡ airport
IsNamed (Some (OfRun names tool)) name = (name ≡ names.airport) ⊎ (name ≡ names.commands)
IsNamed (Some (Explain names number)) name = (name ≡ names.airport) ⊎ (name ≡ names.commands)
IsNamed (Some (Json names)) name = (name ≡ names.airport) ⊎ (name ≡ names.commands)

-- the number of a command, where one is asked for, is not 0
abbrev pub CountsFromOne : Option Verb → Type 0
CountsFromOne (Some (Explain names number)) = 0 < number
CountsFromOne asked = ⊤
