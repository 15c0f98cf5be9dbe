-- What do the words after the program's name ask for, and which files do they name?
use Rattle.std.specs.Prelude.{◌≡◌, ◌⊎◌, ℕ, ◌&&◌, nat_le, List, [], ◌∷◌, codes, bytes_eq, Option, Some, None, if◌then◌else◌}
use Rattle.taxi_text.specs.Commands.{◌>>=◌}
use Rattle.taxi_text.specs.Fields.{number_of}

-- the names of the two files of a run, or of an import
pub record FileNames : Type 0 where
  pub airport : List ℕ
  -- the command file; of an import the schedule
  pub commands : List ℕ

-- the numbers of which traffic is made: from which number all is drawn, how many nodes a side of the airport has, and how many
-- flights there are
pub record Traffic : Type 0 where
  pub number : ℕ
  pub side : ℕ
  pub flights : ℕ

-- what is asked for: a run over commands, the check of a run's transcript, a run over made traffic, an airport's canonical text,
-- or the commands of a schedule
pub data Verb : Type 0 where
  Route : FileNames → Verb
  Check : FileNames → (transcript : List ℕ) → Verb
  Generate : Traffic → Verb
  Migrate : List ℕ → Verb
  Import : FileNames → Verb

-- what a verb and one more word ask for
abbrev pub asked_of_one : List ℕ → List ℕ → Option Verb
asked_of_one verb airport = if bytes_eq verb (codes "migrate") then Some (Migrate airport) else None

-- what a verb and two more words ask for
abbrev pub asked_of_two : List ℕ → List ℕ → List ℕ → Option Verb
asked_of_two verb airport second =
    if bytes_eq verb (codes "route") then Some (Route (record { airport = airport; commands = second }))
    else (if bytes_eq verb (codes "import") then Some (Import (record { airport = airport; commands = second }))
    else None)

-- the traffic of three numbers, where its airport has 2 to 40 nodes a side, and there are at most 2,000 flights
abbrev pub traffic_in_range : ℕ → ℕ → ℕ → Option Traffic
traffic_in_range number side flights =
    if nat_le 2 side && nat_le side 40 && nat_le flights 2000 then Some (record { number = number; side = side; flights = flights })
    else None

-- the same of three words
abbrev pub traffic_of : List ℕ → List ℕ → List ℕ → Option Traffic
traffic_of number side flights =
    number_of number >>= (λ number. number_of side >>= (λ side. number_of flights >>= (λ flights. traffic_in_range number side flights)))

-- what a verb and three more words ask for
abbrev pub asked_of_three : List ℕ → List ℕ → List ℕ → List ℕ → Option Verb
asked_of_three verb first second third =
    if bytes_eq verb (codes "check") then Some (Check (record { airport = first; commands = second }) third)
    else (if bytes_eq verb (codes "generate") then traffic_of first second third >>= (λ traffic. Some (Generate traffic))
    else None)

-- what the words ask for; none for words of no form
abbrev pub asked_by : List (List ℕ) → Option Verb
asked_by (verb ∷ airport ∷ []) = asked_of_one verb airport
asked_by (verb ∷ airport ∷ second ∷ []) = asked_of_two verb airport second
asked_by (verb ∷ first ∷ second ∷ third ∷ []) = asked_of_three verb first second third
asked_by _ = None

-- the words name a file so
abbrev pub IsNamed : Option Verb → List ℕ → Type 0
IsNamed None name = ⊥
IsNamed (Some (Route names)) name = (name ≡ names.airport) ⊎ (name ≡ names.commands)
IsNamed (Some (Check names transcript)) name = ((name ≡ names.airport) ⊎ (name ≡ names.commands)) ⊎ (name ≡ transcript)
IsNamed (Some (Generate traffic)) name = ⊥
IsNamed (Some (Migrate airport)) name = name ≡ airport
IsNamed (Some (Import names)) name = (name ≡ names.airport) ⊎ (name ≡ names.commands)
