-- Which table is the plan of a state?
use Rattle.std.specs.Prelude.{◌≡◌, ℕ, ◌+◌, List, [], ◌∷◌, ◌++◌, map, Option, ⊤}
use Rattle.taxi_base.specs.declared.rows.Step.{Step}
use Rattle.taxi_base.specs.declared.answers.Flight.{Flight}
use Rattle.taxi_base.specs.declared.answers.Party.{Party}
use Rattle.taxi_base.specs.Airport.{Airport}
use Rattle.taxi_base.specs.State.{State}
use Rattle.airport_text.specs.Canonical.{text_of_records}
use Rattle.plan_table.specs.declared.row.PlanRow.{PlanRow}
use Rattle.plan_table.specs.Slack.{IsStepSlack, IsPartySlack}
use Rattle.plan_table.specs.Rows.{step_row, party_row, row_fields, header_fields}

-- a row tells of a flight's step of this number, with its slack
abbrev pub IsStepRow : Airport → State → Flight → ℕ → Step → PlanRow → Type 0
IsStepRow airport state flight number step row = (slack : ℕ) × IsStepSlack airport state flight step slack × (row ≡ step_row airport flight number step slack)

-- a row tells of a work party, with its slack
abbrev pub IsPartyRow : Airport → State → Party → PlanRow → Type 0
IsPartyRow airport state party row = (slack : ℕ) × IsPartySlack airport state party slack × (row ≡ party_row airport party slack)

-- one row for each of some steps, in order, the first of which has this number
abbrev pub AreStepRows : Airport → State → Flight → ℕ → List Step → List PlanRow → Type 0
AreStepRows airport state flight number [] [] = ⊤
AreStepRows airport state flight number [] (row ∷ rows) = ⊥
AreStepRows airport state flight number (step ∷ steps) [] = ⊥
AreStepRows airport state flight number (step ∷ steps) (row ∷ rows) =
    IsStepRow airport state flight number step row × AreStepRows airport state flight (number + 1) steps rows

-- the rows of all steps of some flights, one flight after the other
abbrev pub AreFlightRows : Airport → State → List Flight → List PlanRow → Type 0
AreFlightRows airport state [] rows = rows ≡ []
AreFlightRows airport state (flight ∷ flights) rows =
    (own : List PlanRow) × (others : List PlanRow) × (rows ≡ own ++ others) × AreStepRows airport state flight 1 flight.steps own × AreFlightRows airport state flights others

-- one row for each of some work parties, in order
abbrev pub ArePartyRows : Airport → State → List Party → List PlanRow → Type 0
ArePartyRows airport state [] [] = ⊤
ArePartyRows airport state [] (row ∷ rows) = ⊥
ArePartyRows airport state (party ∷ parties) [] = ⊥
ArePartyRows airport state (party ∷ parties) (row ∷ rows) = IsPartyRow airport state party row × ArePartyRows airport state parties rows

-- The plan of a state: a header, the rows of the flights in force and then those of the work parties, each by rising names. Seconds are told
-- as such or, where a start is given, as civil times.
pub record IsPlan (airport : Airport) (state : State) (start : Option (List ℕ)) (text : List ℕ) : Type 0 where
  pub flights : List PlanRow
  pub parties : List PlanRow
  pub flight_rows : AreFlightRows airport state state.flights flights
  pub party_rows : ArePartyRows airport state state.parties parties
  pub whole : text ≡ text_of_records (header_fields ∷ map (row_fields start) (flights ++ parties))
