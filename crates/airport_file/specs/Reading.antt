-- Which airport the bytes of a file give, or which record is refused and why.
use Rattle.std.specs.Prelude.{ℕ, ◌+◌, if◌then◌else◌, List, [], ◌∷◌, Option, Some, None, Result, Ok, Err, codes, bytes_eq}
use Rattle.csv.specs.Reading.{records, default_config, strip_bom}
use Rattle.taxi_base.specs.Airport.{Airport}
use Rattle.airport_rules.specs.declared.faults.AirportFault.{AirportFault}
use Rattle.airport_rules.specs.declared.faults.AirportFault.TheVariants.{FirstRow, NoHorizon}
use Rattle.airport_rules.specs.declared.version.Version.{Version}
use Rattle.airport_rules.specs.Versions.{version_named}
use Rattle.airport_rules.specs.Plan.{Plan, empty_plan, airport_of_plan}
use Rattle.airport_rules.specs.Rules.{judge}

-- a record by its number, counted from 1, and the rule that it breaks
pub record RecordFault : Type 0 where
  pub at : ℕ
  pub why : AirportFault

-- the records of a file, each the list of its fields
abbrev pub records_of : List ℕ → List (List (List ℕ))
records_of bytes = records default_config (strip_bom bytes)

-- the version that the first record says, where it is that of an airport
abbrev pub version_of : List (List ℕ) → Option Version
version_of (word ∷ number ∷ []) = if bytes_eq word (codes "taxi-airport") then version_named number else None
version_of _ = None

-- the airport of a plan to which no record comes any more; it needs a horizon
abbrev pub finished : ℕ → Plan → Option ℕ → Result Airport RecordFault
finished last plan (Some horizon) = Ok (airport_of_plan horizon plan)
finished last plan None = Err (record { at = last; why = NoHorizon })

-- what the rest of the records gives after a record of this number, if that breaks no rule
abbrev pub judged_with : ℕ → Result Plan AirportFault → (Plan → Result Airport RecordFault) → Result Airport RecordFault
judged_with at (Ok plan) rest = rest plan
judged_with at (Err why) rest = Err (record { at = at; why = why })

-- each record in turn is judged against what those before it gave, the last of which has this number
abbrev pub judged_after : Version → ℕ → Plan → List (List (List ℕ)) → Result Airport RecordFault
judged_after version last plan [] = finished last plan plan.horizon
judged_after version last plan (row ∷ rows) = judged_with (last + 1) (judge version plan row) (λ next. judged_after version (last + 1) next rows)

-- the records after the first are judged as in a file of the version that it says
abbrev pub judged_in : Option Version → List (List (List ℕ)) → Result Airport RecordFault
judged_in (Some version) rows = judged_after version 1 empty_plan rows
judged_in None rows = Err (record { at = 1; why = FirstRow })

-- the airport of the records, or the first record that breaks a rule
abbrev pub airport_of_records : List (List (List ℕ)) → Result Airport RecordFault
airport_of_records [] = Err (record { at = 1; why = FirstRow })
airport_of_records (first ∷ rows) = judged_in (version_of first) rows

unfoldable pub airport_of : List ℕ → Result Airport RecordFault
airport_of bytes = airport_of_records (records_of bytes)
