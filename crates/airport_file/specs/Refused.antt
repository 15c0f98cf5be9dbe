-- What is said of a refused record.
use Rattle.std.specs.Prelude.{ℕ, Result, Ok, Err, ⊤}
use Rattle.airport_rules.specs.declared.faults.AirportFault.{AirportFault}
use Rattle.airport_file.specs.declared.read.AirportRefused.{AirportRefused}
use Rattle.airport_file.specs.declared.read.AirportRefused.TheVariants.{Bad, Memory}

-- a fact of the record and the rule, where a record is refused
abbrev pub ForBad : {A : Type 0} → Result A AirportRefused → (ℕ → AirportFault → Type 0) → Type 0
ForBad (Ok airport) P = ⊤
ForBad (Err (Bad at why)) P = P at why
ForBad (Err Memory) P = ⊤
