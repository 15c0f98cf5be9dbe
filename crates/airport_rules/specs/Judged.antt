-- What a record's judging by code says of the judgement that is due.
use Rattle.std.specs.Prelude.{ℕ, ◌≡◌, List, map, Result, Ok, Err, ⊤}
use Rattle.std.specs.Borrow.{Bor}
use Rattle.airport_rules.specs.declared.faults.AirportFault.{AirportFault}
use Rattle.airport_rules.specs.declared.judging.NotTaken.{NotTaken}
use Rattle.airport_rules.specs.declared.judging.NotTaken.TheVariants.{Fault, Memory}
use Rattle.airport_rules.specs.Plan.{Plan}

-- the new plan is the one that is due, or the fault is; where memory ran out nothing is said of the plan
abbrev pub Answers : Result Plan AirportFault → Plan → Result (Unit {0}) NotTaken → Type 0
Answers due new (Ok taken) = due ≡ Ok new
Answers due new (Err (Fault why)) = due ≡ Err why
Answers due new (Err Memory) = ⊤

-- the bytes that fields point to
abbrev pub texts_of : List (Bor (List ℕ)) → List (List ℕ)
texts_of fields = map (λ f. f.now) fields
