use Rattle.std.proofs.Common.{◌≡◌, ℕ, List, ◌∷◌, ◌++◌, map, Option, Result, Ok, Err, IfOk, subst}
use Rattle.taxi_base.specs.Airport.{Airport}
use Rattle.taxi_base.specs.State.{State}
use Rattle.airport_text.specs.Canonical.{text_of_records}
use Rattle.plan_table.specs.declared.row.PlanRow.{PlanRow}
use Rattle.plan_table.specs.Rows.{row_fields, header_fields}
use Rattle.plan_table.specs.Plan.{AreFlightRows, ArePartyRows, IsPlan}
use Rattle.plan_table.proofs.TableLaws.{whole-of}
use Rattle.plan_table.proofs.table.write_plan.Goals as goal

-- The rows of the work parties follow those of the flights, whose rows follow the header.
pub returns : goal.returns
returns c =
    let flights = c.in_ok-write_flights.ensures in
    let parties = c.in_ok-write_parties.ensures in
    let whole = whole-of (row_fields c.args.start.now) _ _ _ _ header_fields flights.0 parties.0 c.new-records.ensures c.in_ok-write_header.ensures flights.2 parties.2 in
    planned c.args.airport.now c.args.ledger.now.state c.args.start.now flights.0 parties.0 (λ text. text.items) c.finish.result flights.1 parties.1
    (subst (λ t. IfOk c.finish.result (λ text. text.items ≡ t)) whole c.finish.ensures)
  where
    planned : {T E : Type 0} (airport : Airport) (state : State) (start : Option (List ℕ)) (flights parties : List PlanRow) (items : T → List ℕ) (r : Result T E)
        → AreFlightRows airport state state.flights flights → ArePartyRows airport state state.parties parties
        → IfOk r (λ text. items text ≡ text_of_records (header_fields ∷ map (row_fields start) (flights ++ parties)))
        → IfOk r (λ text. IsPlan airport state start (items text))
    planned airport state start flights parties items (Ok text) are_flights are_parties e =
        record { flights = flights; parties = parties; flight_rows = are_flights; party_rows = are_parties; whole = e }
    planned airport state start flights parties items (Err why) are_flights are_parties e = e
