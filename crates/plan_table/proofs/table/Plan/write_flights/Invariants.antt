use Rattle.std.proofs.Common.{◌≡◌, List, map, take}
use Rattle.airport_text.specs.Written.{and_records}
use Rattle.plan_table.specs.declared.row.PlanRow.{PlanRow}
use Rattle.plan_table.specs.Rows.{row_fields}
use Rattle.plan_table.specs.Plan.{AreFlightRows}
use Rattle.plan_table.proofs.table.Plan.write_flights.Given as goal

abbrev pub invariant-loop-place : goal.invariant-loop-place
invariant-loop-place l =
    (rows : List PlanRow) × AreFlightRows l.self.airport.now l.self.ledger.now.state (take l.place l.self.ledger.now.state.flights) rows × (l.records ≡ and_records l.initial.records (map (row_fields l.self.start.now) rows))
