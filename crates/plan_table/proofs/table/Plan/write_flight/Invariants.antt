use Rattle.std.proofs.Common.{◌≡◌, List, map, take}
use Rattle.airport_text.specs.Written.{and_records}
use Rattle.plan_table.specs.declared.row.PlanRow.{PlanRow}
use Rattle.plan_table.specs.Rows.{row_fields}
use Rattle.plan_table.specs.Plan.{AreStepRows}
use Rattle.plan_table.proofs.table.Plan.write_flight.Given as goal

abbrev pub invariant-loop-step : goal.invariant-loop-step
invariant-loop-step l = record {
  number : l.number ≡ l.step-index;
  rows : (rows : List PlanRow) × AreStepRows l.self.airport.now l.self.ledger.now.state l.flight 1 (take l.step-index l.flight.steps) rows
      × (l.records ≡ and_records l.initial.records (map (row_fields l.self.start.now) rows));
}
