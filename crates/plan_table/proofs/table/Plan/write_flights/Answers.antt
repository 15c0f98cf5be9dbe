use Rattle.std.proofs.Common.{◌≤◌, ◌++◌, [], List, length, refl, sym, subst}
use Rattle.std.proofs.lemmas.List.{take_all}
use Rattle.taxi_base.specs.declared.answers.Flight.{Flight}
use Rattle.airport_text.proofs.RecordLaws.{and_records-none}
use Rattle.plan_table.specs.Rows.{row_fields}
use Rattle.plan_table.specs.Plan.{AreFlightRows}
use Rattle.plan_table.proofs.TableLaws.{at-place, flight-more-at, rows-then}
use Rattle.plan_table.proofs.table.Plan.write_flights.Goals as goal

pub loop-place-init : goal.loop-place-init
loop-place-init c = ([], refl, sym (and_records-none _))

pub write_flight-requires-clause-in_force : goal.write_flight-requires-clause-in_force
write_flight-requires-clause-in_force c = at-place c.args.self.now.ledger.now.state.flights c.loop-place.place c.at.result.now c.at.ensures

pub loop-place-preserved : goal.loop-place-preserved
loop-place-preserved c =
    let before = c.loop-place.invariant in
    let got = c.in_ok-write_flight.ensures in (
      before.0 ++ got.0,
      flight-more-at c.args.self.now.airport.now c.args.self.now.ledger.now.state c.loop-place.place c.at.result.now before.0 got.0 c.at.ensures before.1 got.1,
      rows-then (row_fields c.args.self.now.start.now) _ _ _ before.0 got.0 before.2 got.2,
    )

pub returns : goal.returns
returns c =
    let rows = c.loop-place.invariant in
    let past : length c.args.self.now.ledger.now.state.flights ≤ c.loop-place.place = rw c.count-place-end.ensures.count at c.loop-place-test.false in
    let all = take_all c.loop-place.place c.args.self.now.ledger.now.state.flights past in
    (rows.0, subst (λ (f : List Flight). AreFlightRows c.args.self.now.airport.now c.args.self.now.ledger.now.state f rows.0) all rows.1, rows.2)
