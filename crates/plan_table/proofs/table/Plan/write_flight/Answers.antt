use Rattle.std.proofs.Common.{◌<◌, ◌≤◌, ◌++◌, ◌∷◌, [], List, length, refl, sym, ap, subst, arith}
use Rattle.std.proofs.lemmas.List.{take_all}
use Rattle.taxi_base.specs.declared.rows.Step.{Step}
use Rattle.taxi_base.specs.State.{conditions_of}
use Rattle.taxi_base.proofs.WalkLaws.{IsFeasibleWalk-steps}
use Rattle.airport_text.proofs.RecordLaws.{and_records-none}
use Rattle.plan_table.specs.Rows.{row_fields}
use Rattle.plan_table.specs.Plan.{AreStepRows}
use Rattle.plan_table.proofs.TableLaws.{flight-walk, flight-few, step-more-at, rows-then}
use Rattle.plan_table.proofs.table.Plan.write_flight.Goals as goal

pub loop-step-init : goal.loop-step-init
loop-step-init c = record { number = refl; rows = ([], tt, sym (and_records-none _)) }

pub overflow_add-number : goal.overflow_add-number
overflow_add-number c =
    let few = flight-few c.args.self.now.airport.now c.horizon-horizon.ensures.rules c.args.self.now.ledger.now.state c.requires.fits.feasible c.args.flight.now c.requires.in_force in
    let test = c.loop-step-test.true in
    let same = ap (λ (s : List Step). length s) c.as_slice-step-items.ensures in
    let number = c.loop-step.invariant.number in
    omega (arith, few, test, same, number)

pub write_step-requires-clause-feasible : goal.write_step-requires-clause-feasible
write_step-requires-clause-feasible c =
    let each = IsFeasibleWalk-steps (conditions_of c.args.self.now.airport.now c.args.self.now.ledger.now.state c.args.flight.now) c.args.flight.now.steps
    (flight-walk c.args.self.now.airport.now c.horizon-horizon.ensures.rules c.args.self.now.ledger.now.state c.requires.fits.feasible c.args.flight.now c.requires.in_force) in
    let low : c.loop-step.step-index < length c.args.flight.now.steps = rw c.as_slice-step-items.ensures at c.loop-step-test.true in
    rw c.as_slice-step-items.ensures (each c.loop-step.step-index _ low)

pub loop-step-preserved : goal.loop-step-preserved
loop-step-preserved c =
    let before = c.loop-step.invariant.rows in
    let got = c.in_ok-write_step.ensures in
    let number = c.loop-step.invariant.number in
    record {
      number = omega (arith, number);
      rows = (
        before.0 ++ got.0 ∷ [],
        step-more-at c.args.self.now.airport.now c.args.self.now.ledger.now.state c.args.flight.now c.as_slice-step-items.result.now c.loop-step.step-index c.loop-step.number _ before.0 got.0
            c.as_slice-step-items.ensures c.loop-step-test.true number before.1 got.1,
        rows-then (row_fields c.args.self.now.start.now) _ _ _ before.0 (got.0 ∷ []) before.2 got.2,
      );
    }

pub returns : goal.returns
returns c =
    let rows = c.loop-step.invariant.rows in
    let past : length c.args.flight.now.steps ≤ c.loop-step.step-index = rw c.as_slice-step-items.ensures at c.loop-step-test.false in
    let all = take_all c.loop-step.step-index c.args.flight.now.steps past in
    (rows.0, subst (λ (s : List Step). AreStepRows c.args.self.now.airport.now c.args.self.now.ledger.now.state c.args.flight.now 1 s rows.0) all rows.1, rows.2)
