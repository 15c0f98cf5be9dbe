use Rattle.std.proofs.Common.{◌≡◌, ◌∙◌, Some, sym, ap}
use Rattle.std.proofs.lemmas.Result.{IfOk-weaker}
use Rattle.taxi_base.specs.State.{flight_named, step_begun}
use Rattle.late_repair.proofs.DelayLaws.{delay-whole}
use Rattle.late_repair.proofs.repairing.delay_in.Goals as goal

pub returns : goal.returns
returns c =
    let late = c.args.late.now in
    let state = c.args.ledger.now.state in
    let x = c.unwrap-flight.result.now in
    let found : flight_named late.flight state.flights ≡ Some x = sym (rw c.unwrap-flight.ensures at c.flight.ensures) in
    let begun : step_begun late.time x.steps ≡ Some c.unwrap.result.0.now = rw c.as_slice.ensures at (rw c.unwrap.ensures at c.under_way.ensures).0 in
    let whole = delay-whole state late.flight late.time late.until c.requires.0 c.requires.1 x found c.unwrap.result.0.now begun in
    IfOk-weaker c.of.result _ _ (λ delay is. c.requires.1 ∙ ap Some (sym (is ∙ whole))) c.of.ensures
