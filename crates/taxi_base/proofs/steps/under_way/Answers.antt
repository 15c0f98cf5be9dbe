use Rattle.std.proofs.Common.{◌≡◌, length, take, Some, None}
use Rattle.std.specs.Prelude.{MatchOption}
use Rattle.std.specs.List.{IsLastAndRest}
use Rattle.taxi_base.specs.State.{step_begun, steps_done}
use Rattle.taxi_base.proofs.UnderWay.{none-begun, last-begun, last-done}
use Rattle.taxi_base.proofs.steps.under_way.Goals as goal

pub returns : goal.returns
returns c =
    let time = c.args.time in
    let steps = c.args.steps.now in
    let n = c.entered_count.result in
    (elim c.split_last.result as
    (λ way. MatchOption way (length (take n steps) ≡ 0) (λ w. IsLastAndRest (take n steps) w.0.now w.1.now)
    → MatchOption way (step_begun time steps ≡ None) (λ w. (step_begun time steps ≡ Some w.0.now) × (steps_done time steps ≡ w.1.now))) [
      | None ↦ λ none. none-begun time steps n c.entered_count.ensures.count none
      | Some way ↦ λ last. (
        last-begun time steps n c.entered_count.ensures.count way.0.now way.1.now c.entered_count.ensures.within last,
        last-done time steps n c.entered_count.ensures.count way.0.now way.1.now c.entered_count.ensures.within last,
      )
    ]) c.split_last.ensures.cases
