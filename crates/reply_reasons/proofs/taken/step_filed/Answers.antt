use Rattle.std.proofs.Common.{◌≡◌, ◌∙◌, ◌-◌, Some, None, sym, ap, arith}
use Rattle.std.specs.Prelude.{slice_get}
use Rattle.std.proofs.lemmas.Grind.{common_steps}
use Rattle.std.proofs.lemmas.Option.{gets}
use Rattle.reply_reasons.specs.Taken.{entered}
use Rattle.reply_reasons.proofs.TakenLaws.{no-pair, no-arc, the-step}
use Rattle.reply_reasons.proofs.taken.step_filed.Goals as goal

pub returns-in_err-pair : goal.returns-in_err-pair
returns-in_err-pair c =
    let past : slice_get c.args.filed.now.steps (c.args.number - 1) ≡ None = grind (arith, common_steps, gets, c.in_err-pair.ensures.lookup, c.as_slice.ensures, c.saturating_sub-place.ensures) in
    no-pair c.args.airport.now c.args.filed.now (c.args.number - 1) past c.from_residual.result c.from_residual.ensures

pub returns-in_err-arc : goal.returns-in_err-arc
returns-in_err-arc c =
    let found : slice_get c.args.filed.now.steps (c.args.number - 1) ≡ Some c.in_ok-pair.pair.now = grind (arith, common_steps, gets, c.in_ok-pair.ensures.lookup, c.as_slice.ensures, c.saturating_sub-place.ensures) in
    no-arc c.args.airport.now c.args.filed.now (c.args.number - 1) c.in_ok-pair.pair.now found (sym c.in_err-arc.ensures) c.requires
    (λ steps. c.from_residual-in_err-arc.result ≡ slice_get steps (c.args.number - 1))

pub returns : goal.returns
returns c =
    let found : slice_get c.args.filed.now.steps (c.args.number - 1) ≡ Some c.in_ok-pair.pair.now = grind (arith, common_steps, gets, c.in_ok-pair.ensures.lookup, c.as_slice.ensures, c.saturating_sub-place.ensures) in
    the-step c.args.airport.now c.args.filed.now (c.args.number - 1) c.in_ok-pair.pair.now c.in_ok-arc.arc found (sym c.in_ok-arc.ensures) c.entered.result
    (c.entered.ensures ∙ ap (entered c.args.filed.now) c.saturating_sub-place.ensures)
