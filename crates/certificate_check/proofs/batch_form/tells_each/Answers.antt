use Rattle.std.proofs.Common.{◌∙◌, FitsSigned, w64, arith, sym}
use Rattle.std.proofs.lemmas.Int.{ints}
use Rattle.std.proofs.lemmas.Bool.{both_ways}
use Rattle.certificate_check.proofs.BatchForm.{same-number}
use Rattle.certificate_check.proofs.batch_form.tells_each.Goals as goal

pub returns-then-tells_of_each : goal.returns-then-tells_of_each
returns-then-tells_of_each c =
    let each = c.tells_of_each.ensures.each.0 c.if-tells_of_each.true in
    let fits : FitsSigned w64 c.total_of.result = omega (arith, ints, c.total_of.type_inv) in
    let same = same-number c.total_of.result c.args.total fits c.ranges.total.fits in
    rw c.from.ensures (
      λ e. (each.0, each.1, sym (same.0 e) ∙ c.total_of.ensures),
      λ tells. same.1 (c.total_of.ensures ∙ sym tells.2),
    )

pub returns-else-tells_of_each : goal.returns-else-tells_of_each
returns-else-tells_of_each c = (
  λ e. absurd (both_ways _ c.if-tells_of_each.false e),
  λ tells. c.tells_of_each.ensures.each.1 (tells.0, tells.1),
)
