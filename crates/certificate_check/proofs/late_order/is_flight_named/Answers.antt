use Rattle.std.proofs.Common.{◌∙◌, sym}
use Rattle.certificate_check.proofs.BatchForm.{any-contains}
use Rattle.certificate_check.proofs.late_order.is_flight_named.Goals as goal

pub returns-then-flight_meets : goal.returns-then-flight_meets
returns-then-flight_meets c =
    let any = any-contains c.args.flight.now.name c.args.entries.now in (
      λ e other meets. any.0 (sym c.is_named.ensures ∙ e),
      λ named. c.is_named.ensures ∙ any.1 (named (sym c.is_late.ensures ∙ c.if-is_late.false) (sym c.flight_meets.ensures ∙ c.if-flight_meets.true)),
    )
