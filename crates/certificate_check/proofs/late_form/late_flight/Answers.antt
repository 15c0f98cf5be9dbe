use Rattle.std.proofs.Common.{◌∙◌, refl, sym, ap}
use Rattle.std.specs.Prelude.{option_copied}
use Rattle.certificate_check.proofs.late_form.late_flight.Goals as goal

pub returns-in_err-flight : goal.returns-in_err-flight
returns-in_err-flight c =
    let none = sym c.flight.ensures ∙ ap option_copied c.in_err-flight.was in
    rw c.from_residual.ensures (rw none refl)
