use Rattle.std.proofs.Common.{◌∙◌, refl, sym}
use Rattle.certificate_check.proofs.late_base.cut_if_met.Goals as goal

pub returns-then-is_moved-clause-state : goal.returns-then-is_moved-clause-state
returns-then-is_moved-clause-state c = rw (sym c.is_moved.ensures ∙ c.if-is_moved.true) c.cut.ensures.state

pub returns-clause-state : goal.returns-clause-state
returns-clause-state c = rw (sym c.is_moved.ensures ∙ c.if-is_moved.false) refl
