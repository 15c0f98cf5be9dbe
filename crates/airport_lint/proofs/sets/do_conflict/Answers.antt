use Rattle.std.proofs.Common.{◌≡◌, ◌∙◌, false, sym}
use Rattle.std.specs.Prelude.{◌==◌}
use Rattle.std.proofs.lemmas.Bool.{or_left}
use Rattle.taxi_base.specs.Airport.{conflict}
use Rattle.airport_lint.proofs.sets.do_conflict.Goals as goal

pub returns-then-eq : goal.returns-then-eq
unfolding conflict
returns-then-eq c = c.if-eq.true ∙ sym (or_left (c.args.one.0 == c.args.other.0) _ (sym c.eq.ensures ∙ c.if-eq.true))

pub returns-else-eq : goal.returns-else-eq
unfolding conflict
returns-else-eq c =
    let apart : (c.args.one.0 == c.args.other.0) ≡ false = sym c.eq.ensures ∙ c.if-eq.false in
    rw apart c.stand_together.ensures
