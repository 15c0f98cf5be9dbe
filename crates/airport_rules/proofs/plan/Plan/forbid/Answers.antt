-- The new pair goes to its place in the order.
use Rattle.std.proofs.Common.{refl}
use Rattle.airport_rules.proofs.PairLaws.{insert-arcs}
use Rattle.airport_rules.proofs.plan.Plan.forbid.Goals as goal

pub returns-clause-ok : goal.returns-clause-ok
returns-clause-ok c =
    rw (c.in_ok-insert.ensures.keys, ← c.self.view_is)
    (rw (insert-arcs c.args.x.0 c.args.y.0 c.self.inside.forbidden.keys (rw (← c.self.view_is) at c.requires.fresh)) refl)
