-- The set has the numbers of the arcs.
use Rattle.std.proofs.Common.{◌∙◌}
use Rattle.airport_rules.proofs.PairLaws.{contains-arcs}
use Rattle.airport_rules.proofs.plan.Plan.is_forbidden.Goals as goal

pub returns : goal.returns
returns c = rw (← c.self.view_is) (c.contains.ensures ∙ contains-arcs c.args.x.0 c.args.y.0 c.self.inside.forbidden.keys)
