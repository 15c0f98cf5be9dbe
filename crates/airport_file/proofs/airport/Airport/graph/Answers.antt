-- The plan has the arcs of its airport.
use Rattle.std.proofs.Common.{◌∙◌, sym}
use Rattle.airport_rules.proofs.AirportViews.{layout-plan}
use Rattle.airport_file.proofs.airport.Airport.graph.Goals as goal

pub returns : goal.returns
returns c = rw (← c.self.view_is) (c.self.invariant.graph ∙ sym (layout-plan c.self.inside.horizon c.self.inside.plan c.self.invariant.sound.kinds c.self.invariant.sound.links))
