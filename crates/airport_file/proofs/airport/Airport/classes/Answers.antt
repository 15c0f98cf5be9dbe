-- The plan has the times of its airport.
use Rattle.std.proofs.Common.{refl}
use Rattle.airport_rules.proofs.AirportViews.{class_times, length-segments}
use Rattle.airport_file.proofs.airport.Airport.classes.Goals as goal

pub returns : goal.returns
returns c =
    rw (← c.self.view_is, c.self.invariant.times)
    (rw (class_times c.self.inside.horizon c.self.inside.plan, length-segments c.self.inside.horizon c.self.inside.plan c.self.invariant.sound.links) refl)
