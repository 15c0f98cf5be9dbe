-- The plan has the sets of its airport.
use Rattle.std.proofs.Common.{refl}
use Rattle.airport_rules.proofs.AirportViews.{length-segments}
use Rattle.airport_file.proofs.airport.Airport.conflicts.Goals as goal

pub returns : goal.returns
returns c =
    rw (← c.self.view_is, c.self.invariant.conflicts)
    (rw (length-segments c.self.inside.horizon c.self.inside.plan c.self.invariant.sound.links) refl)
