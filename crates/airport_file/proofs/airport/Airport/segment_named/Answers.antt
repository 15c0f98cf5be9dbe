-- The plan has the names.
use Rattle.std.proofs.Common.{◌≡◌, rules}
use Rattle.std.specs.Prelude.{option_map}
use Rattle.taxi_base.specs.Airport.{segment_named}
use Rattle.airport_rules.proofs.AirportViews.{segment_names}
use Rattle.airport_file.proofs.airport.Airport.segment_named.Goals as goal

pub returns : goal.returns
unfolding segment_named
returns c =
    let found : c.map.result ≡ option_map (λ k. record { 0 = k }) c.find.result = search rules in
    rw (← c.self.view_is, segment_names c.self.inside.horizon c.self.inside.plan c.self.invariant.sound.links, ← c.segments.ensures, ← c.find.ensures.place) found
