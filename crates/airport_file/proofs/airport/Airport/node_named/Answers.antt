-- The plan has the names.
use Rattle.std.proofs.Common.{◌≡◌, rules}
use Rattle.std.specs.Prelude.{option_map}
use Rattle.taxi_base.specs.Airport.{node_named}
use Rattle.airport_rules.proofs.AirportViews.{node_names}
use Rattle.airport_file.proofs.airport.Airport.node_named.Goals as goal

pub returns : goal.returns
unfolding node_named
returns c =
    let found : c.map.result ≡ option_map (λ k. record { 0 = k }) c.find.result = search rules in
    rw (← c.self.view_is, node_names c.self.inside.horizon c.self.inside.plan c.self.invariant.sound.kinds, ← c.nodes.ensures, ← c.find.ensures.place) found
