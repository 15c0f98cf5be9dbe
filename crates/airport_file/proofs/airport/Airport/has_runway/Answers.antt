use Rattle.std.proofs.Common.{◌∙◌, sym}
use Rattle.taxi_base.proofs.AirportLaws.{node_named-exists}
use Rattle.airport_file.proofs.airport.Airport.has_runway.Goals as goal

pub is_runway-requires : goal.is_runway-requires
is_runway-requires c = node_named-exists c.args.self.now c.args.name.now c.in-Some.node (sym c.node_named.ensures ∙ c.in-Some.is)
