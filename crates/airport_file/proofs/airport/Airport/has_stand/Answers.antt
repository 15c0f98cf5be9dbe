use Rattle.std.proofs.Common.{◌∙◌, sym}
use Rattle.taxi_base.proofs.AirportLaws.{node_named-exists}
use Rattle.airport_file.proofs.airport.Airport.has_stand.Goals as goal

pub is_stand-requires : goal.is_stand-requires
is_stand-requires c = node_named-exists c.args.self.now c.args.name.now c.in-Some.node (sym c.node_named.ensures ∙ c.in-Some.is)
