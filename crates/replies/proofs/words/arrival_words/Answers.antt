use Rattle.taxi_base.proofs.AirportLaws.{node_named-exists}
use Rattle.replies.proofs.words.arrival_words.Goals as goal

pub is_runway-requires : goal.is_runway-requires
is_runway-requires c = node_named-exists c.args.airport.now c.args.asked.now.from c.in_ok-named.named.from c.in_ok-named.ensures.named.from_known

pub is_stand-requires : goal.is_stand-requires
is_stand-requires c = node_named-exists c.args.airport.now c.args.asked.now.to c.in_ok-named.named.to c.in_ok-named.ensures.named.to_known
