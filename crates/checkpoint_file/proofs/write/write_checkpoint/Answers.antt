use Rattle.checkpoint_file.proofs.Pieces.{whole-text}
use Rattle.checkpoint_file.proofs.write.write_checkpoint.Goals as goal

pub returns : goal.returns
returns c = whole-text c.args.airport.now c.args.ledger.now.state _ _ _ c.new-out.ensures.items c.in_ok-write_flights.ensures c.in_ok-write_parties.ensures
