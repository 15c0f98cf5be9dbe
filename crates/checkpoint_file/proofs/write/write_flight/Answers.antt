use Rattle.checkpoint_file.specs.Lines.{wish_lines, route_words}
use Rattle.checkpoint_file.proofs.Pieces.{flight-written}
use Rattle.checkpoint_file.proofs.write.write_flight.Goals as goal

pub returns : goal.returns
returns c =
    flight-written c.args.out.now.items _ _ (wish_lines c.args.airport.now c.args.flight.now c.args.flight.now.request) (route_words c.args.airport.now c.args.flight.now)
    c.in_ok-write_request.ensures c.in_ok-write_route.ensures
