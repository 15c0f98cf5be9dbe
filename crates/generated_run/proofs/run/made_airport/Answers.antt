use Rattle.generated_run.proofs.Made.{airport-made}
use Rattle.generated_run.proofs.run.made_airport.Goals as goal

pub returns : goal.returns
returns c = airport-made c.args.number c.args.side _ _ c.read_accepted.result c.as_slice.ensures.value c.in_ok-text.ensures.airport c.read_accepted.ensures
