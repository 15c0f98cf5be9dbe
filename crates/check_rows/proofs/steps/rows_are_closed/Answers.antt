use Rattle.std.proofs.Common.{length}
use Rattle.taxi_base.specs.Walks.{free_among}
use Rattle.check_rows.proofs.steps.rows_are_closed.Goals as goal

pub rows_are_served-closed-requires-clause-known : goal.rows_are_served-closed-requires-clause-known
rows_are_served-closed-requires-clause-known g c =
    c.take_served-served.ensures.kept (length c.args.airport.now.segments) (free_among c.args.airport.now (g.H.HoldsOf.held c.args.holds.now)) c.requires.known

pub returns-clause-known : goal.returns-clause-known
returns-clause-known g c =
    c.put_served.ensures (length c.args.airport.now.segments) (free_among c.args.airport.now (g.H.HoldsOf.held c.args.holds.now)) c.rows_are_served-closed.ensures.known
