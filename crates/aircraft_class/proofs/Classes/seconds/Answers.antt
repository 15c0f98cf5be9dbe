-- A place of a class's row.
use Rattle.std.proofs.Common.{get_or, None, ◌∙◌, ap}
use Rattle.taxi_base.specs.Airport.{seconds_in}
use Rattle.aircraft_class.proofs.Tables.{place-range}
use Rattle.aircraft_class.proofs.Classes.seconds.Goals as goal

pub returns-clause-set : goal.returns-clause-set
unfolding seconds_in
returns-clause-set c = c.time_in.ensures ∙ ap (λ row. get_or row c.args.segment.0 None) c.times.ensures.row

pub returns-clause-range : goal.returns-clause-range
returns-clause-range c = rw c.time_in.ensures (place-range c.times.result.now c.args.segment.0 c.times.ensures.range)
