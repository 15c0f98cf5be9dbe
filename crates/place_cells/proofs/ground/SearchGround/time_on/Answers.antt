use Rattle.std.proofs.Common.{get_or, None, ◌∙◌}
use Rattle.taxi_base.specs.Airport.{seconds_in}
use Rattle.place_cells.proofs.ground.SearchGround.time_on.Goals as goal

pub returns : goal.returns
unfolding seconds_in
returns c = c.time_in.ensures ∙ (λ i. get_or (c.args.self.now.timed i) (c.segment.ensures i).0 None)
