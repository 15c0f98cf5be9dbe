use Rattle.taxi_base.specs.Windows.{holds_of}
use Rattle.window_store.proofs.Seconds.{first-both}
use Rattle.window_store.proofs.still_held.StillHeldHeldSeconds.first_held.Goals as goal

pub returns : goal.returns
returns g c =
    let self = c.args.self.now in
    first-both self.conflicts.now.sets self.segment (g.R.OtherHolds.holds self.remaining.now) (holds_of self.term.horizon self.term.clearance self.later.now) c.args.from c.args.until c.first_held-others.result c.first_in.result
    c.first_held-others.ensures c.first_in.ensures
