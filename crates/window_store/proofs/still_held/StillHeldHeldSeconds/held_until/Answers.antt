use Rattle.taxi_base.specs.Windows.{holds_of}
use Rattle.window_store.proofs.Seconds.{reaches-both, held-until}
use Rattle.window_store.proofs.still_held.StillHeldHeldSeconds.held_until.Goals as goal

pub returns : goal.returns
returns g c =
    let self = c.args.self.now in
    held-until _ c.args.from _ c.requires
    (reaches-both self.conflicts.now.sets self.segment (g.R.OtherHolds.holds self.remaining.now) (holds_of self.term.horizon self.term.clearance self.later.now) c.args.from c.held_until-others.result c.end_in.result _
    c.held_until-others.ensures c.end_in.ensures c.max.ensures)
