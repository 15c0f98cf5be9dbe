use Rattle.std.proofs.Common.{ap, subst, sym, map}
use Rattle.window_store.specs.Stands.{StandsFor}
use Rattle.commitments.specs.Held.{HeldBook, hold_by, all_steps}
use Rattle.commitments.proofs.HoldRoom.{StandsFor-parted}
use Rattle.commitments.proofs.held_segments.HeldSegments.release_at_once.Goals as goal

pub release-requires-clause-stands : goal.release-requires-clause-stands
release-requires-clause-stands c =
    let airport = c.args.airport.now in
    let horizon = ap (λ (h : HeldBook). h.store.horizon) c.self.view_is in
    let stands = subst (λ (h : HeldBook). StandsFor airport.conflicts airport.horizon (map (hold_by airport) h.steps) h.store) (sym c.self.view_is) c.requires.stands in
    rw (c.conflicts.ensures, horizon, c.requires.horizon, c.clearance_after-clearance.ensures.clearance)
    (StandsFor-parted airport (all_steps c.self.inside.index) (all_steps c.remove.new.self) c.args.holder.now c.args.steps.now c.self.inside.store c.remove.ensures.steps stands)
