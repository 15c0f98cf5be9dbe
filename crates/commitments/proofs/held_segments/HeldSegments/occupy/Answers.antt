use Rattle.std.proofs.Common.{ap, subst, sym, map}
use Rattle.window_store.specs.Stands.{StandsFor, HasRoomFor}
use Rattle.commitments.specs.Held.{HeldBook, hold_by}
use Rattle.commitments.proofs.HoldRoom.{room-for-steps}
use Rattle.commitments.proofs.held_segments.HeldSegments.occupy.Goals as goal

pub insert-requires-clause-room : goal.insert-requires-clause-room
insert-requires-clause-room c =
    let airport = c.args.airport.now in
    let stands = subst (λ (h : HeldBook). StandsFor airport.conflicts airport.horizon (map (hold_by airport) h.steps) h.store) (sym c.self.view_is) c.requires.stands in
    let room = subst (λ (h : HeldBook). HasRoomFor airport.conflicts c.args.steps.now h.store) (sym c.self.view_is) c.requires.room in
    room-for-steps airport c.self.inside.index c.self.inside.store c.args.steps.now c.keep_segments.ensures c.self.invariant stands room

pub occupy-requires-clause-stands : goal.occupy-requires-clause-stands
occupy-requires-clause-stands c =
    let airport = c.args.airport.now in
    let horizon = ap (λ (h : HeldBook). h.store.horizon) c.self.view_is in
    rw (c.conflicts.ensures, horizon, c.requires.horizon)
    (map (hold_by airport) c.args.self.now.steps, subst (λ (h : HeldBook). StandsFor airport.conflicts airport.horizon (map (hold_by airport) c.args.self.now.steps) h.store) (sym c.self.view_is) c.requires.stands)

pub returns-clause-stands : goal.returns-clause-stands
returns-clause-stands c =
    let horizon = ap (λ (h : HeldBook). h.store.horizon) c.self.view_is in
    rw (← c.self.view_is) (rw (c.conflicts.ensures, horizon, c.requires.horizon, c.clearance_after-clearance.ensures.clearance) at c.occupy.ensures.stands)
