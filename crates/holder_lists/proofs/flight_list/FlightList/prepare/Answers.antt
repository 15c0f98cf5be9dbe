-- With fewer flights than the slab has places, one is free.
use Rattle.std.proofs.Common.{length, ap, arith}
use Rattle.holder_lists.specs.Lists.{Listing}
use Rattle.holder_lists.proofs.Edits.{length-keys}
use Rattle.holder_lists.proofs.flight_list.FlightList.prepare.Goals as goal

pub returns-clause-room : goal.returns-clause-room
returns-clause-room c =
    let long = length-keys c.self.inside.flights c.self.inside.keys.items c.self.invariant.0 in
    let view = ap (λ (b : Listing). length b.flights) c.self.view_is in
    let stored = c.self.invariant.4 in
    let places = c.self.invariant.5 in
    omega (arith, long, view, stored, places, c.requires.few, c.in_ok-reserve.ensures.ok, c.in_ok-reserve.ensures.len)
