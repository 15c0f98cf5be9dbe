use Rattle.std.proofs.Common.{ap, length, arith}
use Rattle.holder_lists.specs.Lists.{Listing}
use Rattle.holder_lists.proofs.Edits.{length-keys}
use Rattle.holder_lists.proofs.flight_list.FlightList.count.Goals as goal

pub returns-clause-count : goal.returns-clause-count
returns-clause-count c =
    let long = length-keys c.self.inside.flights c.self.inside.keys.items c.self.invariant.0 in
    let view = ap (λ (b : Listing). length b.flights) c.self.view_is in
    let len = c.self.inside.keys.ok in
    omega (arith, long, view, len, c.len.ensures)
