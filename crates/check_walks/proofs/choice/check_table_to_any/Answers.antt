use Rattle.std.proofs.Common.{get_or, arith}
use Rattle.std.proofs.lemmas.List.Elements.{Contains-get_or}
use Rattle.taxi_base.specs.Walks.{conditions_among}
use Rattle.check_walks.proofs.ChoiceLaws.{no_node, arrival_any-ok, departure_any-ok}
use Rattle.check_walks.proofs.choice.check_table_to_any.Goals as goal

pub overflow_add-begin : goal.overflow_add-begin
overflow_add-begin g c =
    let short = (rw c.in-Arrival.is at c.requires.sought) (get_or c.args.sought.now.nodes.now 0 no_node) (Contains-get_or c.args.sought.now.nodes.now 0 no_node c.requires.some) in
    let time = short.1.0 in
    let hold = short.1.1 in
    omega (arith, time, hold)

pub check_arrival-requires-clause-begin : goal.check_arrival-requires-clause-begin
check_arrival-requires-clause-begin g c =
    ((rw c.in-Arrival.is at c.requires.sought) (get_or c.args.sought.now.nodes.now 0 no_node) (Contains-get_or c.args.sought.now.nodes.now 0 no_node c.requires.some)).0

pub check_departure-requires-clause-nodes : goal.check_departure-requires-clause-nodes
check_departure-requires-clause-nodes g c k d low = ((rw c.in-Departure.is at c.requires.sought) (get_or c.args.sought.now.nodes.now k d) (Contains-get_or c.args.sought.now.nodes.now k d low)).0

pub returns-in-Arrival-clause-verdict : goal.returns-in-Arrival-clause-verdict
returns-in-Arrival-clause-verdict g c =
    let conditions = conditions_among c.args.airport.now c.args.class (g.H.HoldsOf.held c.args.holds.now) in
    rw c.in-Arrival.is
    (arrival_any-ok conditions c.in-Arrival.from c.in-Arrival.to c.in-Arrival.time c.in-Arrival.hold c.args.sought.now.nodes.now c.args.bound c.args.labels.now
    c.check_arrival.result c.check_arrival.ensures.verdict)

pub returns-in-Departure-clause-verdict : goal.returns-in-Departure-clause-verdict
returns-in-Departure-clause-verdict g c =
    let conditions = conditions_among c.args.airport.now c.args.class (g.H.HoldsOf.held c.args.holds.now) in
    rw c.in-Departure.is
    (departure_any-ok conditions c.in-Departure.from c.in-Departure.to c.in-Departure.time c.in-Departure.queue c.args.sought.now.nodes.now c.args.bound c.args.labels.now
    c.check_departure.result (rw c.saturating_sub.ensures at c.check_departure.ensures.verdict))
