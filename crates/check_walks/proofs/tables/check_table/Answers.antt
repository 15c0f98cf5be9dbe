use Rattle.taxi_base.specs.Walks.{conditions_among}
use Rattle.check_walks.specs.Course.{way_of}
use Rattle.check_walks.proofs.TableLaws.{can-begin, arrival-verdict}
use Rattle.check_walks.proofs.tables.check_table.Goals as goal

pub check_arrival-requires-clause-begin : goal.check_arrival-requires-clause-begin
check_arrival-requires-clause-begin g c =
    can-begin c.args.airport.now c.in-Arrival.from c.in-Arrival.time c.in-Arrival.hold (way_of c.args.sought.now.way) c.course_of-begin.result.begin c.course_of-begin.ensures.begin
    (rw c.in-Arrival.is at c.requires.sought).0 c.requires.early

pub returns-in-Arrival-clause-verdict : goal.returns-in-Arrival-clause-verdict
returns-in-Arrival-clause-verdict g c =
    let conditions = conditions_among c.args.airport.now c.args.class (g.H.HoldsOf.held c.args.holds.now) in
    rw c.in-Arrival.is
    (arrival-verdict conditions c.in-Arrival.from c.in-Arrival.to c.in-Arrival.time c.in-Arrival.hold (way_of c.args.sought.now.way) c.course_of-begin.result.begin c.course_of-begin.ensures.begin
    c.args.bound c.args.labels.now c.check_arrival.result c.check_arrival.ensures.verdict)

pub returns-in-Departure-clause-verdict : goal.returns-in-Departure-clause-verdict
returns-in-Departure-clause-verdict g c = rw c.in-Departure.is (rw c.saturating_sub.ensures at c.check_departure.ensures.verdict)
