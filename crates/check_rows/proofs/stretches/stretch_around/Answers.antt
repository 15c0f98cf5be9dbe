use Rattle.std.proofs.Common.{sym, ◌∙◌, ap}
use Rattle.taxi_base.specs.Airport.{segment_of, seconds_in}
use Rattle.taxi_base.specs.declared.numbers.Segment.{Segment}
use Rattle.taxi_base.specs.Walks.{conditions_among}
use Rattle.aircraft_class.specs.Times.{Times}
use Rattle.table_rows.proofs.ServedLaws.{each-empty}
use Rattle.check_rows.proofs.stretches.stretch_around.Goals as goal

pub stretch_near-requires-clause-takes : goal.stretch_near-requires-clause-takes
stretch_near-requires-clause-takes g c =
    ap (λ (times : Times). seconds_in times.table c.args.class (segment_of c.args.arc)) (sym c.classes.ensures) ∙ ap (λ (s : Segment). seconds_in c.classes.result.now.table c.args.class s) (sym c.segment.ensures) ∙ sym c.seconds.ensures.set ∙ c.in-Some.is

pub returns-in-None-clause-served : goal.returns-in-None-clause-served
returns-in-None-clause-served g c =
    each-empty c.args.reach.way (conditions_among c.args.airport.now c.args.class (g.H.HoldsOf.held c.args.holds.now)) c.args.arc c.args.table.now.bound c.args.table.now.rows.now
