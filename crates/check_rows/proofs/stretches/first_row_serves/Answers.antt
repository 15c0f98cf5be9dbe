use Rattle.std.proofs.Common.{◌≡◌, Some, sym, ◌∙◌, ap}
use Rattle.taxi_base.specs.Airport.{segment_of, seconds, seconds_in}
use Rattle.taxi_base.specs.declared.numbers.Segment.{Segment}
use Rattle.aircraft_class.specs.Times.{Times}
use Rattle.check_rows.specs.Comes.{conditions_at}
use Rattle.check_rows.proofs.stretches.first_row_serves.Goals as goal

pub returns-in-Some : goal.returns-in-Some
returns-in-Some c free places good =
    let takes : seconds c.args.airport.now c.args.class (segment_of c.args.arc) ≡ Some c.in-Some.seconds =
    ap (λ (times : Times). seconds_in times.table c.args.class (segment_of c.args.arc)) (sym c.classes.ensures) ∙ ap (λ (s : Segment). seconds_in c.classes.result.now.table c.args.class s) (sym c.segment.ensures) ∙ sym c.seconds.ensures.set ∙ c.in-Some.is in
    c.first_serves.ensures (conditions_at c.args.airport.now c.args.class free) takes places good
