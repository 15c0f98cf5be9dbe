use Rattle.std.proofs.Common.{◌≡◌, Some, sym, ◌∙◌, ap}
use Rattle.taxi_base.specs.Airport.{segment_of, seconds, seconds_in}
use Rattle.taxi_base.specs.declared.numbers.Segment.{Segment}
use Rattle.aircraft_class.specs.Times.{Times}
use Rattle.check_rows.specs.Comes.{conditions_at}
use Rattle.table_rows.proofs.EachLaws.{same-test}
use Rattle.table_rows.proofs.ReachLaws.{begun-by_windows}
use Rattle.check_rows.proofs.starts.begun_has_row.Goals as goal

pub returns-in-Some : goal.returns-in-Some
returns-in-Some c free are =
    let takes : seconds c.args.airport.now c.args.class (segment_of c.args.begun.arc) ≡ Some c.in-Some.seconds =
    ap (λ (times : Times). seconds_in times.table c.args.class (segment_of c.args.begun.arc)) (sym c.classes.ensures) ∙ ap (λ (s : Segment). seconds_in c.classes.result.now.table c.args.class s) (sym c.segment.ensures) ∙ sym c.seconds.ensures.set ∙ c.in-Some.is in
    let conditions = conditions_at c.args.airport.now c.args.class free in
    same-test (c.windows_around_have_rows.ensures conditions (c.limits_of.ensures free))
    (begun-by_windows conditions c.args.begun c.in-Some.seconds takes c.requires.exists c.args.windows.now are c.args.table.now.bound c.args.table.now.rows.now c.args.exit_from
    c.later-value.result c.later-value.ensures)
