use Rattle.std.proofs.Common.{◌+◌, ◌≤◌}
use Rattle.taxi_base.specs.Airport.{segment_of, seconds}
use Rattle.taxi_base.proofs.AirportLaws.{arc_exists-segment}
use Rattle.taxi_base.proofs.WalkLaws.{IsSomeAnd-value}
use Rattle.plan_table.proofs.RowLaws.{class-there, arc-at}
use Rattle.plan_table.proofs.row.step_row.Goals as goal

pub class_name-requires : goal.class_name-requires
class_name-requires c =
    let airport = c.args.airport.now in
    let flight = c.args.flight.now in
    let step = c.args.step.now in
    let known = IsSomeAnd-value (seconds airport flight.class (segment_of step.arc)) (λ n. step.enter + n ≤ step.leave) c.requires.lasts in
    class-there airport flight.class (segment_of step.arc) known.0 known.1

pub tail_of-requires : goal.tail_of-requires
tail_of-requires c = arc-at c.args.airport.now c.args.flight.now.steps 0 c.first_arc.result c.requires.arcs (rw c.as_slice-steps.ensures at c.first_arc.ensures)

pub head_of-requires : goal.head_of-requires
head_of-requires c = arc-at c.args.airport.now c.args.flight.now.steps _ c.last_arc.result c.requires.arcs (rw c.as_slice-steps.ensures at c.last_arc.ensures)

pub segment_name-requires : goal.segment_name-requires
segment_name-requires c = rw c.segment-segment.ensures (arc_exists-segment c.args.airport.now c.args.step.now.arc c.requires.arc)
