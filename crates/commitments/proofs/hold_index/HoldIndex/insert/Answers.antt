use Rattle.std.proofs.Common.{◌<◌, ◌==◌, get_or, length, refl, arith}
use Rattle.std.proofs.lemmas.Bool.{eq-eqb}
use Rattle.taxi_base.specs.declared.numbers.Segment.{Segment}
use Rattle.taxi_base.specs.declared.rows.Step.{Step}
use Rattle.taxi_base.specs.Airport.{segment_of}
use Rattle.commitments.proofs.Arranged.{count-part}
use Rattle.commitments.proofs.hold_index.HoldIndex.insert.Goals as goal

abbrev none : Step
none = record { arc = record { 0 = 0 }; enter = 0; leave = 0 }

pub insert_one-requires-clause-room : goal.insert_one-requires-clause-room
insert_one-requires-clause-room c =
    let segment : Segment = segment_of (get_or c.args.steps.now c.loop-step.step-index none).arc in
    let on : segment.0 < length c.args.self.now = c.requires.segments c.loop-step.step-index none c.loop-step-test.true in
    omega (
      arith,
      c.loop-step.invariant.2 segment,
      c.loop-step.invariant.1.capacity segment,
      c.requires.room segment on,
      count-part (λ s. (segment_of s.arc).0 == segment.0) c.args.steps.now c.loop-step.step-index none c.loop-step-test.true (eq-eqb segment.0 segment.0 refl),
    )
