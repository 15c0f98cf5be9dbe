use Rattle.std.proofs.Common.{sym}
use Rattle.std.proofs.lemmas.List.{take_all}
use Rattle.taxi_base.specs.declared.numbers.Segment.{Segment}
use Rattle.commitments.specs.Held.{list_of}
use Rattle.commitments.specs.Taken.{has_second}
use Rattle.commitments.proofs.FirstNamed.{lists-more, named-lists}
use Rattle.commitments.proofs.hold_index.IndexHolds.first_holder.Goals as goal

abbrev none : Segment
none = record { 0 = 0 }

pub loop-other-preserved : goal.loop-other-preserved
loop-other-preserved c =
    let self = c.args.self.now in
    rw c.first_name-first.ensures
    (lists-more (has_second self.airport.now c.args.second) (λ s. (list_of self.index.now s).steps) c.of-other-items.result.now c.loop-other.other-index none c.loop-other-test.true
    c.loop-other.first c.first_holder-own.result c.loop-other.invariant c.first_holder-own.ensures)

pub returns : goal.returns
returns c =
    let self = c.args.self.now in
    named-lists self.airport.now self.index.now c.keep_segments.ensures c.args.segment c.of-other-items.result.now (rw c.conflicts.ensures at c.of-other-items.ensures.all) c.args.second c.loop-other.first
    (rw (sym (take_all c.loop-other.other-index c.of-other-items.result.now c.loop-other-test.false)) c.loop-other.invariant)
