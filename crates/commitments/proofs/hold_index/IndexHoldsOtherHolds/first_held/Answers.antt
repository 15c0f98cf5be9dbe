use Rattle.std.proofs.Common.{sym}
use Rattle.std.proofs.lemmas.List.{take_all}
use Rattle.commitments.proofs.Conflicts.{first-lists}
use Rattle.commitments.proofs.hold_index.IndexHoldsOtherHolds.first_held.Goals as goal

pub returns : goal.returns
returns c =
    let self = c.args.self.now in
    first-lists self.airport.now self.index.now c.keep_segments.ensures c.args.conflicts.now.sets c.args.segment c.of-other-items.result.now c.of-other-items.ensures.all c.args.from c.args.until c.loop-other.first
    (rw (sym (take_all c.loop-other.other-index c.of-other-items.result.now c.loop-other-test.false)) c.loop-other.invariant)
