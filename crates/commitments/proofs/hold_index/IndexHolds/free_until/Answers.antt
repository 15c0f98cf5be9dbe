use Rattle.std.proofs.Common.{sym}
use Rattle.std.proofs.lemmas.List.{take_all}
use Rattle.commitments.proofs.OtherHolders.{left-until}
use Rattle.commitments.proofs.hold_index.IndexHolds.free_until.Goals as goal

pub returns : goal.returns
returns c =
    let self = c.args.self.now in
    left-until self.airport.now c.args.name.now self.index.now c.keep_segments.ensures c.args.segment c.of-other-items.result.now (rw c.conflicts.ensures at c.of-other-items.ensures.all) c.args.from c.args.limit c.loop-other.first
    (rw (sym (take_all c.loop-other.other-index c.of-other-items.result.now c.loop-other-test.false)) c.loop-other.invariant)
