use Rattle.std.proofs.Common.{◌*◌}
use Rattle.std.proofs.Math.Nat.{add-zero}
use Rattle.airport_text.proofs.SegmentLaws.{forward-exists}
use Rattle.plan_table.proofs.row.party_row.Goals as goal

pub tail_of-tail-requires : goal.tail_of-tail-requires
tail_of-tail-requires c = rw (c.of-arc.ensures, add-zero (2 * c.args.party.now.segment.0)) (forward-exists c.args.airport.now c.args.party.now.segment.0 c.requires.segment)
