use Rattle.taxi_base.proofs.AirportLaws.{arc_exists-segment}
use Rattle.block_writer.proofs.line_buffer.LineBuffer.put_arc.Goals as goal

pub segment_name-requires : goal.segment_name-requires
segment_name-requires c = rw c.segment.ensures (arc_exists-segment c.args.airport.now c.args.arc c.requires.exists)
