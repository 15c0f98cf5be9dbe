use Rattle.std.proofs.Common.{◌<◌, length, arith}
use Rattle.block_writer.proofs.WriteLaws.{one_more}
use Rattle.block_writer.proofs.line_buffer.write_group.Goals as goal

pub loop-i-preserved : goal.loop-i-preserved
loop-i-preserved g c =
    let within : c.loop-i.i < length c.args.group.now = omega (arith, c.told-group, c.loop-i-test.true) in
    one_more c.args.group.now c.args.bytes.now c.loop-i.bytes c.args.at c.loop-i.i within (omega (arith, c.requires, c.told-group, within)) c.loop-i.invariant
