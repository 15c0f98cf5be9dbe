use Rattle.std.proofs.Common.{length, length-drop, ap, arith}
use Rattle.block_writer.proofs.LineLaws.{has-room, number-starts}
use Rattle.block_writer.proofs.line_buffer.LineBuffer.put_last_three.Goals as goal

pub write_number-second_start-requires : goal.write_number-second_start-requires
write_number-second_start-requires c =
    let room = has-room 63 c.self.inside.start c.self.inside.bytes _ c.self.invariant c.self.told c.self.view_is c.requires in
    let third = c.write_last_number-third_start in
    let starts = number-starts c.args.third third.result c.self.inside.start c.ranges.third.fits third.ensures.start in
    (omega (arith, room.0, starts.1), omega (arith, room.1, starts.0, third.auto.bytes))

pub write_number-self-inside-requires : goal.write_number-self-inside-requires
write_number-self-inside-requires c =
    let room = has-room 63 c.self.inside.start c.self.inside.bytes _ c.self.invariant c.self.told c.self.view_is c.requires in
    let third = c.write_last_number-third_start in
    let second = c.write_number-second_start in
    let starts = number-starts c.args.third third.result c.self.inside.start c.ranges.third.fits third.ensures.start in
    let next = number-starts c.args.second second.result third.result c.ranges.second.fits second.ensures.start in
    (omega (arith, room.0, starts.1, next.1), omega (arith, room.1, starts.0, next.0, third.auto.bytes, second.auto.bytes))

pub returns-clause-length : goal.returns-clause-length
returns-clause-length c =
    let third = c.write_last_number-third_start in
    let second = c.write_number-second_start in
    let first = c.write_number-self-inside in
    let starts = number-starts c.args.third third.result c.self.inside.start c.ranges.third.fits third.ensures.start in
    let next = number-starts c.args.second second.result third.result c.ranges.second.fits second.ensures.start in
    let last = number-starts c.args.first first.result second.result c.ranges.first.fits first.ensures.start in
    omega (
      arith,
      starts.1,
      next.1,
      last.1,
      ap length c.self.view_is,
      length-drop c.self.inside.start c.self.inside.bytes,
      length-drop first.result first.new.bytes,
      first.auto.bytes,
      second.auto.bytes,
      third.auto.bytes,
      c.self.told,
    )
