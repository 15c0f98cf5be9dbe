use Rattle.std.proofs.Common.{◌≡◌, ◌+◌, ◌++◌, take, drop}
use Rattle.block_writer.proofs.line_buffer.write_group.Given as goal

-- the first of the group stand there
abbrev pub invariant-loop-i : goal.invariant-loop-i
invariant-loop-i g l = drop l.at l.bytes ≡ take l.i l.group ++ drop (l.at + l.i) l.fn.bytes
