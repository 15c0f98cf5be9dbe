use Rattle.std.proofs.Common.{◌++◌, drop}
use Rattle.block_writer.specs.Printed.{entries_text}
use Rattle.block_writer.proofs.Pieces.{HasCome}
use Rattle.block_writer.proofs.print.print_line_and_entries.Given as goal

-- all but the text of the entries from this place on has come
abbrev pub invariant-loop-place : goal.invariant-loop-place
invariant-loop-place l = HasCome (l.fn.line ++ entries_text l.fn.airport l.fn.entries) l.fn.out.items (entries_text l.fn.airport (drop l.place l.fn.entries)) l.out.items
