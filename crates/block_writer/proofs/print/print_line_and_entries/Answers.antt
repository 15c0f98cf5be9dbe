use Rattle.std.proofs.Common.{◌++◌}
use Rattle.block_writer.specs.Printed.{entries_text}
use Rattle.replies.proofs.Outcomes.{on_err}
use Rattle.block_writer.proofs.RowPieces.{entry_comes, entry_cut}
use Rattle.block_writer.proofs.print.print_line_and_entries.Goals as goal

pub returns-in_err-print_entry-clause-err : goal.returns-in_err-print_entry-clause-err
returns-in_err-print_entry-clause-err c =
    on_err c.from_residual-in_err-print_entry.result
    (entry_cut c.args.airport.now c.args.entries.now c.loop-place.place c.at.result.now c.at.ensures (c.args.line.now ++ entries_text c.args.airport.now c.args.entries.now)
    c.args.out.now.items c.loop-place.out.items c.print_entry.new.out.items c.loop-place.invariant c.in_err-print_entry.ensures.err)

pub loop-place-preserved : goal.loop-place-preserved
loop-place-preserved c =
    entry_comes c.args.airport.now c.args.entries.now c.loop-place.place c.at.result.now c.at.ensures (c.args.line.now ++ entries_text c.args.airport.now c.args.entries.now)
    c.args.out.now.items c.loop-place.out.items c.print_entry.new.out.items c.loop-place.invariant c.in_ok-print_entry.ensures.ok
