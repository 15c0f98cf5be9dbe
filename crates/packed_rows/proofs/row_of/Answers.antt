-- A row's bounds are within the array.
use Rattle.std.proofs.Common.{length, arith}
use Rattle.packed_rows.proofs.Cuts.{CutUpTo-row, slice_get-rows_from}
use Rattle.packed_rows.proofs.row_of.Goals as goal

pub offset_bounds-values-start : goal.offset_bounds-values-start
offset_bounds-values-start g c =
    let bounds = CutUpTo-row 0 c.args.ends.now (length c.args.values.now) c.args.at c.requires.cut c.requires.at in omega arith

pub slice_bounds-result-count : goal.slice_bounds-result-count
slice_bounds-result-count g c =
    let bounds = CutUpTo-row 0 c.args.ends.now (length c.args.values.now) c.args.at c.requires.cut c.requires.at in omega arith

pub slice_bounds-result-start : goal.slice_bounds-result-start
slice_bounds-result-start g c =
    let bounds = CutUpTo-row 0 c.args.ends.now (length c.args.values.now) c.args.at c.requires.cut c.requires.at in omega arith

pub slice_bounds-result-end : goal.slice_bounds-result-end
slice_bounds-result-end g c =
    let bounds = CutUpTo-row 0 c.args.ends.now (length c.args.values.now) c.args.at c.requires.cut c.requires.at in omega arith

pub returns : goal.returns
returns g c = rw c.start_of-start.ensures (slice_get-rows_from 0 c.args.ends.now c.args.values.now c.args.at c.requires.at)
