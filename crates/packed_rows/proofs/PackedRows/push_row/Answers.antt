-- One more row.
use Rattle.std.proofs.Common.{◌≡◌, ◌≤◌, ◌+◌, ◌++◌, length, arith, rules, length-append, vec_len}
use Rattle.packed_rows.proofs.Cuts.{rows_from-push, CutUpTo-push}
use Rattle.packed_rows.proofs.PackedRows.push_row.Goals as goal

pub invariant_of-self-2 : goal.invariant_of-self-2
invariant_of-self-2 g c =
    let longer = c.in_ok-extend_from_slice.ensures in
    let same : vec_len c.self.inside.values ≡ length c.self.inside.values.items = search rules in
    let sum = length-append c.self.inside.values.items c.args.row.now in
    let at_end : c.len.result ≡ length (c.self.inside.values.items ++ c.args.row.now) = omega arith in
    let more : length c.self.inside.values.items ≤ c.len.result = omega arith in
    let cut = CutUpTo-push 0 c.self.inside.ends.items (length c.self.inside.values.items) c.len.result c.self.invariant more in
    rw (c.push_reserved.ensures.items, c.in_ok-reserve.ensures.items, longer.items, ← at_end) cut

pub returns-clause-ok : goal.returns-clause-ok
returns-clause-ok g c =
    let longer = c.in_ok-extend_from_slice.ensures in
    let same : vec_len c.self.inside.values ≡ length c.self.inside.values.items = search rules in
    let at_end : c.len.result ≡ length c.self.inside.values.items + length c.args.row.now = omega arith in
    let one = rows_from-push 0 c.self.inside.ends.items c.self.inside.values.items c.args.row.now c.len.result c.self.invariant at_end in
    rw (c.push_reserved.ensures.items, c.in_ok-reserve.ensures.items, longer.items, ← c.self.view_is) one
