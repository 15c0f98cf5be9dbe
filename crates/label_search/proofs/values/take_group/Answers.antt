use Rattle.std.proofs.Common.{◌+◌, ◌<◌, None, Some, length, map, take, min, sym, ap, ◌∙◌, arith, rules, w64}
use Rattle.std.specs.Int.{trailing_zeros}
use Rattle.std.proofs.lemmas.List.{append-nil}
use Rattle.std.proofs.lemmas.Nat.Bits.{bit_at-trailing_zeros}
use Rattle.label_search.specs.Values.{rows_from, value_kept, values_kept}
use Rattle.label_search.proofs.GroupLaws.{cleared_bit}
use Rattle.label_search.proofs.ValueLaws.{told_more, kept_some}
use Rattle.label_search.proofs.Taking.{one_taken, one_row, rows_to_end}
use Rattle.label_search.proofs.values.take_group.Goals as goal

-- the lowest cell that is left is one of the cells
pub take_label-requires : goal.take_label-requires
take_label-requires g c =
    let so_far = c.cells.invariant.taken in
    let lowest = bit_at-trailing_zeros w64 c.cells.left (omega (arith, c.cells-test.true)) (search rules) in
    omega (arith, so_far.same_length, c.requires.inside (trailing_zeros w64 c.cells.left) lowest.0 (so_far.still (trailing_zeros w64 c.cells.left) lowest.0 lowest.1).0)

-- what is told of the cell had a label
pub tell-requires : goal.tell-requires
tell-requires g c =
    let place = trailing_zeros w64 c.cells.left in
    let so_far = c.cells.invariant.taken in
    let lowest = bit_at-trailing_zeros w64 c.cells.left (omega (arith, c.cells-test.true)) (search rules) in
    let labelled = kept_some c.args.bound c.take_label.result c.in-Some.value (sym c.value_below.ensures ∙ c.in-Some.is) in
    c.requires.come_to (c.args.first + place) labelled.0.0 (omega arith)
    (sym (so_far.rest (c.args.first + place) (so_far.still place lowest.0 lowest.1).1) ∙ sym c.take_label.ensures.label ∙ labelled.0.1)

pub overflow_add-cell : goal.overflow_add-cell
overflow_add-cell g c =
    let so_far = c.cells.invariant.taken in
    let lowest = bit_at-trailing_zeros w64 c.cells.left (omega (arith, c.cells-test.true)) (search rules) in
    let on : c.args.first + trailing_zeros w64 c.cells.left < length c.cells.known =
    omega (arith, so_far.same_length, c.requires.inside (trailing_zeros w64 c.cells.left) lowest.0 (so_far.still (trailing_zeros w64 c.cells.left) lowest.0 lowest.1).0) in
    search (rules, on)

pub cells-smaller-in-Continue-1 : goal.cells-smaller-in-Continue-1
cells-smaller-in-Continue-1 g c =
    let lowest = bit_at-trailing_zeros w64 c.cells.left (omega (arith, c.cells-test.true)) (search rules) in
    (cleared_bit c.cells.left _ lowest.0 lowest.1).0

pub cells-smaller : goal.cells-smaller
cells-smaller g c =
    let lowest = bit_at-trailing_zeros w64 c.cells.left (omega (arith, c.cells-test.true)) (search rules) in
    (cleared_bit c.cells.left _ lowest.0 lowest.1).0

pub cells-preserved-in-Continue-1 : goal.cells-preserved-in-Continue-1
cells-preserved-in-Continue-1 g c =
    let place = trailing_zeros w64 c.cells.left in
    let so_far = c.cells.invariant.taken in
    let lowest = bit_at-trailing_zeros w64 c.cells.left (omega (arith, c.cells-test.true)) (search rules) in
    let cleared = cleared_bit c.cells.left place lowest.0 lowest.1 in
    let marked = so_far.still place lowest.0 lowest.1 in
    let on : c.args.first + place < length c.cells.known = omega (arith, so_far.same_length, c.requires.inside place lowest.0 marked.0) in
    rw c.take_label.ensures.taken (record {
      done = c.args.first + place + 1;
      taken = one_taken c.args.marks c.args.first c.args.known.now c.cells.known c.cells.left c.cells.invariant.done so_far place _ lowest.0 lowest.1 lowest.2 on cleared.1 cleared.2;
      rows = λ all same long begun.
          c.in_ok-push.ensures.ok
          ∙ told_more (g.C.ForwardCells.told c.args.cells.now) _ _ _ _ (c.cells.invariant.rows all same long begun) c.tell.ensures
          ∙ ap (map (g.C.ForwardCells.told c.args.cells.now)) (one_row c.args.marks c.args.first c.args.known.now c.cells.known c.cells.left c.cells.invariant.done so_far c.requires.unmarked c.args.bound all same long place lowest.0 lowest.1 lowest.2 on
          (Some c.in-Some.value) (sym c.in-Some.is ∙ c.value_below.ensures ∙ ap (value_kept c.args.bound) c.take_label.ensures.label));
    })

pub cells-preserved : goal.cells-preserved
cells-preserved g c =
    let place = trailing_zeros w64 c.cells.left in
    let so_far = c.cells.invariant.taken in
    let lowest = bit_at-trailing_zeros w64 c.cells.left (omega (arith, c.cells-test.true)) (search rules) in
    let cleared = cleared_bit c.cells.left place lowest.0 lowest.1 in
    let marked = so_far.still place lowest.0 lowest.1 in
    let on : c.args.first + place < length c.cells.known = omega (arith, so_far.same_length, c.requires.inside place lowest.0 marked.0) in
    rw c.take_label.ensures.taken (record {
      done = c.args.first + place + 1;
      taken = one_taken c.args.marks c.args.first c.args.known.now c.cells.known c.cells.left c.cells.invariant.done so_far place _ lowest.0 lowest.1 lowest.2 on cleared.1 cleared.2;
      rows = λ all same long begun.
          c.cells.invariant.rows all same long begun
          ∙ ap (map (g.C.ForwardCells.told c.args.cells.now)) (sym (append-nil (rows_from 0 (take (min c.cells.invariant.done (length all)) (values_kept c.args.bound all))))
          ∙ one_row c.args.marks c.args.first c.args.known.now c.cells.known c.cells.left c.cells.invariant.done so_far c.requires.unmarked c.args.bound all same long place lowest.0 lowest.1 lowest.2 on
          None (sym c.in_default.is ∙ c.value_below.ensures ∙ ap (value_kept c.args.bound) c.take_label.ensures.label));
    })

pub returns-clause-rows : goal.returns-clause-rows
returns-clause-rows g c all same long begun =
    c.cells.invariant.rows all same long begun
    ∙ ap (map (g.C.ForwardCells.told c.args.cells.now)) (sym (rows_to_end c.args.marks c.args.first c.args.known.now c.cells.known c.cells.left c.cells.invariant.done c.cells.invariant.taken c.requires.unmarked c.args.bound all same long (omega (arith, c.cells-test.false))))
