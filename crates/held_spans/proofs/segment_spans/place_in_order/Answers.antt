-- Those before the last begin no later than it does.
use Rattle.std.proofs.Common.{◌≡◌, ◌-◌, length, get_or, sym, arith}
use Rattle.std.proofs.lemmas.Option.{get_or_from_slice_get}
use Rattle.held_spans.proofs.segment_spans.place_in_order.Goals as goal

pub returns-in_default-clause-before : goal.returns-in_default-clause-before
returns-in_default-clause-before c k d from low =
    let steps = c.args.spans.now in
    let rising = c.requires k (length steps - 1) d (omega (arith, low)) (omega (arith, low)) in
    let last : get_or steps (length steps - 1) d ≡ c.in-Some.last.now = get_or_from_slice_get steps (length steps - 1) c.in-Some.last.now d (sym c.in-Some.ensures.value) in
    omega (arith, c.if-span-last.false, (rw last at rising))
