-- Where the first does not begin before, none does, since they begin in order.
use Rattle.std.proofs.Common.{◌≡◌, get_or, sym, arith}
use Rattle.std.proofs.lemmas.Option.{get_or_from_slice_get}
use Rattle.held_spans.proofs.segment_spans.begun_before.Goals as goal

pub returns-in_default-clause-after : goal.returns-in_default-clause-after
returns-in_default-clause-after c k d from low =
    let steps = c.args.spans.now in
    let rising = c.requires 0 k d (omega arith) low in
    let first : get_or steps 0 d ≡ c.in-Some.first.now = get_or_from_slice_get steps 0 c.in-Some.first.now d (sym c.in-Some.ensures.value) in
    omega (arith, (rw first at rising))
