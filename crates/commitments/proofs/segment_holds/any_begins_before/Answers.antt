-- Where the first does not begin before, none does, since they begin in order.
use Rattle.std.proofs.Common.{◌≡◌, ◌≤◌, get_or, sym, arith}
use Rattle.std.proofs.lemmas.Bool.{ltb-false}
use Rattle.std.proofs.lemmas.Option.{get_or_from_slice_get}
use Rattle.commitments.proofs.segment_holds.any_begins_before.Goals as goal

pub returns-in-Some : goal.returns-in-Some
returns-in-Some c = λ late k d low.
    let steps = c.args.steps.now in
    let rising = c.requires 0 k d (omega arith) low in
    let first : get_or steps 0 d ≡ c.in-Some.first.now = get_or_from_slice_get steps 0 c.in-Some.first.now d (sym c.in-Some.ensures.value) in
    let on : c.args.second ≤ c.in-Some.first.now.step.enter = ltb-false _ _ late in
    omega (arith, on, rw first at rising)
