-- Where the last of the first ones begins before, all of them do, since they begin in order.
use Rattle.std.proofs.Common.{◌≡◌, ◌-◌, get_or, arith}
use Rattle.std.proofs.lemmas.List.{get_or_default}
use Rattle.taxi_base.specs.declared.rows.Span.{Span}
use Rattle.held_spans.proofs.segment_spans.begun_before_from_last.Goals as goal

pub returns-else-second-spans-clause-before : goal.returns-else-second-spans-clause-before
returns-else-second-spans-clause-before c k d from low =
    let spans = c.args.spans.now in
    let last = c.loop-begun.begun - 1 in
    let zero : Span = record { from = 0; until = 0 } in
    let same : get_or spans last d ≡ get_or spans last zero = get_or_default spans last d zero (omega (arith, low, c.loop-begun.invariant.0)) in
    let rising = c.requires k last zero (omega (arith, low)) (omega (arith, low, c.loop-begun.invariant.0)) in
    let first : get_or spans k d ≡ get_or spans k zero = get_or_default spans k d zero (omega (arith, low, c.loop-begun.invariant.0)) in
    rw first (omega (arith, rising, c.if-second-spans.false))
