-- A name has at most sixteen bytes, so its number fits.
use Rattle.std.proofs.Common.{◌≡◌, ◌+◌, ◌-◌, ◌*◌, ◌<◌, ℕ, drop, ◌∙◌, sym, ap, arith}
use Rattle.taxi_base.proofs.NameDigits.{digit-fits, digit-grows}
use Rattle.holder_lists.specs.NameOrder.{order_after, order_of}
use Rattle.holder_lists.proofs.NameOrder.{next-digit}
use Rattle.holder_lists.proofs.name_order.order_of.Goals as goal

pub overflow_mul-order : goal.overflow_mul-order
overflow_mul-order c =
    let fits = digit-fits c.loop-place.order c.loop-place.place 0 c.loop-place.invariant.1 (omega (arith, c.loop-place-test.true)) (omega arith) in
    omega (arith, fits)

pub overflow_add-order : goal.overflow_add-order
overflow_add-order c =
    let fits = digit-fits c.loop-place.order c.loop-place.place c.byte_at.result c.loop-place.invariant.1 (omega (arith, c.loop-place-test.true)) (omega arith) in
    omega (arith, fits)

pub loop-place-preserved : goal.loop-place-preserved
loop-place-preserved c =
    let place = c.loop-place.place in
    let bytes = c.bytes-bytes.result.now in
    let low : place < 16 = omega (arith, c.loop-place-test.true) in (
      ap (λ (b : ℕ). order_after (16 - (place + 1)) (c.loop-place.order * 256 + b) (drop (place + 1) bytes)) c.byte_at.ensures
          ∙ sym (next-digit place c.loop-place.order bytes low) ∙ c.loop-place.invariant.0,
      digit-grows c.loop-place.order place c.byte_at.result c.loop-place.invariant.1 (omega arith),
    )

pub returns-clause-order : goal.returns-clause-order
unfolding order_of
returns-clause-order c =
    let bytes = c.bytes-bytes.result.now in
    let done : c.loop-place.place ≡ 16 = omega (arith, c.loop-place-test.false, c.loop-place.auto) in
    rw done at c.loop-place.invariant.0 ∙ ap (order_after 16 0) c.bytes-bytes.ensures.same
