use Rattle.std.proofs.Common.{◌∙◌, ◌+◌, ◌*◌, sym, subst, arith}
use Rattle.block_reader.proofs.Decimals.{IsReadSoFar, next_digit}
use Rattle.block_reader.proofs.fields.digits_of.Goals as goal

pub overflow_mul-number : goal.overflow_mul-number
overflow_mul-number c =
    let next = next_digit c.args.digits.now c.loop-digit.digit-index c.loop-digit.number c.requires c.loop-digit-test.true c.loop-digit.invariant
    (sym c.is_ascii_digit.ensures.value ∙ c.if-not-is_ascii_digit.false) in
    omega (arith, next.small)

pub overflow_add-number : goal.overflow_add-number
overflow_add-number c =
    let next = next_digit c.args.digits.now c.loop-digit.digit-index c.loop-digit.number c.requires c.loop-digit-test.true c.loop-digit.invariant
    (sym c.is_ascii_digit.ensures.value ∙ c.if-not-is_ascii_digit.false) in
    omega (arith, next.small, c.from.ensures)

pub loop-digit-preserved : goal.loop-digit-preserved
loop-digit-preserved c =
    let next = next_digit c.args.digits.now c.loop-digit.digit-index c.loop-digit.number c.requires c.loop-digit-test.true c.loop-digit.invariant
    (sym c.is_ascii_digit.ensures.value ∙ c.if-not-is_ascii_digit.false) in
    subst (λ d. IsReadSoFar c.args.digits.now (c.loop-digit.digit-index + 1) (c.loop-digit.number * 10 + d)) (sym c.from.ensures) next.read
