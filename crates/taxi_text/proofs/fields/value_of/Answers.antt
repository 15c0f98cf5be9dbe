use Rattle.std.proofs.Common.{ℕ, ◌≡◌, ◌<◌, ◌+◌, ◌-◌, ◌*◌, ◌^◌, ◌∙◌, ap, take, get_or, arith}
use Rattle.std.specs.Str.Parse.{digits_value}
use Rattle.taxi_text.proofs.Numbers.{next_digit, is_number-parts}
use Rattle.taxi_text.proofs.fields.value_of.Goals as goal

more : (c : goal.In-loop-digit) → let d = get_or c.args.digits.now c.loop-digit.digit-index 0 - 48 in
    (c.loop-digit.number * 10 + d ≡ digits_value 10 (take (c.loop-digit.digit-index + 1) c.args.digits.now)) × (c.loop-digit.number * 10 + d < 10 ^ 7)
more c =
    let parts = is_number-parts c.args.digits.now c.requires in
    next_digit c.args.digits.now c.loop-digit.digit-index c.loop-digit.number parts.1 parts.0 c.loop-digit-test.true c.loop-digit.invariant

pub overflow_mul-number : goal.overflow_mul-number
overflow_mul-number c = omega (arith, (more c).1)

pub overflow_add-number : goal.overflow_add-number
overflow_add-number c =
    let parts = is_number-parts c.args.digits.now c.requires in
    let step = next_digit c.args.digits.now c.loop-digit.digit-index c.loop-digit.number parts.1 parts.0 c.loop-digit-test.true c.loop-digit.invariant in
    omega (arith, step.1, c.from.ensures)

pub loop-digit-preserved : goal.loop-digit-preserved
loop-digit-preserved c =
    let parts = is_number-parts c.args.digits.now c.requires in
    let step = next_digit c.args.digits.now c.loop-digit.digit-index c.loop-digit.number parts.1 parts.0 c.loop-digit-test.true c.loop-digit.invariant in
    ap (λ (n : ℕ). c.loop-digit.number * 10 + n) c.from.ensures ∙ step.0
