use Rattle.std.proofs.Common.{arith}
use Rattle.block_reader.proofs.NumberFields.{front-four, front-five, front-six}
use Rattle.block_reader.proofs.fields.front_number.Goals as goal

pub returns-then-front-last-clause-number : goal.returns-then-front-last-clause-number
returns-then-front-last-clause-number c =
    front-four c.args.last _ c.args.front.now c.if-front-last.true
    (omega (arith, c.worth.ensures.value, c.worth-2.ensures.value, c.worth-3.ensures.value, c.worth-4.ensures.value))

pub returns-then-front-last-2-clause-number : goal.returns-then-front-last-2-clause-number
returns-then-front-last-2-clause-number c =
    front-five c.args.last _ c.args.front.now c.if-front-last.false c.if-front-last-2.true
    (omega (arith, c.worth.ensures.value, c.worth-2.ensures.value, c.worth-3.ensures.value, c.worth-4.ensures.value, c.worth-5.ensures.value))

pub returns-else-front-last-2-clause-number : goal.returns-else-front-last-2-clause-number
returns-else-front-last-2-clause-number c =
    front-six c.args.last _ c.args.front.now c.if-front-last.false c.if-front-last-2.false
    (omega (arith, c.worth.ensures.value, c.worth-2.ensures.value, c.worth-3.ensures.value, c.worth-4.ensures.value, c.worth-5.ensures.value, c.worth-else-front-last-2.ensures.value))
