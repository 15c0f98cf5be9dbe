use Rattle.std.proofs.Common.{◌≡◌, ◌∙◌, ◌+◌, suc, arith}
use Rattle.late_repair.proofs.BackLaws.{next-present, taking-next, taking-out, taking-back, taking-others}
use Rattle.late_repair.proofs.taken_out.take_out.Goals as goal

pub take_one_out-requires-clause-in_force : goal.take_one_out-requires-clause-in_force
take_one_out-requires-clause-in_force c =
    next-present c.args.airport.now c.args.names.now c.args.ledger.now c.loop-name.name-index c.loop-name.holders.items c.loop-name.ledger c.loop-name.invariant.0 c.name-item.result c.loop-name-test.true
    c.name-item.is c.requires.in_force c.requires.once

pub loop-name-preserved : goal.loop-name-preserved
loop-name-preserved c =
    let next : c.loop-name.name-index + 1 ≡ suc c.loop-name.name-index = omega arith in
    let taken = c.take_one_out.ensures in (
      rw next
          (taking-next c.args.airport.now c.args.names.now c.args.ledger.now c.loop-name.name-index c.loop-name.holders.items c.loop-name.ledger c.loop-name.invariant.0 c.name-item.result c.loop-name-test.true
          c.name-item.is c.take_one_out.result c.take_one_out.new.ledger c.push_reserved.new.self.items c.push_reserved.ensures.items taken.name taken.back taken.state taken.room taken.unlifted taken.fits),
      omega (arith, c.push_reserved.ensures.len, c.loop-name.invariant.1),
      c.push_reserved.ensures.capacity ∙ c.loop-name.invariant.2,
    )

pub invariant_of-result : goal.invariant_of-result
invariant_of-result c =
    taking-others c.args.airport.now c.args.names.now c.args.ledger.now c.loop-name.name-index c.loop-name.holders.items c.loop-name.ledger c.loop-name.invariant.0 c.loop-name-test.false c.requires.once

pub returns-clause-out : goal.returns-clause-out
returns-clause-out c =
    taking-out c.args.airport.now c.args.names.now c.args.ledger.now c.loop-name.name-index c.loop-name.holders.items c.loop-name.ledger c.loop-name.invariant.0 c.loop-name-test.false

pub returns-clause-back : goal.returns-clause-back
returns-clause-back c =
    taking-back c.args.airport.now c.args.names.now c.args.ledger.now c.loop-name.name-index c.loop-name.holders.items c.loop-name.ledger c.loop-name.invariant.0 c.loop-name-test.false
