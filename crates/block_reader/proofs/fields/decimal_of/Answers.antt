use Rattle.std.proofs.Common.{arith}
use Rattle.block_reader.proofs.Decimals.{digits-small}
use Rattle.block_reader.proofs.fields.decimal_of.Goals as goal

pub returns-clause-small : goal.returns-clause-small
returns-clause-small c = digits-small c.args.most c.args.word.now c.digits_of.result (omega (arith, c.if-word-most.false)) c.digits_of.ensures
