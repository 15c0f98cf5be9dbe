use Rattle.block_reader.proofs.Decimals.{IsReadSoFar}
use Rattle.block_reader.proofs.fields.digits_of.Given as goal

abbrev pub invariant-loop-digit : goal.invariant-loop-digit
invariant-loop-digit l = IsReadSoFar l.digits l.digit-index l.number
