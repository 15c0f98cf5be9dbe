use Rattle.block_reader.proofs.Decimals.{IsReadSoFar}
use Rattle.block_reader.proofs.NumberFields.{IsBefore}
use Rattle.block_reader.proofs.fields.number_in.Given as goal

-- so far there are digits, whose value is known
abbrev pub invariant-loop-place : goal.invariant-loop-place
invariant-loop-place l = record {
  before : IsBefore l.last l.bytes l.place;
  read : IsReadSoFar l.bytes l.place l.number;
}
