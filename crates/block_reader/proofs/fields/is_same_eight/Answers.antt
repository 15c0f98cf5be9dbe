use Rattle.std.proofs.Common.{rules}
use Rattle.std.specs.Int.{w64}
use Rattle.std.proofs.lemmas.Nat.{le_bytes_8}
use Rattle.block_reader.proofs.Pieces.{compared-as_numbers}
use Rattle.block_reader.proofs.fields.is_same_eight.Goals as goal

pub returns : goal.returns
returns c =
    compared-as_numbers w64 c.args.a.now c.args.b.now c.from_le_bytes.result c.from_le_bytes-2.result c.from_le_bytes.ensures c.from_le_bytes-2.ensures
    (le_bytes_8 c.args.a.now _ (search rules) (search rules) c.from_le_bytes.ensures)
    (le_bytes_8 c.args.b.now _ (search rules) (search rules) c.from_le_bytes-2.ensures)
