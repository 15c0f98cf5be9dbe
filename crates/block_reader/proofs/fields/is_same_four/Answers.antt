use Rattle.std.proofs.Common.{rules}
use Rattle.std.specs.Int.{w32}
use Rattle.std.proofs.lemmas.Nat.{le_bytes_4}
use Rattle.block_reader.proofs.Pieces.{compared-as_numbers}
use Rattle.block_reader.proofs.fields.is_same_four.Goals as goal

pub returns : goal.returns
returns c =
    compared-as_numbers w32 c.args.a.now c.args.b.now c.from_le_bytes.result c.from_le_bytes-2.result c.from_le_bytes.ensures c.from_le_bytes-2.ensures
    (le_bytes_4 c.args.a.now _ (search rules) (search rules) c.from_le_bytes.ensures)
    (le_bytes_4 c.args.b.now _ (search rules) (search rules) c.from_le_bytes-2.ensures)
