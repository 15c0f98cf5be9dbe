use Rattle.block_writer.proofs.DigitLaws.{triple_at}
use Rattle.block_writer.proofs.WriteLaws.{drop-four}
use Rattle.block_writer.proofs.digits.write_triple.Goals as goal

pub returns : goal.returns
returns c =
    let t = triple_at c.args.triple c.requires.0 in
    rw (t.0, t.1, t.2, t.3) (drop-four c.args.bytes.now c.args.at _ _ _ _ c.requires.1)
