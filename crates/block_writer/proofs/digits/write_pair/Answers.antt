use Rattle.block_writer.proofs.DigitLaws.{pair_at}
use Rattle.block_writer.proofs.digits.write_pair.Goals as goal

pub returns : goal.returns
returns c =
    let p = pair_at c.args.pair c.requires.0 in
    rw (← p.0, ← p.1) c.write_two.ensures
