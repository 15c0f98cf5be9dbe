use Rattle.std.proofs.Common.{◌≡◌, ◌+◌, arith}
use Rattle.std.proofs.lemmas.List.{drop-set}
use Rattle.block_writer.proofs.DigitLaws.{triple_at}
use Rattle.block_writer.proofs.digits.write_three.Goals as goal

pub returns : goal.returns
returns c =
    let t = triple_at c.args.triple c.requires.0 in
    let at = c.args.at in
    let e : at + 2 + 1 ≡ at + 3 = omega arith in
    rw (c.write_two.ensures, t.0, t.1, drop-set c.args.bytes.now (at + 2) _ (omega (arith, c.requires.1)), t.2, e)
