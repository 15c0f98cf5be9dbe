use Rattle.std.proofs.Common.{◌≡◌, ℕ, List, ◌+◌, ◌-◌, ◌∷◌, [], ◌++◌, drop, sym, ap, ◌∙◌, append_assoc, length-set, arith}
use Rattle.std.proofs.lemmas.Fmt.{length-decimal-le}
use Rattle.block_writer.proofs.DigitLaws.{decimal_six, length_six}
use Rattle.block_writer.proofs.digits.write_longer_or_shorter.Goals as goal

pub write_digits-requires : goal.write_digits-requires
write_digits-requires c =
    let fits = c.ranges.number.fits in
    (omega (arith, length-decimal-le 20 c.args.number (omega arith) (omega (arith, fits)) fits, c.requires.0), omega (arith, length-set {A = ℕ}, c.requires.1))

pub returns-clause-start : goal.returns-clause-start
returns-clause-start c = omega (arith, length_six c.args.number c.if-number-lt100000.false c.if-number-gt999999.false, c.requires.0)

pub returns-clause-written : goal.returns-clause-written
returns-clause-written c =
    let end = c.args.end in
    let a : end - 7 + 3 ≡ end - 4 = omega (arith, c.requires.0) in
    let b : end - 4 + 4 ≡ end = omega (arith, c.requires.0) in
    rw (c.write_three.ensures, a, c.write_triple.ensures, b)
    (sym (ap (λ (l : List ℕ). l ++ drop end c.args.bytes.now) (decimal_six c.args.number c.if-number-lt100000.false c.if-number-gt999999.false))
    ∙ append_assoc _ (32 ∷ []) (drop end c.args.bytes.now))
