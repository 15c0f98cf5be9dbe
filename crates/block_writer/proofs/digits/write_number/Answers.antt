use Rattle.std.proofs.Common.{◌≡◌, ℕ, List, ◌+◌, ◌-◌, ◌∷◌, [], ◌++◌, drop, sym, ap, ◌∙◌, append_assoc, arith}
use Rattle.block_writer.proofs.DigitLaws.{decimal_five, length_five}
use Rattle.block_writer.proofs.digits.write_number.Goals as goal

pub returns-clause-start : goal.returns-clause-start
returns-clause-start c = omega (arith, length_five c.args.number c.if-number-lt10000.false c.if-number-gt99999.false, c.requires.0)

pub returns-clause-written : goal.returns-clause-written
returns-clause-written c =
    let end = c.args.end in
    let a : end - 6 + 2 ≡ end - 4 = omega (arith, c.requires.0) in
    let b : end - 4 + 4 ≡ end = omega (arith, c.requires.0) in
    rw (c.write_pair.ensures, a, c.write_triple.ensures, b)
    (sym (ap (λ (l : List ℕ). l ++ drop end c.args.bytes.now) (decimal_five c.args.number c.if-number-lt10000.false c.if-number-gt99999.false))
    ∙ append_assoc _ (32 ∷ []) (drop end c.args.bytes.now))
