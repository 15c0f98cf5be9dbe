use Rattle.std.proofs.Common.{◌∙◌, ◌≤◌, ◌<◌, sym, subst, ap, get_or, arith}
use Rattle.block_reader.specs.declared.fields.TheConstants.{WORTHS, NO}
use Rattle.block_reader.proofs.Worths.{worth_at, worth_most}
use Rattle.block_reader.proofs.fields.worth.Goals as goal

pub returns : goal.returns
returns c =
    let low : c.args.byte < 256 = omega arith in
    let value = ap (λ i. get_or WORTHS i 0) c.from.ensures ∙ worth_at c.args.byte low in
    record {
      value = value;
      small = subst (λ w. w ≤ NO) (sym value) (worth_most c.args.byte low);
    }
