use Rattle.std.proofs.Common.{◌∙◌, sym}
use Rattle.block_reader.proofs.Pieces.{compared-by_ends}
use Rattle.block_reader.proofs.fields.have_same_fours.Goals as goal

pub returns-then-is_same_four : goal.returns-then-is_same_four
returns-then-is_same_four c =
    let a = c.in-Some-Some in
    let b = c.in-Some-Some-2 in
    c.is_same_four-then-is_same_four.ensures
    ∙ compared-by_ends 4 c.args.a.now c.args.b.now a.first.now b.front.now a.last.now b.back.now c.requires.long c.requires.few.1 a.ensures.cases.same b.ensures.cases.same
    a.ensures'.cases.1.same b.ensures'.cases.1.same (sym c.is_same_four.ensures ∙ c.if-is_same_four.true)
