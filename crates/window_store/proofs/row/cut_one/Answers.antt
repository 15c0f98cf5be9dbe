use Rattle.std.proofs.Common.{◌≡◌, ◌∙◌, arith}
use Rattle.std.proofs.lemmas.List.{get_or_default}
use Rattle.window_store.specs.Rows.{no_span, span_in}
use Rattle.window_store.proofs.Rows.{cut-left, cut-right}
use Rattle.window_store.proofs.row.cut_one.Goals as goal

pub returns-in-true-false-clause-cut : goal.returns-in-true-false-clause-cut
returns-in-true-false-clause-cut c =
    let row = c.args.row.now.items in let w = c.index-whole.result.now in
    let is : w ≡ span_in row c.args.at = c.index-whole.ensures ∙ get_or_default row c.args.at w no_span c.requires.inside in
    cut-left row c.args.at c.args.span w c.requires.inside is _ (search (arith, c.in-true-false.is-0)) (search (arith, c.in-true-false.is-1)) (λ i. record { from = w.from; until = c.min.ensures i })

pub returns-in-false-true-clause-cut : goal.returns-in-false-true-clause-cut
returns-in-false-true-clause-cut c =
    let row = c.args.row.now.items in let w = c.index-whole.result.now in
    let is : w ≡ span_in row c.args.at = c.index-whole.ensures ∙ get_or_default row c.args.at w no_span c.requires.inside in
    cut-right row c.args.at c.args.span w c.requires.inside is _ (search (arith, c.in-false-true.is-0)) (search (arith, c.in-false-true.is-1)) (λ i. record { from = c.max.ensures i; until = w.until })
