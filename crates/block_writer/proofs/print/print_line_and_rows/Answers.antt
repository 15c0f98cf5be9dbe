use Rattle.std.proofs.Common.{subst, ℕ, List, ◌++◌, append_assoc}
use Rattle.std.specs.Prelude.{OnErr}
use Rattle.replies.specs.Texts.{step_words, label_words}
use Rattle.block_writer.specs.Printed.{rows_text, IsCutShort}
use Rattle.replies.proofs.Outcomes.{on_err, map_err}
use Rattle.block_writer.proofs.RowPieces.{cut-front, cut-last}
use Rattle.block_writer.proofs.print.print_line_and_rows.Goals as goal

pub returns-in_err-print_rows-clause-err : goal.returns-in_err-print_rows-clause-err
returns-in_err-print_rows-clause-err c =
    on_err c.from_residual.result
    (subst (λ (t : List ℕ). IsCutShort t c.args.out.now.items c.print_rows.new.out.items)
    (append_assoc c.args.line.now (rows_text (step_words c.args.airport.now) c.args.steps.now) (rows_text (label_words c.args.airport.now) c.args.labels.now))
    (cut-front (c.args.line.now ++ rows_text (step_words c.args.airport.now) c.args.steps.now) (rows_text (label_words c.args.airport.now) c.args.labels.now)
    c.args.out.now.items c.print_rows.new.out.items c.in_err-print_rows.ensures.err))

pub returns-clause-err : goal.returns-clause-err
returns-clause-err c =
    let steps = rows_text (step_words c.args.airport.now) c.args.steps.now in
    let labels = rows_text (label_words c.args.airport.now) c.args.labels.now in
    map_err c.print_rows-2.result
    (λ cut. subst (λ (t : List ℕ). IsCutShort t c.args.out.now.items c.print_rows-2.new.out.items) (append_assoc c.args.line.now steps labels)
    (cut-last (c.args.line.now ++ steps) labels c.args.out.now.items c.print_rows.new.out.items c.print_rows-2.new.out.items c.in_ok-print_rows.ensures.ok cut))
    (subst (λ (t : List ℕ). OnErr c.print_rows-2.result (IsCutShort (t ++ labels) c.print_rows.new.out.items c.print_rows-2.new.out.items)) c.clear.ensures c.print_rows-2.ensures.err)
