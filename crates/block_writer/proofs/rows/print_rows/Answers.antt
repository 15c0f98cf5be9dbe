use Rattle.std.proofs.Common.{◌++◌, ◌∙◌, List, ℕ, All, ap, append-nil, subst, sym}
use Rattle.std.proofs.lemmas.List.Elements.{All-drop}
use Rattle.block_writer.specs.Printed.{rows_text}
use Rattle.block_writer.proofs.Pieces.{HasCome}
use Rattle.replies.proofs.Outcomes.{on_err}
use Rattle.block_writer.proofs.RowPieces.{refused, more_come}
use Rattle.block_writer.proofs.rows.print_rows.Goals as goal

pub returns-in_err-push_bytes-2-clause-err : goal.returns-in_err-push_bytes-2-clause-err
returns-in_err-push_bytes-2-clause-err g c = on_err c.from_residual-in_err-push_bytes-2.result (refused c.loop-rest.invariant.come c.in_err-push_bytes-2.ensures.err)

pub loop-rest-preserved : goal.loop-rest-preserved
loop-rest-preserved g c =
    let words = g.R.Row.words c.args.airport.now in
    let rest = c.loop-rest.rest.now in
    let lines =
    c.bytes-in-loop-rest.ensures ∙ c.write_rows.ensures ∙ ap (λ (t : List ℕ). rows_text words c.split_at.result.0.now ++ t) c.clear.ensures ∙ append-nil _
    ∙ ap (rows_text words) c.split_at.ensures.front in
    record {
      rows = subst (All (g.R.Row.IsWritableRow c.args.airport.now)) (sym c.split_at.ensures.back) (All-drop (g.R.Row.IsWritableRow c.args.airport.now) c.min.result rest c.loop-rest.invariant.rows);
      come =
          subst (λ rows. HasCome (c.args.line.now ++ rows_text words c.args.rows.now) c.args.out.now.items (rows_text words rows) c.push_bytes-in-loop-rest.new.out.items) (sym c.split_at.ensures.back)
          (more_come words c.min.result rest _ c.args.out.now.items c.loop-rest.out.items c.bytes-in-loop-rest.result.now _ c.loop-rest.invariant.come lines c.in_ok-push_bytes-2.ensures.ok);
    }
