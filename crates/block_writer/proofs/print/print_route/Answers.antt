use Rattle.std.proofs.Common.{◌≡◌, ◌++◌, ℕ, List, refl, subst}
use Rattle.std.specs.Prelude.{OnOk, OnErr}
use Rattle.block_writer.specs.Printed.{IsCutShort}
use Rattle.block_writer.proofs.RowPieces.{route_text-by}
use Rattle.block_writer.proofs.print.print_route.Goals as goal

pub returns-clause-ok : goal.returns-clause-ok
returns-clause-ok c =
    let t = route_text-by c.args.airport.now c.args.flight.now c.args.second c.args.steps.now c.args.labels.now _ c.args.steps.now c.args.labels.now c.write_route_head.ensures.text refl refl in
    subst (λ (k : List ℕ). OnOk c.print_line_and_rows.result (c.print_line_and_rows.new.out.items ≡ c.args.out.now.items ++ k)) t c.print_line_and_rows.ensures.ok

pub returns-clause-err : goal.returns-clause-err
returns-clause-err c =
    let t = route_text-by c.args.airport.now c.args.flight.now c.args.second c.args.steps.now c.args.labels.now _ c.args.steps.now c.args.labels.now c.write_route_head.ensures.text refl refl in
    subst (λ (k : List ℕ). OnErr c.print_line_and_rows.result (IsCutShort k c.args.out.now.items c.print_line_and_rows.new.out.items)) t c.print_line_and_rows.ensures.err
