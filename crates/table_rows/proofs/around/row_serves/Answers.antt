use Rattle.std.proofs.Common.{subst}
use Rattle.taxi_base.specs.declared.numbers.Arc.{Arc}
use Rattle.taxi_base.specs.Labels.{window_of}
use Rattle.table_rows.specs.HasRows.{HasEach}
use Rattle.table_rows.specs.Reached.{IsReachedIn}
use Rattle.table_rows.proofs.ReachLaws.{arc-by_row}
use Rattle.table_rows.proofs.ServedLaws.{each-good}
use Rattle.table_rows.proofs.around.row_serves.Goals as goal

pub returns-then-is_around : goal.returns-then-is_around
returns-then-is_around c conditions bound rows takes is there good =
    let reach = c.args.reach in
    let row = c.args.row in
    let around = c.is_around.ensures c.if-is_around.true in
    let each = each-good conditions row c.args.seconds reach bound rows there (c.is_good_enough.ensures.0 good) in
    (arc-by_row conditions c.args.arc c.args.seconds takes reach bound rows row around.0 around.1 around.2 is).0
    (subst (λ (a : Arc). HasEach reach.way (IsReachedIn conditions reach a c.args.seconds (window_of row)) bound rows) around.0 each)
