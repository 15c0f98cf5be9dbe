use Rattle.std.proofs.Common.{Bool, IsTrue, sym, subst}
use Rattle.table_rows.proofs.LoopLaws.{says-yes}
use Rattle.table_rows.proofs.RowLaws.{good-row}
use Rattle.table_rows.proofs.table.Table.is_served.Goals as goal

pub returns-else-not-is_short : goal.returns-else-not-is_short
returns-else-not-is_short c =
    let good = good-row c.args.self.now.rows.now c.args.label c.args.row c.requires.ordered c.requires.there c.requires.same c.args.way in (
      λ serves short. good.0 (subst (λ (b : Bool). IsTrue b) c.is_as_good.ensures serves),
      λ each. subst (λ (b : Bool). IsTrue b) (sym c.is_as_good.ensures) (good.1 (each (says-yes _ c.if-not-is_short.false c.is_short.ensures))),
    )
