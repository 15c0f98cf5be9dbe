use Rattle.std.proofs.Common.{Bool, IsTrue, ◌↔◌, sym, subst}
use Rattle.std.proofs.lemmas.Bool.{false≢true}
use Rattle.table_rows.specs.HasRows.{HasAsGood}
use Rattle.table_rows.proofs.RowLaws.{good-some, good-none}
use Rattle.table_rows.proofs.table.Table.has_as_good.Goals as goal

pub returns-in-Some : goal.returns-in-Some
returns-in-Some c =
    let found = c.in-Some.ensures.lookup in
    subst (λ (b : Bool). IsTrue b ↔ HasAsGood c.args.way c.args.self.now.rows.now c.args.label) (sym c.is_as_good.ensures)
    (good-some c.args.self.now.rows.now c.args.label c.requires c.rows_before.result c.rows_before.ensures.point c.args.way c.in-Some.row.now found.3.0 (sym found.1))

pub returns-in-None : goal.returns-in-None
returns-in-None c = (
  λ e. absurd (false≢true e),
  λ has. absurd (good-none c.args.self.now.rows.now c.args.label c.requires c.rows_before.result c.rows_before.ensures.point c.args.way c.in-None.ensures.lookup.3 has),
)
