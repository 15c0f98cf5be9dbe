use Rattle.std.proofs.Common.{◌∙◌, sym, subst}
use Rattle.std.proofs.lemmas.Bool.{not_from_false}
use Rattle.taxi_base.specs.declared.rows.LabelRow.{LabelRow}
use Rattle.table_rows.specs.declared.reach.Way.TheVariants.{Forward}
use Rattle.table_rows.specs.HasRows.{IsShort, HasAsGood}
use Rattle.table_rows.proofs.LoopLaws.{says-no, says-yes}
use Rattle.table_rows.proofs.begun.window_around_has_row.Goals as goal

pub returns-then-not-is_inside : goal.returns-then-not-is_inside
returns-then-not-is_inside c conditions is =
    (λ _ label around short. absurd (says-no _ c.if-not-is_inside.true (c.is_inside.ensures conditions is) around.inside), λ _. not_from_false _ c.if-not-is_inside.true)

pub returns-else-not-is_inside : goal.returns-else-not-is_inside
returns-else-not-is_inside c conditions is = (
  λ holds label around short.
      let same = c.label_in.ensures ∙ sym around.is in
      subst (λ (l : LabelRow). HasAsGood Forward c.args.table.now.rows.now l) same (c.has_row_for.ensures.0 holds (subst (λ (l : LabelRow). IsShort Forward c.args.table.now.bound l.value) (sym same) short)),
  λ each. c.has_row_for.ensures.1 (λ short. each c.label_in.result (record { is = c.label_in.ensures; inside = says-yes _ c.if-not-is_inside.false (c.is_inside.ensures conditions is) }) short),
)
