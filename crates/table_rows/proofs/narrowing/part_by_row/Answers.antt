use Rattle.std.proofs.Common.{◌∙◌, ap}
use Rattle.taxi_base.specs.declared.rows.Span.{Span}
use Rattle.taxi_base.specs.Labels.{window_of}
use Rattle.table_rows.specs.declared.limits.Limits.{Limits}
use Rattle.table_rows.specs.Limits.{last_by}
use Rattle.table_rows.proofs.ServedLaws.{each-entered, each-left}
use Rattle.table_rows.proofs.narrowing.part_by_row.Goals as goal

pub returns-in-Forward-clause-served : goal.returns-in-Forward-clause-served
returns-in-Forward-clause-served c conditions bound rows is there =
    each-entered conditions c.args.row c.args.seconds c.part_entered.result bound rows there (c.part_entered.ensures.within.way ∙ c.in-Forward.is) (c.part_entered.ensures.served conditions)

pub returns-in-Backward-clause-served : goal.returns-in-Backward-clause-served
returns-in-Backward-clause-served c conditions bound rows is there =
    let last = c.last_in-last.ensures ∙ ap (λ (w : Span). last_by c.args.limits w) c.window_of.ensures ∙ ap (λ (l : Limits). last_by l (window_of c.args.row)) is in
    each-left conditions c.args.row c.args.seconds c.part_left.result bound rows there (c.part_left.ensures.within.way ∙ c.in-Backward.is) (λ v. c.part_left.ensures.served conditions v last)
