use Rattle.std.proofs.Common.{rules, ◌≡◌}
use Rattle.std.proofs.lemmas.Fn.{always_returns_same}
use Rattle.taxi_base.specs.Labels.{precedes}
use Rattle.table_rows.proofs.RowLaws.{ordered-by_neighbours}
use Rattle.table_rows.proofs.rows.are_ordered.Goals as goal

pub returns : goal.returns
returns c =
    ordered-by_neighbours c.is_sorted_by.result c.args.rows.now (c.is_sorted_by.ensures.cases (λ p q. precedes p q) (always_returns_same _ (λ a r. r ≡ precedes a.0.now a.1.0.now) _ (λ a r f k. search (rules))))
