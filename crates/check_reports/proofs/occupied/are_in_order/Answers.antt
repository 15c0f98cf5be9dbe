use Rattle.std.proofs.Common.{rules, ◌≡◌}
use Rattle.std.proofs.lemmas.Fn.{always_returns_same}
use Rattle.taxi_base.specs.Reports.{row_precedes}
use Rattle.check_reports.proofs.OccupiedLaws.{order-by_neighbours}
use Rattle.check_reports.proofs.occupied.are_in_order.Goals as goal

pub returns : goal.returns
returns c =
    order-by_neighbours c.is_sorted_by.result c.args.rows.now
    (c.is_sorted_by.ensures.cases (λ a b. row_precedes a b) (always_returns_same _ (λ a r. r ≡ row_precedes a.0.now a.1.0.now) _ (λ a r f k. search (rules))))
