use Rattle.std.proofs.Common.{◌≡◌, ℕ, sym, ◌∙◌, ap, subst}
use Rattle.taxi_base.specs.declared.rows.Span.{Span}
use Rattle.taxi_base.specs.Labels.{window_of}
use Rattle.table_rows.specs.declared.limits.Limits.{Limits}
use Rattle.table_rows.specs.declared.reach.Way.{Way}
use Rattle.table_rows.specs.declared.reach.Way.TheVariants.{Forward}
use Rattle.table_rows.specs.declared.reach.Reach.{Reach}
use Rattle.table_rows.specs.Limits.{last_by}
use Rattle.check_rows.specs.Comes.{conditions_at, reach_of}
use Rattle.check_rows.proofs.steps.reach_of.Goals as goal

reached : ℕ → ℕ → Way → Reach
reached from by way = record { way = way; from = from; by = by }

pub returns-in-Forward : goal.returns-in-Forward
unfolding reached
returns-in-Forward c free =
    let last = c.last_in.ensures ∙ ap (λ (w : Span). last_by c.limits_of.result w) c.window_of.ensures ∙ ap (λ (l : Limits). last_by l (window_of c.args.row)) (c.limits_of.ensures free) in
    subst (λ (w : Way). reached c.args.row.value c.last_in.result w ≡ reach_of w (conditions_at c.args.airport.now c.args.class free) c.args.row) (sym c.in-Forward.is)
    (ap (λ (n : ℕ). reached c.args.row.value n Forward) last)
