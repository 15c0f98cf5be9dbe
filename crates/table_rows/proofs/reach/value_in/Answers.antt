use Rattle.std.proofs.Common.{◌≡◌, ◌↔◌, ◌+◌, ◌≤◌, ℕ, Some, max, min, sym, ◌∙◌, ap, subst}
use Rattle.table_rows.specs.declared.limits.Limits.{Limits}
use Rattle.table_rows.specs.declared.reach.Way.{Way}
use Rattle.table_rows.specs.Limits.{last_by}
use Rattle.table_rows.specs.Reached.{IsValueIn}
use Rattle.table_rows.proofs.reach.value_in.Goals as goal

pub returns-in-Forward : goal.returns-in-Forward
returns-in-Forward c conditions v is =
    let last = c.last_in-last.ensures ∙ ap (λ (l : Limits). last_by l c.args.window) is in
    let value = subst (λ (n : ℕ). (c.left_in.result ≡ Some v) ↔ ((max c.args.reach.from c.args.window.from ≤ c.args.reach.by) × (v ≡ max c.args.reach.from c.args.window.from + c.args.seconds) × (v ≤ n)))
    last (c.left_in.ensures v) in
    subst (λ (w : Way). (c.left_in.result ≡ Some v) ↔ IsValueIn w conditions c.args.reach.from c.args.reach.by c.args.seconds c.args.window v) (sym c.in-Forward.is) value

pub returns-in-Backward : goal.returns-in-Backward
returns-in-Backward c conditions v is =
    let last = c.last_in-last.ensures ∙ ap (λ (l : Limits). last_by l c.args.window) is in
    let value = subst (λ (n : ℕ). (c.entered_in.result ≡ Some v) ↔ ((c.args.reach.from ≤ min c.args.reach.by n) × (v + c.args.seconds ≡ min c.args.reach.by n) × (c.args.window.from ≤ v)))
    last (c.entered_in.ensures v) in
    subst (λ (w : Way). (c.entered_in.result ≡ Some v) ↔ IsValueIn w conditions c.args.reach.from c.args.reach.by c.args.seconds c.args.window v) (sym c.in-Backward.is) value
