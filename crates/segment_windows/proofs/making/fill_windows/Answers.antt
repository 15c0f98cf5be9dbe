use Rattle.std.proofs.Common.{rules, ◌≡◌, List, ◌∙◌, sym, subst, ap}
use Rattle.std.specs.List.Sorted.{IsNonDecreasingBy}
use Rattle.std.proofs.lemmas.List.Sorted.{IsNonDecreasingBy-from_sort_by_key}
use Rattle.taxi_base.specs.declared.rows.Span.{Span}
use Rattle.taxi_base.specs.Windows.{is_free, AreWindows}
use Rattle.segment_windows.specs.Gaps.{gaps}
use Rattle.segment_windows.proofs.GapLaws.{gaps-are}
use Rattle.segment_windows.proofs.making.fill_windows.Goals as goal

pub returns : goal.returns
returns g c =
    let sorted = c.sort_unstable_by_key.new.self.items in
    let up : IsNonDecreasingBy (λ (s : Span). s.from) sorted = IsNonDecreasingBy-from_sort_by_key (λ (s : Span). s.from) sorted c.sort_unstable_by_key.ensures.sorted (λ a r f k. search (rules)) in
    let windows = gaps-are c.args.conflicts.now.sets c.args.horizon (g.H.HoldsOf.held c.args.holds.now) c.args.segment c.of.result.now c.fill_busy.new.busy.items sorted c.of.ensures.all c.in_ok-fill_busy.ensures.some c.in_ok-fill_busy.ensures.same c.sort_unstable_by_key.ensures.permutation up in
    let is : c.fill_gaps.new.windows.items ≡ gaps 0 c.args.horizon sorted = c.in_ok-fill_gaps.ensures ∙ ap (λ (spans : List Span). gaps 0 c.args.horizon spans) c.deref.ensures.value in
    subst (λ (ws : List Span). AreWindows (is_free c.args.conflicts.now.sets c.args.horizon (g.H.HoldsOf.held c.args.holds.now) c.args.segment) ws) (sym is) windows
