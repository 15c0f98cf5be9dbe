-- The search of an arrival, by how its walk begins.
use Rattle.std.proofs.Common.{◌≡◌, ◌∙◌, ℕ, ◌+◌, ◌-◌, ◌<◌, ◌≤◌, max, List, [], ◌∷◌, length, take, Option, Some, None, refl, sym, subst, arith}
use Rattle.std.specs.Prelude.{Result, Ok, Err, IfOk, MatchOption, All}
use Rattle.std.specs.Option.{option_map_or, ForSome}
use Rattle.std.proofs.lemmas.Option.{slice_get_within, get_or_from_slice_get}
use Rattle.std.proofs.lemmas.List.{length-take, get_or-take}
use Rattle.taxi_base.specs.declared.numbers.Node.{Node}
use Rattle.taxi_base.specs.declared.rows.Step.{Step}
use Rattle.taxi_base.specs.declared.rows.LabelRow.{LabelRow}
use Rattle.taxi_base.specs.declared.answers.Request.TheVariants.{Arrival}
use Rattle.taxi_base.specs.Airport.{Airport}
use Rattle.taxi_base.specs.Walks.{Conditions}
use Rattle.taxi_base.specs.State.{entered_count, step_begun}
use Rattle.walk_labels.specs.Requests.{Beginning}
use Rattle.walk_labels.specs.Requests.Beginning.{at_node, resuming}
use Rattle.walk_labels.specs.Rules.{IsStartBy}
use Rattle.check_rows.specs.declared.arrivals.Begin.{Begin}
use Rattle.check_rows.specs.declared.arrivals.Begin.TheVariants.{AtNode, Resuming}
use Rattle.table_rows.specs.declared.reach.Way.TheVariants.{Forward}
use Rattle.check_rows.specs.declared.verdict.RowRule.{RowRule}
use Rattle.check_rows.specs.Rules.{beginning_of, CanCheck, IsTableVerdict}
use Rattle.check_rows.specs.Verdict.{IsVerdict}
use Rattle.replies.specs.Sought.{UnderWay, Search}
use Rattle.replies.specs.TableRules.{KeepsRows, KeepsStart, KeepsStep, KeepsTarget}
use Rattle.check_walks.specs.Course.{beginning_for}
use Rattle.check_walks.specs.Told.{IsVerdictOn}
use Rattle.check_walks.proofs.CourseLaws.{arrival-search}

-- what is asked of a beginning that can be checked
abbrev CanBegin : Airport → Beginning → Type 0
CanBegin airport (at_node node earliest latest) = node.0 < length airport.nodes
CanBegin airport (resuming begun exit_from) = begun.enter ≤ 9999999

can-check : (airport : Airport) (begin : Begin) → CanBegin airport (beginning_of begin) → CanCheck airport begin
can-check airport (AtNode node earliest latest) can = can
can-check airport (Resuming begun exit_from) can = can

-- the step that was begun is one of the steps
begun-early : (time bound : ℕ) (steps : List Step) (begun : Step) → step_begun time steps ≡ Some begun → All (λ step. step.enter ≤ bound) steps → begun.enter ≤ bound
begun-early time bound steps begun is early =
    let n : ℕ = entered_count time steps in
    let low : n - 1 < length (take n steps) = slice_get_within (take n steps) (n - 1) begun is in
    let here = get_or_from_slice_get (take n steps) (n - 1) begun begun is in
    let at = early (n - 1) begun (omega (arith, low, length-take n steps)) in
    let there = get_or-take n steps (n - 1) begun (omega (arith, low, length-take n steps)) in
    subst (λ (s : Step). s.enter ≤ bound) (sym there ∙ here) at

pub can-begin : (airport : Airport) (from : Node) (asked hold : ℕ) (way : Option UnderWay) (begin : Begin) → beginning_of begin ≡ beginning_for from asked hold way → from.0 < length airport.nodes
    → ForSome way (λ w. All (λ step. step.enter ≤ 9999999) w.steps) → CanCheck airport begin
can-begin airport from asked hold way begin is on early = can-check airport begin (subst (CanBegin airport) (sym is) (can way early)) where
  can : (way : Option UnderWay) → ForSome way (λ w. All (λ step. step.enter ≤ 9999999) w.steps) → CanBegin airport (beginning_for from asked hold way)
  can None early = on
  can (Some w) early = go (step_begun w.time w.steps) refl where
    go : (o : Option Step) → step_begun w.time w.steps ≡ o → CanBegin airport (option_map_or (λ begun. resuming begun w.time) o (at_node from (max asked w.time) (asked + hold)))
    go None e = on
    go (Some begun) e = begun-early w.time 9999999 w.steps begun e (early w refl)

-- the first rule that the table breaks is that for the search
pub arrival-verdict : (c : Conditions) (from to : Node) (asked hold : ℕ) (way : Option UnderWay) (begin : Begin) → beginning_of begin ≡ beginning_for from asked hold way
    → (bound : Option ℕ) (rows : List LabelRow) {E : Type 0} (r : Result (Option RowRule) E) → IfOk r (IsTableVerdict Forward c (IsStartBy c (beginning_of begin)) (to ∷ []) bound rows)
    → IfOk r (IsVerdictOn c (Arrival from to asked hold) [] way bound rows)
arrival-verdict c from to asked hold way begin is bound rows (Err e) told = tt
arrival-verdict c from to asked hold way begin is bound rows (Ok verdict) told =
    subst
    (λ (o : Option Search). MatchOption o ⊥ (λ search. IsVerdict (KeepsRows c rows) (KeepsStart c search bound rows) (KeepsStep c search bound rows) (KeepsTarget c search bound rows) verdict))
    (sym (arrival-search c from to asked hold way))
    (subst (λ (b : Beginning). IsTableVerdict Forward c (IsStartBy c b) (to ∷ []) bound rows verdict) is told)
