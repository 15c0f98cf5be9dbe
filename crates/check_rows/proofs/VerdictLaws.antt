-- Where no rule fails the table passes, and where it passes no rule can fail.
use Rattle.std.proofs.Common.{◌≡◌, ◌↔◌, ℕ, List, [], ◌∷◌, Option, Some, None, refl}
use Rattle.taxi_base.specs.declared.numbers.Node.{Node}
use Rattle.taxi_base.specs.declared.rows.LabelRow.{LabelRow}
use Rattle.taxi_base.specs.Walks.{Conditions}
use Rattle.walk_labels.specs.Rules.{PassesForward}
use Rattle.walk_labels.specs.BackwardRules.{PassesBackward}
use Rattle.table_rows.specs.declared.reach.Way.TheVariants.{Forward, Backward}
use Rattle.check_rows.specs.declared.verdict.RowRule.{RowRule}
use Rattle.check_rows.specs.declared.verdict.RowRule.TheVariants.{Rows, Start, Step, Target}
use Rattle.check_rows.specs.Verdict.{IsVerdict}
use Rattle.table_rows.specs.HasRows.{HasEach}
use Rattle.check_rows.specs.Rules.{AreAtPlaces, AreClosed, FallShort, IsTableVerdict}

verdict-none : (A B C D : Type 0) (verdict : Option RowRule) → IsVerdict A B C D verdict → (verdict ≡ None) ↔ (A × B × C × D)
verdict-none A B C D None all = (λ _. all, λ _. refl)
verdict-none A B C D (Some Rows) fails = (λ e. absurd (cc e), λ all. absurd (fails all.0))
verdict-none A B C D (Some Start) fails = (λ e. absurd (cc e), λ all. absurd (fails.1 all.1))
verdict-none A B C D (Some Step) fails = (λ e. absurd (cc e), λ all. absurd (fails.2 all.2))
verdict-none A B C D (Some Target) fails = (λ e. absurd (cc e), λ all. absurd (fails.3 all.3))

module _ (c : Conditions) (bound : Option ℕ) (rows : List LabelRow) (verdict : Option RowRule) where
  pub arrival-passes : (IsStart : LabelRow → Type 0) (to : List Node) → IsTableVerdict Forward c IsStart to bound rows verdict → (verdict ≡ None) ↔ PassesForward c IsStart to bound rows
  arrival-passes IsStart to is =
      let none = verdict-none (AreAtPlaces c rows) (HasEach Forward IsStart bound rows) (AreClosed Forward c bound rows) (FallShort Forward c to bound rows) verdict is in (
        λ e. (
            let all = none.0 e in
            record {
              ordered = all.0.0;
              at_places = all.0.1;
              starts_in = all.1;
              next_in = all.2;
              none_reaches = all.3.0;
              short = all.3.1;
            }),
        λ passes. none.1 (
          (passes.ordered, passes.at_places),
          passes.starts_in,
          passes.next_in,
          (passes.none_reaches, passes.short),
        ),
      )

  pub departure-passes : (IsFinish : LabelRow → Type 0) (from : Node) → IsTableVerdict Backward c IsFinish (from ∷ []) bound rows verdict → (verdict ≡ None) ↔ PassesBackward c IsFinish from bound rows
  departure-passes IsFinish from is =
      let none = verdict-none (AreAtPlaces c rows) (HasEach Backward IsFinish bound rows) (AreClosed Backward c bound rows) (FallShort Backward c (from ∷ []) bound rows) verdict is in (
        λ e. (
            let all = none.0 e in
            record {
              ordered = all.0.0;
              at_places = all.0.1;
              finishes_in = all.1;
              previous_in = all.2;
              none_leaves = all.3.0;
              short = all.3.1;
            }),
        λ passes. none.1 (
          (passes.ordered, passes.at_places),
          passes.finishes_in,
          passes.previous_in,
          (passes.none_leaves, passes.short),
        ),
      )
