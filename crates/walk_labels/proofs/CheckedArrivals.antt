-- What the rules say of an arrival's request, from a node or under way.
use Rattle.std.proofs.Common.{◌≡◌, ℕ, ◌≤◌, List, [], ◌∷◌, IsTrue, Option, Some, None}
use Rattle.std.specs.Prelude.{AllPairs, Contains}
use Rattle.taxi_base.specs.declared.numbers.Node.{Node}
use Rattle.taxi_base.specs.declared.rows.Step.{Step}
use Rattle.taxi_base.specs.declared.rows.LabelRow.{LabelRow}
use Rattle.taxi_base.specs.declared.answers.Found.{Found}
use Rattle.taxi_base.specs.Airport.{layout_of}
use Rattle.taxi_base.specs.Walks.{Conditions, IsFeasibleWalk, IsRoute, end_of}
use Rattle.taxi_base.specs.State.{step_begun, steps_done, IsResumed}
use Rattle.taxi_base.specs.Labels.{IsStepOf, precedes, IsTable, IsExitBefore, AnswersArrival}
use Rattle.label_core.specs.Walks.{Start}
use Rattle.label_core.specs.Tables.{IsBelow}
use Rattle.walk_labels.specs.Places.{AreFit, Place, IsPlace, is_place, network_of, place_of}
use Rattle.walk_labels.specs.Requests.Beginning.{resuming}
use Rattle.taxi_base.specs.Choices.{ReachesOneOf}
use Rattle.walk_labels.specs.Requests.{Beginning, BeginsBy, CanBegin, BeginsInTime, AreStarts, starts_by}
use Rattle.walk_labels.specs.Rules.{IsStartResuming, IsStartBy, IsNext, HasAsEarly, PassesForward, PassesArrival}
use Rattle.walk_labels.proofs.PlaceCells.{is_place-true}
use Rattle.walk_labels.proofs.RequestCells.{starts_by-are}
use Rattle.walk_labels.proofs.RuleStarts.{start_known, start_entry}
use Rattle.walk_labels.proofs.CheckedTables.{passed_none_sooner, passed_none_at_all, table_passes, answer_passes, closed_is_table}
use Rattle.walk_labels.proofs.FrozenWalks.{step_begun_made, frozen_none_sooner, frozen_none}

-- ---- by a beginning

module _ (c : Conditions) (fit : AreFit c) (b : Beginning) (can : CanBegin c b) where
  starts : Place → Option Start
  starts = starts_by (layout_of c.airport) (is_place c) (λ q. q) b

  are_starts : AreStarts c (network_of c) (λ p. p) (BeginsBy (layout_of c.airport) b) starts
  unfolding starts
  are_starts = starts_by-are c (network_of c) (λ q. q) (is_place c) (is_place-true c fit) b

  pub begun_none_sooner : (to : List Node) (end : ℕ) (rows : List LabelRow) → PassesForward c (IsStartBy c b) to (Some end) rows
      → (steps : List Step) → IsRoute c (BeginsBy (layout_of c.airport) b) (ReachesOneOf (layout_of c.airport) to) steps → end ≤ end_of steps
  unfolding starts
  begun_none_sooner = passed_none_sooner c fit (BeginsBy (layout_of c.airport) b) starts are_starts (IsStartBy c b) (start_known c fit b can)

  pub begun_none_at_all : (to : List Node) (rows : List LabelRow) → PassesForward c (IsStartBy c b) to None rows
      → (steps : List Step) → IsRoute c (BeginsBy (layout_of c.airport) b) (ReachesOneOf (layout_of c.airport) to) steps → ⊥
  unfolding starts
  begun_none_at_all = passed_none_at_all c fit (BeginsBy (layout_of c.airport) b) starts are_starts (IsStartBy c b) (start_known c fit b can)

  pub begun_closed_table : (bound : Option ℕ) (rows : List LabelRow) → AllPairs (λ p q. IsTrue (precedes p q)) rows
      → ((row : LabelRow) → Contains rows row → IsPlace c (place_of row) × ((steps : List Step) × IsRoute c (BeginsBy (layout_of c.airport) b) (IsStepOf c row) steps × (end_of steps ≡ row.value)) × IsBelow bound row.value)
      → ((label : LabelRow) → IsStartBy c b label → IsBelow bound label.value → HasAsEarly rows label)
      → ((row next : LabelRow) → Contains rows row → IsNext c row next → IsBelow bound next.value → HasAsEarly rows next)
      → IsTable (IsExitBefore c (BeginsBy (layout_of c.airport) b) bound) rows
  unfolding starts
  begun_closed_table = closed_is_table c fit (BeginsBy (layout_of c.airport) b) starts are_starts (IsStartBy c b) (start_known c fit b can)

  module _ (in_time : BeginsInTime b) where
    pub begun_table_passes : (to : List Node) (bound : Option ℕ) (rows : List LabelRow) → IsTable (IsExitBefore c (BeginsBy (layout_of c.airport) b) bound) rows
        → ((steps : List Step) → IsRoute c (BeginsBy (layout_of c.airport) b) (ReachesOneOf (layout_of c.airport) to) steps → IsBelow bound (end_of steps) → ⊥) → PassesForward c (IsStartBy c b) to bound rows
    unfolding starts
    begun_table_passes = table_passes c fit (BeginsBy (layout_of c.airport) b) starts are_starts (IsStartBy c b) (start_entry c fit b can in_time)

    pub begun_answer_passes : (to : Node) (found : Found) → AnswersArrival c (BeginsBy (layout_of c.airport) b) to found → PassesArrival c (IsStartBy c b) (to ∷ []) found
    unfolding starts
    begun_answer_passes = answer_passes c fit (BeginsBy (layout_of c.airport) b) starts are_starts (IsStartBy c b) (start_entry c fit b can in_time)

-- ---- under way, with the steps done before

module _ (c : Conditions) (fit : AreFit c) (old : List Step) (walk : IsFeasibleWalk c old) (time : ℕ) (begun : Step) (is : step_begun time old ≡ Some begun) where
  pub resumed_none_sooner : (to : Node) (end : ℕ) (rows : List LabelRow) → PassesForward c (IsStartResuming c begun time) (to ∷ []) (Some end) rows
      → (steps : List Step) → IsResumed c (steps_done time old) begun time to steps → end ≤ end_of steps
  resumed_none_sooner to end rows passes =
      frozen_none_sooner c old walk time begun is to end (begun_none_sooner c fit (resuming begun time) (step_begun_made c old walk time begun is) (to ∷ []) end rows passes)

  pub resumed_none_at_all : (to : Node) (rows : List LabelRow) → PassesForward c (IsStartResuming c begun time) (to ∷ []) None rows
      → (steps : List Step) → IsResumed c (steps_done time old) begun time to steps → ⊥
  resumed_none_at_all to rows passes =
      frozen_none c old walk time begun is to (begun_none_at_all c fit (resuming begun time) (step_begun_made c old walk time begun is) (to ∷ []) rows passes)
