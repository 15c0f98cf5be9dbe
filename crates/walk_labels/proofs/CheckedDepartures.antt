-- What the rules say of a departure's request.
use Rattle.std.proofs.Common.{◌≡◌, ℕ, ◌≤◌, List, [], ◌∷◌, IsTrue, Option, Some, None, arith}
use Rattle.std.specs.Prelude.{AllPairs, Contains}
use Rattle.taxi_base.specs.declared.numbers.Node.{Node}
use Rattle.taxi_base.specs.declared.rows.Step.{Step}
use Rattle.taxi_base.specs.declared.rows.LabelRow.{LabelRow}
use Rattle.taxi_base.specs.declared.answers.Found.{Found}
use Rattle.taxi_base.specs.declared.answers.Found.TheVariants.{Route, NoRoute}
use Rattle.taxi_base.specs.Airport.{layout_of}
use Rattle.taxi_base.specs.Walks.{Conditions, IsRoute, LeavesNode, ReachesNodeWithin, begin_of}
use Rattle.taxi_base.specs.Labels.{IsStepOf, precedes, IsTable, IsEntryAfter, AnswersDeparture, AnswersDepartureAfter}
use Rattle.label_core.specs.BackwardWalks.{Finish}
use Rattle.label_core.specs.BackwardTables.{IsAbove}
use Rattle.walk_labels.specs.Places.{AreFit, Place, IsPlace, is_place, network_of, place_of}
use Rattle.taxi_base.specs.Choices.{ReachesOneOfWithin}
use Rattle.walk_labels.specs.Requests.{AreFinishes, finishes_at}
use Rattle.walk_labels.specs.BackwardRules.{IsFinishAt, IsPrevious, HasAsLate, PassesBackward, PassesDeparture, PassesDepartureAfter}
use Rattle.walk_labels.proofs.PlaceCells.{is_place-true}
use Rattle.walk_labels.proofs.RequestCells.{finishes_at-are}
use Rattle.walk_labels.proofs.CheckedEntries.{passed_none_later, passed_none_at_all, table_passes, closed_is_table, nodes_finishes_by, nodes_finish_known, nodes_finish_entry}

module _ (c : Conditions) (fit : AreFit c) (to : List Node) (earliest latest : ℕ) where
  finishes : Place → Option Finish
  finishes = finishes_at (layout_of c.airport) (is_place c) (λ q. q) to earliest latest

  are_finishes : AreFinishes c (network_of c) (λ p. p) (ReachesOneOfWithin (layout_of c.airport) to earliest latest) finishes
  unfolding finishes
  are_finishes = finishes_at-are c (network_of c) (λ q. q) (is_place c) (is_place-true c fit) to earliest latest

  pub ended_none_later : (from : Node) (begin : ℕ) (rows : List LabelRow) → PassesBackward c (IsFinishAt c to earliest latest) from (Some begin) rows
      → (steps : List Step) → IsRoute c (LeavesNode (layout_of c.airport) from) (ReachesOneOfWithin (layout_of c.airport) to earliest latest) steps → begin_of steps ≤ begin
  unfolding finishes
  ended_none_later =
      passed_none_later c fit (ReachesOneOfWithin (layout_of c.airport) to earliest latest) finishes are_finishes earliest (nodes_finishes_by c fit to earliest latest)
      (IsFinishAt c to earliest latest) (nodes_finish_known c fit to earliest latest)

  pub ended_none_at_all : (from : Node) (rows : List LabelRow) → PassesBackward c (IsFinishAt c to earliest latest) from None rows
      → (steps : List Step) → IsRoute c (LeavesNode (layout_of c.airport) from) (ReachesOneOfWithin (layout_of c.airport) to earliest latest) steps → ⊥
  unfolding finishes
  ended_none_at_all =
      passed_none_at_all c fit (ReachesOneOfWithin (layout_of c.airport) to earliest latest) finishes are_finishes earliest (nodes_finishes_by c fit to earliest latest)
      (IsFinishAt c to earliest latest) (nodes_finish_known c fit to earliest latest)

  pub ended_table_passes : (from : Node) (bound : Option ℕ) (rows : List LabelRow) → IsTable (IsEntryAfter c (ReachesOneOfWithin (layout_of c.airport) to earliest latest) bound) rows
      → ((steps : List Step) → IsRoute c (LeavesNode (layout_of c.airport) from) (ReachesOneOfWithin (layout_of c.airport) to earliest latest) steps → IsAbove bound (begin_of steps) → ⊥)
      → PassesBackward c (IsFinishAt c to earliest latest) from bound rows
  unfolding finishes
  ended_table_passes =
      table_passes c fit (ReachesOneOfWithin (layout_of c.airport) to earliest latest) finishes are_finishes earliest (nodes_finishes_by c fit to earliest latest)
      (IsFinishAt c to earliest latest) (nodes_finish_entry c fit to earliest latest)

  pub ended_closed_table : (bound : Option ℕ) (rows : List LabelRow) → AllPairs (λ p q. IsTrue (precedes p q)) rows
      → ((row : LabelRow) → Contains rows row → IsPlace c (place_of row) × ((steps : List Step) × IsRoute c (IsStepOf c row) (ReachesOneOfWithin (layout_of c.airport) to earliest latest) steps × (begin_of steps ≡ row.value)) × IsAbove bound row.value)
      → ((label : LabelRow) → IsFinishAt c to earliest latest label → IsAbove bound label.value → HasAsLate rows label)
      → ((row previous : LabelRow) → Contains rows row → IsPrevious c row previous → IsAbove bound previous.value → HasAsLate rows previous)
      → IsTable (IsEntryAfter c (ReachesOneOfWithin (layout_of c.airport) to earliest latest) bound) rows
  unfolding finishes
  ended_closed_table =
      closed_is_table c fit (ReachesOneOfWithin (layout_of c.airport) to earliest latest) finishes are_finishes earliest (nodes_finishes_by c fit to earliest latest)
      (IsFinishAt c to earliest latest) (nodes_finish_known c fit to earliest latest)

-- ---- at one node alone

module _ (c : Conditions) (fit : AreFit c) (from to : Node) (earliest latest : ℕ) where
  pub node_answer_passes : (found : Found) → AnswersDeparture c from (ReachesNodeWithin (layout_of c.airport) to earliest latest) found → PassesDeparture c (IsFinishAt c (to ∷ []) earliest latest) from found
  node_answer_passes (Route steps labels) answers =
      ended_table_passes c fit (to ∷ []) earliest latest from (Some (begin_of steps)) labels answers.2 (λ others route above. omega (arith, answers.0.latest others route, above))
  node_answer_passes (NoRoute labels) answers = ended_table_passes c fit (to ∷ []) earliest latest from None labels answers.1 (λ others route above. answers.0 others route)

  pub node_answer_after_passes : (bound : ℕ) (found : Found) → AnswersDepartureAfter c from (ReachesNodeWithin (layout_of c.airport) to earliest latest) bound found
      → PassesDepartureAfter c (IsFinishAt c (to ∷ []) earliest latest) from bound found
  node_answer_after_passes bound (Route steps labels) answers = node_answer_passes (Route steps labels) answers.1
  node_answer_after_passes bound (NoRoute labels) answers =
      ended_table_passes c fit (to ∷ []) earliest latest from (Some bound) labels answers.1 (λ others route above. omega (arith, answers.0 others route, above))
