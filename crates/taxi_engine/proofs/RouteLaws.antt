-- A walk's steps are by arcs of the airport, some and few; and the labels that are found are by its arcs.
use Rattle.std.proofs.Common.{ℕ, ◌<◌, ◌^◌, List, length, sym, subst, arith}
use Rattle.std.specs.Prelude.{All}
use Rattle.std.proofs.lemmas.List.Elements.{All-weaker}
use Rattle.taxi_base.specs.declared.numbers.Class.{Class}
use Rattle.taxi_base.specs.declared.numbers.Node.{Node}
use Rattle.taxi_base.specs.declared.rows.Step.{Step}
use Rattle.taxi_base.specs.declared.rows.LabelRow.{LabelRow}
use Rattle.taxi_base.specs.declared.answers.Found.{Found}
use Rattle.taxi_base.specs.declared.answers.Request.{Request}
use Rattle.taxi_base.specs.Airport.{Airport, IsWellFormed}
use Rattle.taxi_base.specs.Windows.{Hold}
use Rattle.taxi_base.specs.Walks.{IsFeasibleStep, conditions_among}
use Rattle.taxi_base.specs.Again.{AnswersAgain}
use Rattle.taxi_base.proofs.WalkLaws.{IsFeasibleWalk-steps, conditions_among-bounded}
use Rattle.replies.specs.Printable.{HasArc, IsPrintableLabel}
use Rattle.replies.specs.Asked.{AnswersRequest}
use Rattle.replies.proofs.FoundLaws.{walk-few, walk-some, ArePrintableLabels, labels_of, found-printable, found_again-printable}
use Rattle.taxi_engine.specs.Routed.{IsWalkOn}

module _ (airport : Airport) (steps : List Step) (on : IsWalkOn airport steps) where
  pub walk-arcs : All (λ s. HasArc airport s.arc) steps
  walk-arcs =
      subst (λ (a : Airport). All (λ s. HasArc a s.arc) steps) on.here
      (All-weaker (IsFeasibleStep on.conditions) (λ s. HasArc on.conditions.airport s.arc) (λ s made. made.on_arc) steps (IsFeasibleWalk-steps on.conditions steps on.walk))

  pub walk-steps : 0 < length steps
  walk-steps = walk-some on.conditions steps on.walk

  pub steps-few : IsWellFormed airport → length steps < 2 ^ 32
  steps-few well =
      let rules : IsWellFormed on.conditions.airport = subst IsWellFormed (sym on.here) well in
      omega (arith, walk-few on.conditions rules steps on.walk, rules.horizon.1)

-- labels that can be printed are of the airport's arcs
pub printable-arcs : (airport : Airport) (labels : List LabelRow) → ArePrintableLabels airport labels → All (λ label. HasArc airport label.arc) labels
printable-arcs airport labels printable = All-weaker (IsPrintableLabel airport) (λ label. HasArc airport label.arc) (λ label fine. fine.0) labels printable.1

module _ (airport : Airport) (class : Class) (holds : List Hold) (well : IsWellFormed airport) where
  pub label-arcs : (request : Request) (answer : Found) → AnswersRequest (conditions_among airport class holds) request answer → All (λ label. HasArc airport label.arc) (labels_of answer)
  label-arcs request answer answers =
      printable-arcs airport (labels_of answer) (found-printable (conditions_among airport class holds) well (conditions_among-bounded airport class holds) request answer answers)

  pub label-arcs_again : (old : List Step) (time : ℕ) (target : Node) (request : Request) (answer : Found) → AnswersAgain (conditions_among airport class holds) old time target request answer
      → All (λ label. HasArc airport label.arc) (labels_of answer)
  label-arcs_again old time target request answer answers =
      printable-arcs airport (labels_of answer) (found_again-printable (conditions_among airport class holds) well (conditions_among-bounded airport class holds) old time target request answer answers)
