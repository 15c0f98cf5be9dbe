-- Which rule does a table of labels break first? For labels that come of one another going on in time, and going back.
use Rattle.std.specs.Prelude.{ℕ, ◌≡◌, ◌<◌, ◌≤◌, List, length, Option, Some, All, Contains}
use Rattle.taxi_base.specs.declared.numbers.Node.{Node}
use Rattle.taxi_base.specs.declared.numbers.Arc.{Arc}
use Rattle.taxi_base.specs.declared.rows.LabelRow.{LabelRow}
use Rattle.taxi_base.specs.Airport.{Airport, Layout, layout_of, head, tail}
use Rattle.taxi_base.specs.Walks.{Conditions}
use Rattle.walk_labels.specs.Places.{IsPlace, place_of}
use Rattle.taxi_base.specs.Choices.{OneOf}
use Rattle.walk_labels.specs.Requests.{Beginning}
use Rattle.walk_labels.specs.Requests.Beginning.{at_node, resuming}
use Rattle.walk_labels.specs.Rules.{IsNext}
use Rattle.walk_labels.specs.BackwardRules.{IsPrevious}
use Rattle.check_rows.specs.declared.arrivals.Begin.{Begin}
use Rattle.check_rows.specs.declared.arrivals.Begin.TheVariants.{AtNode, Resuming}
use Rattle.table_rows.specs.declared.reach.Way.{Way}
use Rattle.table_rows.specs.declared.reach.Way.TheVariants.{Forward, Backward}
use Rattle.check_rows.specs.declared.verdict.RowRule.{RowRule}
use Rattle.table_rows.specs.Rows.{AreOrdered}
use Rattle.table_rows.specs.HasRows.{IsShort, HasAsGood, HasEach}
use Rattle.check_rows.specs.Verdict.{IsVerdict}

-- ---- how walks begin

abbrev pub beginning_of : Begin → Beginning
beginning_of (AtNode node earliest latest) = at_node node earliest latest
beginning_of (Resuming begun exit_from) = resuming begun exit_from

-- the node is one of the airport's; a step that was begun is entered at a second of seven digits
abbrev pub CanCheck : Airport → Begin → Type 0
CanCheck airport (AtNode node earliest latest) = node.0 < length airport.nodes
CanCheck airport (Resuming begun exit_from) = begun.enter ≤ 9999999

-- ---- the two ways

-- a label comes of another
abbrev pub ComesOf : Way → Conditions → LabelRow → LabelRow → Type 0
ComesOf Forward c row label = IsNext c row label
ComesOf Backward c row label = IsPrevious c row label

-- the end of an arc to which a way leads
abbrev pub far_end : Way → Layout → Arc → Option Node
far_end Forward layout arc = head layout arc
far_end Backward layout arc = tail layout arc

-- ---- the rules

-- rule `rows`: the rows are of places, in order
abbrev pub AreAtPlaces : Conditions → List LabelRow → Type 0
AreAtPlaces c rows = AreOrdered rows × All (λ row. IsPlace c (place_of row)) rows

-- rule `step`: each label that comes of a row, if short of the bound, has a row that is at least as good
abbrev pub AreClosed : Way → Conditions → Option ℕ → List LabelRow → Type 0
AreClosed way c bound rows =
    (row label : LabelRow) → Contains rows row → ComesOf way c row label → IsShort way bound label.value → HasAsGood way rows label

-- rule `target`: no row leads to one of the nodes, and each is short of the bound
abbrev pub FallShort : Way → Conditions → List Node → Option ℕ → List LabelRow → Type 0
FallShort way c nodes bound rows =
    All (λ row. OneOf (λ node. far_end way (layout_of c.airport) row.arc ≡ Some node) nodes → ⊥) rows × All (λ row. IsShort way bound row.value) rows

-- the first of these rules that fails, where rule `start` is that each start has a row that is at least as good
abbrev pub IsTableVerdict : Way → Conditions → (LabelRow → Type 0) → List Node → Option ℕ → List LabelRow → Option RowRule → Type 0
IsTableVerdict way c IsStart nodes bound rows =
    IsVerdict (AreAtPlaces c rows) (HasEach way IsStart bound rows) (AreClosed way c bound rows) (FallShort way c nodes bound rows)
