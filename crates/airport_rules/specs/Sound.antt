-- What every plan keeps that the rules have let through.
use Rattle.std.specs.Prelude.{◌≡◌, ◌<◌, ◌≤◌, length, IfSome, IsTrue, All, AllPairs}
use Rattle.taxi_base.specs.declared.numbers.Node.{Node}
use Rattle.taxi_base.specs.Airport.{AreNames, IsConflictSet, pair_precedes, link_ends}
use Rattle.airport_rules.specs.declared.rows.TimeRow.{TimeRow}
use Rattle.airport_rules.specs.declared.rows.ClearanceRow.{ClearanceRow}
use Rattle.airport_rules.specs.Plan.{Plan, layout_of_plan}
use Rattle.airport_rules.specs.Rules.{goes_on}

abbrev pub IsSoundTime : Plan → TimeRow → Type 0
IsSoundTime plan t = (t.segment.0 < length plan.segments) × (t.class.0 < length plan.classes) × (1 ≤ t.seconds) × (t.seconds ≤ 3600)

abbrev pub IsSoundClearance : Plan → ClearanceRow → Type 0
IsSoundClearance plan r = (r.class.0 < length plan.classes) × (r.seconds ≤ 600)

pub record IsSound (plan : Plan) : Type 0 where
  pub horizon : IfSome plan.horizon (λ h. (1 ≤ h) × (h ≤ 604800))
  pub nodes : AreNames 10000 plan.nodes
  pub kinds : length plan.kinds ≡ length plan.nodes
  pub classes : AreNames 32 plan.classes
  pub segments : AreNames 10000 plan.segments
  pub links : length plan.links ≡ length plan.segments
  pub within : All (λ l. (l.from.0 < length plan.nodes) × (l.to.0 < length plan.nodes)) plan.links
  pub degree : (node : Node) → link_ends node plan.links ≤ 32
  pub times : All (IsSoundTime plan) plan.times
  pub clearances : All (IsSoundClearance plan) plan.clearances
  pub few_forbidden : length plan.forbidden ≤ 50000
  pub forbidden : All (λ p. IsTrue (goes_on (layout_of_plan plan) p.0 p.1)) plan.forbidden
  pub forbidden_order : AllPairs (λ p q. IsTrue (pair_precedes p q)) plan.forbidden
  pub few_conflicts : length plan.conflicts ≤ 10000
  pub conflicts : All (IsConflictSet (length plan.segments)) plan.conflicts
