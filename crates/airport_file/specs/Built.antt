-- What an airport keeps beside its plain record.
use Rattle.std.specs.Prelude.{ℕ, ◌≡◌, length}
use Rattle.taxi_base.specs.Airport.{Layout, IsWellFormed}
use Rattle.aircraft_class.specs.Times.{Times}
use Rattle.conflict_sets.specs.Conflicts.{ConflictSets}
use Rattle.airport_rules.specs.Plan.{Plan, layout_of_plan, table_of, clearances_of, airport_of_plan}
use Rattle.airport_rules.specs.Sound.{IsSound}

-- the least times and the clearances of a plan's classes
abbrev pub times_of_plan : Plan → Times
times_of_plan plan = record {
  segments = length plan.segments;
  table = table_of (length plan.classes) (length plan.segments) plan.times;
  clearances = clearances_of (length plan.classes) plan.clearances;
}

abbrev pub conflicts_of_plan : Plan → ConflictSets
conflicts_of_plan plan = record { segments = length plan.segments; sets = plan.conflicts }

-- the plan is sound and has this horizon's airport, and the layout, the table and the sets are those of the plan
pub record IsBuilt (horizon : ℕ) (plan : Plan) (layout : Layout) (table : Times) (sets : ConflictSets) : Type 0 where
  pub sound : IsSound plan
  pub well_formed : IsWellFormed (airport_of_plan horizon plan)
  pub graph : layout ≡ layout_of_plan plan
  pub times : table ≡ times_of_plan plan
  pub conflicts : sets ≡ conflicts_of_plan plan
