-- What can be said of steps without what others hold? No public clause cites these.
use Rattle.std.specs.Prelude.{ℕ, ◌+◌, ◌-◌, ◌<◌, Bool, false, ◌&&◌, ◌==◌, nat_le, List, length, Option, ⊤}
use Rattle.std.specs.Option.{option_map_or}
use Rattle.std.specs.List.{AllAdjacentBelow}
use Rattle.taxi_base.specs.declared.numbers.Class.{Class}
use Rattle.taxi_base.specs.declared.numbers.Node.{Node}
use Rattle.taxi_base.specs.declared.rows.Step.{Step}
use Rattle.taxi_base.specs.declared.answers.Request.{Request}
use Rattle.taxi_base.specs.declared.answers.Request.TheVariants.{Filed, Arrival, Departure}
use Rattle.taxi_base.specs.Airport.{Airport, Layout, layout_of, arc_exists, segment_of, seconds, permits}
use Rattle.taxi_base.specs.Walks.{Follows, AtFirst, AtLast, LeavesNode, ReachesNodeWithin}
use Rattle.replies.specs.Sought.{UnderWay}
use Rattle.check_walks.specs.Course.{beginning_for, done_for, GoesBy}

-- whether a step takes the time that its class needs
abbrev pub lasts : Airport → Class → Step → Bool
lasts airport class step = option_map_or (λ n. nat_le (step.enter + n) step.leave) (seconds airport class (segment_of step.arc)) false

-- whether a class could make a step if nothing were held
abbrev pub is_possible : Airport → Class → Step → Bool
is_possible airport class step = arc_exists (layout_of airport) step.arc && (nat_le step.leave airport.horizon && lasts airport class step)

abbrev pub follows : Layout → Step → Step → Bool
follows layout step next = step.leave == next.enter && permits layout step.arc next.arc

-- there is a step, and each follows the one before
abbrev pub IsChain : Layout → List Step → Type 0
IsChain layout steps = (0 < length steps) × AllAdjacentBelow (Follows layout) steps (length steps)

-- a walk leads from one node to another, and ends within a time
abbrev pub Departs : Layout → Node → Node → ℕ → ℕ → List Step → Type 0
Departs layout from to earliest latest steps = AtFirst (LeavesNode layout from) steps × AtLast (ReachesNodeWithin layout to earliest latest) steps

-- a walk begins and ends as was asked
abbrev pub GoesAsAsked : Layout → Request → Option UnderWay → List Step → Type 0
GoesAsAsked layout Filed way steps = ⊤
GoesAsAsked layout (Arrival from to time hold) way steps = GoesBy layout (done_for way) (beginning_for from time hold way) to steps
GoesAsAsked layout (Departure from to time queue) way steps = Departs layout from to (time - queue) time steps
