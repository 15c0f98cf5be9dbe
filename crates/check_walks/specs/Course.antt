-- Which steps of an arrival stay, and how does its walk begin after them?
use Rattle.std.specs.Prelude.{ℕ, Bool, ◌&&◌, ◌==◌, nat_le, ◌≡◌, ◌+◌, max, List, [], ◌++◌, Option, Some, None, option_map, MatchOption}
use Rattle.std.specs.Option.{option_map_or}
use Rattle.taxi_base.specs.declared.numbers.Node.{Node}
use Rattle.taxi_base.specs.declared.rows.Step.{Step}
use Rattle.taxi_base.specs.declared.answers.Request.{Request}
use Rattle.taxi_base.specs.Airport.{Layout}
use Rattle.taxi_base.specs.Walks.{Conditions, AtFirst, AtLast, ReachesNode, Meets}
use Rattle.taxi_base.specs.State.{step_begun, steps_done}
use Rattle.walk_labels.specs.Requests.{Beginning, BeginsBy}
use Rattle.walk_labels.specs.Requests.Beginning.{at_node, resuming}
use Rattle.replies.specs.Sought.{UnderWay, IsWalkOnFor}
use Rattle.check_walks.specs.declared.course.OnTheWay.{OnTheWay}

abbrev pub way_of : Option OnTheWay → Option UnderWay
way_of way = option_map (λ w. record { steps = w.steps.now; time = w.time }) way

-- a walk that does what is asked, for a new flight or for one that is under way, with no other node that it may reach
abbrev pub IsWalkIn : Conditions → Request → Option UnderWay → List Step → Type 0
IsWalkIn c request way steps = MatchOption way (Meets c request steps) (λ w. IsWalkOnFor c request w steps)

-- ---- no public clause cites these

-- the walk begins at the node, or goes on with the step that was entered last
abbrev pub beginning_for : Node → ℕ → ℕ → Option UnderWay → Beginning
beginning_for from asked hold None = at_node from asked (asked + hold)
beginning_for from asked hold (Some way) =
    option_map_or (λ begun. resuming begun way.time) (step_begun way.time way.steps) (at_node from (max asked way.time) (asked + hold))

-- the steps before that one stay
abbrev pub done_for : Option UnderWay → List Step
done_for None = []
done_for (Some way) = option_map_or (λ begun. steps_done way.time way.steps) (step_begun way.time way.steps) []

-- the steps are those that stay and others, which begin so and lead to the node
abbrev pub LeadsOn : Layout → Beginning → Node → List Step → Type 0
LeadsOn layout begin to rest = AtFirst (BeginsBy layout begin) rest × AtLast (ReachesNode layout to) rest

abbrev pub GoesBy : Layout → List Step → Beginning → Node → List Step → Type 0
GoesBy layout done begin to steps = (rest : List Step) × (steps ≡ done ++ rest) × LeadsOn layout begin to rest

abbrev pub is_within : ℕ → ℕ → ℕ → Bool
is_within second earliest latest = nat_le earliest second && nat_le second latest

-- whether a step goes on with one that was begun, and does not leave before a time
abbrev pub resumes : Step → ℕ → Step → Bool
resumes begun exit_from step = step.arc.0 == begun.arc.0 && (step.enter == begun.enter && nat_le exit_from step.leave)
