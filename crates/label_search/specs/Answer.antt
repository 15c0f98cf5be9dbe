-- What does a search answer?
use Rattle.std.specs.Prelude.{ℕ, ◌<◌, Option}
use Rattle.std.specs.Option.{option_map}
use Rattle.label_core.specs.Walks.{Step}
use Rattle.label_search.specs.declared.pick.CellStep.{CellStep}
use Rattle.label_search.specs.declared.forward.Route.{Route}
use Rattle.label_search.specs.declared.settle.Goal.{Goal}

abbrev pub step_of : CellStep → Step ℕ
step_of s = record { cell = s.cell; enter = s.enter; leave = s.leave }

-- the best end, or the best begin, if there is a route
abbrev pub best_of : Option Route → Option ℕ
best_of route = option_map (λ r. r.best) route

-- the order of the cells is that of their numbers
abbrev pub ComesBefore : ℕ → ℕ → Type 0
ComesBefore x y = x < y

-- the goal's value, if there is a goal
abbrev pub end_of_goal : Option Goal → Option ℕ
end_of_goal goal = option_map (λ g. g.end) goal
