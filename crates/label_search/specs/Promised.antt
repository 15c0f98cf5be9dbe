-- What does a search promise of what it was asked?
use Rattle.std.specs.Prelude.{ℕ, List, Option, map}
use Rattle.label_core.specs.Best.{IsBestEnd, HasNoWalk, IsPickedRoute}
use Rattle.label_core.specs.BackwardBest.{IsBestBegin, HasNoWalkFrom, IsPickedRouteOn}
use Rattle.label_search.specs.declared.forward.Route.{Route}
use Rattle.label_search.specs.declared.values.CellValue.{CellValue}
use Rattle.label_search.specs.Problem.{Problem}
use Rattle.label_search.specs.Backward.{BackwardProblem}
use Rattle.label_search.specs.Answer.{step_of, ComesBefore}
use Rattle.label_search.specs.Values.{TellExits, TellEntries}

-- no walk ends sooner, and one ends then
abbrev pub IsBestFor : Problem → ℕ → Type 0
IsBestFor p end = IsBestEnd p.network p.starts p.target end

-- the route is the picked one of those that end soonest
abbrev pub IsPickedFor : Problem → Route → Type 0
IsPickedFor p route = IsPickedRoute p.network p.starts ComesBefore p.target route.best (map step_of route.steps.items)

-- there is no walk
abbrev pub HasNoWalkFor : Problem → Type 0
HasNoWalkFor p = HasNoWalk p.network p.starts p.target

-- the rows tell all earliest exits below the bound
abbrev pub TellExitsOf : {T : Type 0} → (CellValue → T) → Problem → Option ℕ → List T → Type 0
TellExitsOf told p bound rows = TellExits told p.network p.starts p.count bound rows

-- ---- the same backward

abbrev pub IsBestBack : BackwardProblem → ℕ → Type 0
IsBestBack b begin = IsBestBegin b.network b.finishes b.source begin

abbrev pub IsPickedBack : BackwardProblem → Route → Type 0
IsPickedBack b route = IsPickedRouteOn b.network b.finishes ComesBefore b.source route.best (map step_of route.steps.items)

abbrev pub HasNoWalkBack : BackwardProblem → Type 0
HasNoWalkBack b = HasNoWalkFrom b.network b.finishes b.source

abbrev pub TellEntriesOf : {T : Type 0} → (CellValue → T) → BackwardProblem → Option ℕ → List T → Type 0
TellEntriesOf told b bound rows = TellEntries told b.network b.finishes b.count bound rows
