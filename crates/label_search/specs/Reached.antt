-- What need not be looked at again? Of each run a second is kept before which its cells have labels that are as good as any to come.
use Rattle.std.specs.Prelude.{◌≡◌, ◌+◌, ◌<◌, ◌≤◌, ℕ, IsTrue, List, length, Option, Some, slice_index_or}
use Rattle.label_queue.specs.Keys.{key_of}
use Rattle.label_core.specs.Labels.{entry}
use Rattle.label_core.specs.Tables.{HasAsGood}
use Rattle.label_search.specs.declared.labels.Label.{Label}
use Rattle.label_search.specs.declared.cells.Run.{Run}
use Rattle.label_search.specs.Problem.{Problem, IsIn}
use Rattle.label_search.specs.Labels.{Standing, HasValue}

-- Each cell of the run that what is ready now can enter before the second, and leave in time, has a label that is as good. So it has
-- one for whatever is ready later, too.
abbrev pub IsReached : Problem → List (Option Label) → ℕ → Run → ℕ → Type 0
IsReached p known now run until =
    (b d : ℕ) → IsIn run d → IsTrue (p.network.turn b d) → entry p.network d now < until → entry p.network d now + p.network.seconds d ≤ p.network.last d
    → HasAsGood (HasValue known) d (entry p.network d now + p.network.seconds d)

-- each run, by its number, is reached until before its second
abbrev pub AreReached : Problem → List (Option Label) → ℕ → List ℕ → Type 0
AreReached p known now reached = (r : ℕ) → IsReached p known now (p.run r) (slice_index_or reached r 0)

-- there is a second for each run, and the runs are reached for a time that no key is below
pub record HasReached (p : Problem) (s : Standing) (reached : List ℕ) : Type 0 where
  pub room : p.numbers ≤ length reached
  pub now : ℕ
  pub are : AreReached p s.known now reached
  pub ahead : (c key : ℕ) → key_of s.keys c ≡ Some key → now ≤ key
