-- How far has a search begun? Of some cells each in which a walk may begin has its start entry as its label.
use Rattle.std.specs.Prelude.{◌≡◌, ℕ, ◌<◌, Option, Some, None}
use Rattle.label_queue.specs.Keys.{key_of}
use Rattle.label_core.specs.Labels.{IsStartEntry}
use Rattle.label_search.specs.declared.labels.Label.{Label}
use Rattle.label_search.specs.Problem.{Problem, IsIn}
use Rattle.label_search.specs.Labels.{Standing, label_of, HasValue}
use Rattle.label_search.specs.Expanding.{HasRoom}

-- the key that goes with a label
abbrev pub key_for : Option Label → Option ℕ
key_for None = None
key_for (Some l) = Some l.value

-- each label is a start entry, those cells that are done have theirs, and all that are labelled are in the queue
pub record IsBegun (p : Problem) (IsDone : ℕ → Type 0) (s : Standing) : Type 0 where
  pub room : HasRoom p.count s
  pub entry : (c : ℕ) (label : Label) → label_of s.known c ≡ Some label → IsStartEntry p.network p.starts c label.value
  pub done : (c t : ℕ) → IsDone c → IsStartEntry p.network p.starts c t → HasValue s.known c t
  pub key : (c : ℕ) → key_of s.keys c ≡ key_for (label_of s.known c)

-- the cell is in one of the first runs
abbrev pub InRuns : Problem → ℕ → ℕ → Type 0
InRuns p n c = (k : ℕ) × (k < n) × IsIn (p.first_run k) c
