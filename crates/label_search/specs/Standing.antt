-- Where does the search stand between two steps, and when is it at its end?
use Rattle.std.specs.Prelude.{◌≡◌, ◌<◌, ◌⊎◌, ℕ, Bool, true, ◌&&◌, is_some, is_none, Option, Some, None, IfSome, IfNone}
use Rattle.label_queue.specs.Keys.{key_of}
use Rattle.label_core.specs.Labels.{IsStartEntry, IsExpansion}
use Rattle.label_core.specs.Settling.{IsSearch, IsLeastLeft, NoneLeftBelow, NoneSettled}
use Rattle.label_search.specs.declared.labels.Label.{Label}
use Rattle.label_search.specs.declared.settle.Goal.{Goal}
use Rattle.label_search.specs.Problem.{Problem}
use Rattle.label_search.specs.Labels.{Standing, label_of, HasValue}
use Rattle.label_search.specs.Expanding.{HasRoom}

-- whether a cell with the label and the key is settled: it has a label, and is no longer in the queue
abbrev pub is_settled_by : Option Label → Option ℕ → Bool
is_settled_by label key = is_some label && is_none key

abbrev pub is_settled : Standing → ℕ → Bool
is_settled s c = is_settled_by (label_of s.known c) (key_of s.keys c)

-- a cell's label says why: a walk may begin there so, or it came by one of the rows' cells that expand to it
abbrev pub IsTraced : Problem → (ℕ → ℕ → Type 0) → ℕ → Label → Type 0
IsTraced p Row d label =
    IsStartEntry p.network p.starts d label.value ⊎ ((w : ℕ) × Row label.via w × IsExpansion p.network label.via w d label.value)

-- the cells that are settled, with their values
abbrev pub SettledValue : Standing → (ℕ → Bool) → ℕ → ℕ → Type 0
SettledValue s settled c v = (settled c ≡ true) × HasValue s.known c v

-- each label says why, by the settled cells
abbrev pub AreTraced : Problem → Standing → (ℕ → Bool) → Type 0
AreTraced p s settled = (d : ℕ) (label : Label) → label_of s.known d ≡ Some label → IsTraced p (SettledValue s settled) d label

-- between two steps
pub record IsUnderway (p : Problem) (s : Standing) : Type 0 where
  pub room : HasRoom p.count s
  pub search : IsSearch p.network p.starts (HasValue s.known) (is_settled s)
  pub queued : (c key : ℕ) → key_of s.keys c ≡ Some key → HasValue s.known c key
  pub traced : AreTraced p s (is_settled s)
  pub passed : NoneSettled p.target (is_settled s)

-- the goal is the first target with the least value that isn't settled
pub record IsGoal (p : Problem) (s : Standing) (settled : ℕ → Bool) (goal : Goal) : Type 0 where
  pub is_target : p.target goal.cell ≡ true
  pub least : IsLeastLeft (HasValue s.known) settled goal.cell goal.end
  pub first : (x : ℕ) → x < goal.cell → p.target x ≡ true → HasValue s.known x goal.end → ⊥

-- at the end: at a goal, or with no cell left
pub record IsAtEnd (p : Problem) (s : Standing) (goal : Option Goal) : Type 0 where
  pub room : HasRoom p.count s
  pub settled : ℕ → Bool
  pub search : IsSearch p.network p.starts (HasValue s.known) settled
  pub traced : AreTraced p s settled
  pub passed : NoneSettled p.target settled
  pub some : IfSome goal (IsGoal p s settled)
  pub none : IfNone goal (NoneLeftBelow (HasValue s.known) settled None)
