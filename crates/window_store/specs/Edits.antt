-- What an edit makes of the lists in conflict with a segment, and what a run of steps makes of all lists. No public clause
-- cites this module.
use Rattle.std.specs.Prelude.{ℕ, ◌≡◌, ◌+◌, ◌<◌, ◌≤◌, List, ◌++◌, length, ◌∷◌, take, drop, Contains, IsTrue}
use Rattle.taxi_base.specs.declared.numbers.Segment.{Segment}
use Rattle.taxi_base.specs.declared.rows.Span.{Span}
use Rattle.taxi_base.specs.declared.rows.Step.{Step}
use Rattle.taxi_base.specs.Airport.{conflict}
use Rattle.taxi_base.specs.Windows.{Hold, holds_of}
use Rattle.interval_list.specs.declared.window.Window.{Window}
use Rattle.interval_list.specs.Intervals.{OwnsSame, KeepsUnmet}
use Rattle.window_store.specs.Spans.{Listed, nodes, StandsForSpans}
use Rattle.window_store.specs.Store.{Store, of_lists_and_ids, list_at}
use Rattle.window_store.specs.Stands.{ListStandsFor, StandsFor}
use Rattle.window_store.specs.Kept.{IsApartFrom, IsClearOf, AgainstEach, KeepsWindows}
use Rattle.window_store.specs.Stays.{done_by}

-- lists by themselves, as a store
abbrev pub of_lists : List Listed → Store
of_lists lists = of_lists_and_ids lists 0

abbrev pub list_in : List Listed → Segment → Listed
list_in lists segment = list_at (of_lists lists) segment

-- ---- the lists in conflict with a segment

-- what holds of the list of each segment in conflict with one
abbrev pub EachInConflict : List (List Segment) → Segment → (Segment → Listed → Type 0) → List Listed → Type 0
EachInConflict sets segment P lists = (s : Segment) → s.0 < length lists → IsTrue (conflict sets segment s) → P s (list_in lists s)

-- the list of each such segment is changed so, and the others stay
pub record ChangesEach (Has : Segment → Type 0) (Changed : Segment → Listed → Listed → Type 0) (old new : List Listed) : Type 0 where
  pub as_many : length new ≡ length old
  pub changed : (s : Segment) → s.0 < length old → Has s → Changed s (list_in old s) (list_in new s)
  pub others : (s : Segment) → (Has s → ⊥) → list_in new s ≡ list_in old s

-- of those in conflict with a segment
abbrev pub ChangesConflicting : List (List Segment) → Segment → (Segment → Listed → Listed → Type 0) → List Listed → List Listed → Type 0
ChangesConflicting sets segment Changed old new = ChangesEach (λ s. IsTrue (conflict sets segment s)) Changed old new

-- ---- one list

-- the same ids, and as many nodes
pub record KeepsOwned (old new : Listed) : Type 0 where
  pub ids : OwnsSame old.intervals new.intervals
  pub nodes : nodes new ≡ nodes old

-- there are nodes for one more span than those for which it stands
pub record CanHold (segment : Segment) (l : Listed) : Type 0 where
  pub stands : (horizon : ℕ) × (spans : List Span) × StandsForSpans horizon spans l
  pub room : 2 + l.held ≤ nodes l

-- one more span is held
pub record IsHeld (span : Span) (segment : Segment) (old new : Listed) : Type 0 where
  pub stands : (horizon : ℕ) (spans : List Span) → StandsForSpans horizon spans old → StandsForSpans horizon (span ∷ spans) new
  pub kept : KeepsUnmet span old.intervals.windows new.intervals.windows
  pub owned : KeepsOwned old new

-- it stands for what some holds and the steps that are not done for the segment hold
abbrev pub StandsForLeft : List (List Segment) → ℕ → ℕ → List Step → ℕ → List Hold → Segment → Listed → Type 0
StandsForLeft sets horizon clearance steps k holds s l =
    ListStandsFor sets horizon (holds ++ holds_of horizon clearance (drop (done_by sets s steps k) steps)) s l

-- a window that is clear of what steps hold stands there still
abbrev pub KeepsClear : List (List Segment) → List Hold → Segment → Listed → Listed → Type 0
KeepsClear sets holds s old new =
    (w : Window) → w.from < w.until → Contains old.intervals.windows w → AgainstEach IsClearOf sets s holds w → Contains new.intervals.windows w

-- the stay that begins at a step is held no longer
pub record IsReleased (sets : List (List Segment)) (horizon clearance : ℕ) (rest : List Hold) (steps : List Step) (k : ℕ) (s : Segment) (old new : Listed) : Type 0 where
  pub stands : StandsForLeft sets horizon clearance steps k rest s old → StandsForLeft sets horizon clearance steps (k + 1) rest s new
  pub kept : KeepsClear sets (holds_of horizon clearance steps) s old new
  pub owned : KeepsOwned old new

-- ---- all lists

pub record AllKeepOwned (old new : List Listed) : Type 0 where
  pub as_many : length new ≡ length old
  pub each : (s : Segment) → s.0 < length old → KeepsOwned (list_in old s) (list_in new s)

-- what some steps hold is held
pub record AreHeld (sets : List (List Segment)) (horizon clearance : ℕ) (steps : List Step) (old new : List Listed) : Type 0 where
  pub stands : (holds : List Hold) → StandsFor sets horizon holds (of_lists old) → StandsFor sets horizon (holds ++ holds_of horizon clearance steps) (of_lists new)
  pub kept : KeepsWindows IsApartFrom sets (holds_of horizon clearance steps) (of_lists old) (of_lists new)
  pub owned : AllKeepOwned old new

-- what the first steps hold is held no longer, while the rest and the later steps are
pub record AreReleased (sets : List (List Segment)) (horizon clearance : ℕ) (rest : List Hold) (steps : List Step) (count : ℕ) (old new : List Listed) : Type 0 where
  pub stands : StandsFor sets horizon (rest ++ holds_of horizon clearance steps) (of_lists old)
      → StandsFor sets horizon (rest ++ holds_of horizon clearance (drop count steps)) (of_lists new)
  pub kept : KeepsWindows IsClearOf sets (holds_of horizon clearance (take count steps)) (of_lists old) (of_lists new)
  pub owned : AllKeepOwned old new
