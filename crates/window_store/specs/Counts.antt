-- How many steps are counted for each list, and what room is made by the counts. No public clause cites this module.
use Rattle.std.specs.Prelude.{ℕ, ◌≡◌, ◌+◌, ◌-◌, ◌<◌, ◌≤◌, max, ◌==◌, if◌then◌else◌, List, ◌++◌, length, All, map, count_by, sum_by, slice_index_or}
use Rattle.taxi_base.specs.declared.numbers.Segment.{Segment}
use Rattle.taxi_base.specs.declared.rows.Step.{Step}
use Rattle.interval_list.specs.Intervals.{owned, drawn}
use Rattle.window_store.specs.declared.step_counts.Counted.{Counted}
use Rattle.window_store.specs.Spans.{Listed, nodes}
use Rattle.window_store.specs.Store.{Store, IsStore, list_at}
use Rattle.window_store.specs.Stands.{conflicting_steps}
use Rattle.window_store.specs.Kept.{GainsRoom, DrawsWhatIsLacking}
use Rattle.window_store.specs.Edits.{list_in}

-- what was counted in a round
abbrev pub count_in : ℕ → Counted → ℕ
count_in round one = if one.round == round then one.count else 0

abbrev pub counts_in : ℕ → List Counted → List ℕ
counts_in round counted = map (count_in round) counted

abbrev pub count_of : List ℕ → Segment → ℕ
count_of counts segment = slice_index_or counts segment.0 0

-- how often a segment is among some, and how many of some steps are in conflict with it
abbrev pub times_in : List Segment → Segment → ℕ
times_in segments s = count_by (λ t. t.0 == s.0) segments

abbrev pub stepped : List (List Segment) → List Step → Segment → ℕ
stepped sets steps s = conflicting_steps sets s steps

-- so many more are counted for each
pub record IsCounted (more : Segment → ℕ) (old new : List ℕ) : Type 0 where
  pub as_many : length new ≡ length old
  pub each : (s : Segment) → s.0 < length old → count_of new s ≡ count_of old s + more s

-- so many at most, and none fewer than before
pub record IsCountedAtMost (more : Segment → ℕ) (old new : List ℕ) : Type 0 where
  pub as_many : length new ≡ length old
  pub least : (s : Segment) → s.0 < length old → count_of old s ≤ count_of new s
  pub most : (s : Segment) → s.0 < length old → count_of new s ≤ count_of old s + more s

-- each list has nodes for one window more than its number and its count say
abbrev pub HaveRoomFor : List ℕ → List Listed → Type 0
HaveRoomFor counts lists = (s : Segment) → s.0 < length lists → 1 + (list_in lists s).held + count_of counts s ≤ nodes (list_in lists s)

-- A list keeps its windows and its number. It has the next ids as spare nodes in front, and no more nodes than it had or than are wanted.
pub record IsRoomier (wanted next more : ℕ) (old new : Listed) : Type 0 where
  pub windows : new.intervals.windows ≡ old.intervals.windows
  pub held : new.held ≡ old.held
  pub spare : new.intervals.spare ≡ drawn next (more - next) ++ old.intervals.spare
  pub count : more + nodes old ≡ next + nodes new
  pub below : All (λ id. id < more) (owned new.intervals)
  pub most : nodes new ≤ max wanted (nodes old)

-- The lists and their ids are sound still. Each list has at least as many nodes, and no more than it had or than its
-- number and its count want; and each id that is drawn is a new node's.
pub record GainsNodes (counts : List ℕ) (old new : Store) : Type 0 where
  pub store : IsStore new
  pub gained : GainsRoom old new
  pub most : (s : Segment) → s.0 < length old.lists → nodes (list_at new s) ≤ max (nodes (list_at old s)) (1 + (list_at old s).held + count_of counts s)
  pub ids : new.next + sum_by nodes old.lists ≡ old.next + sum_by nodes new.lists

-- the same for some steps
pub record GainsNodesFor (sets : List (List Segment)) (steps : List Step) (old new : Store) : Type 0 where
  pub store : IsStore new
  pub gained : GainsRoom old new
  pub lacking : DrawsWhatIsLacking sets steps old new
