-- Which holds a store stands for, and for which steps it has room.
use Rattle.std.specs.Prelude.{ℕ, ◌≡◌, ◌+◌, ◌/◌, ◌<◌, ◌≤◌, List, length, count_by, flat_map, All}
use Rattle.taxi_base.specs.declared.numbers.Segment.{Segment}
use Rattle.taxi_base.specs.declared.rows.Step.{Step}
use Rattle.taxi_base.specs.Airport.{conflict, segment_of}
use Rattle.taxi_base.specs.Windows.{Hold, HeldRoute, holds_of, is_free, AreWindows}
use Rattle.interval_list.specs.Intervals.{spans_of}
use Rattle.window_store.specs.Spans.{Listed, nodes}
use Rattle.window_store.specs.Store.{Store, list_at}

-- how many of the holds, and of the steps, conflict with a segment
abbrev pub conflicting : List (List Segment) → Segment → List Hold → ℕ
conflicting sets segment holds = count_by (λ h. conflict sets segment h.segment) holds

abbrev pub conflicting_steps : List (List Segment) → Segment → List Step → ℕ
conflicting_steps sets segment steps = count_by (λ s. conflict sets segment (segment_of s.arc)) steps

-- A segment's windows are those that the holds leave, the number kept beside them is that of the holds in conflict, and
-- there are nodes for one window more.
pub record ListStandsFor (sets : List (List Segment)) (horizon : ℕ) (holds : List Hold) (segment : Segment) (l : Listed) : Type 0 where
  pub windows : AreWindows (is_free sets horizon holds segment) (spans_of l.intervals.windows)
  pub number : l.held ≡ conflicting sets segment holds
  pub room : 1 + l.held ≤ nodes l

-- the store stands for the holds: each segment's list does
abbrev pub StandsFor : List (List Segment) → ℕ → List Hold → Store → Type 0
StandsFor sets horizon holds store =
    (segment : Segment) → segment.0 < length store.lists → ListStandsFor sets horizon holds segment (list_at store segment)

-- in each list there are nodes for one window more than there are holds in conflict, those of the steps counted too
abbrev pub HasRoomFor : List (List Segment) → List Step → Store → Type 0
HasRoomFor sets steps store =
    (segment : Segment) → segment.0 < length store.lists → 1 + (list_at store segment).held + conflicting_steps sets segment steps ≤ nodes (list_at store segment)

-- what some routes hold
abbrev pub route_holds : ℕ → List HeldRoute → List Hold
route_holds horizon routes = flat_map (λ r. holds_of horizon r.clearance r.steps) routes

-- the steps lie on segments of the store, each takes time, and each ends by the horizon
abbrev pub AreOnSegments : ℕ → List Step → Type 0
AreOnSegments segments steps = All (λ s. s.arc.0 / 2 < segments) steps

abbrev pub TakeTime : List Step → Type 0
TakeTime steps = All (λ s. s.enter < s.leave) steps

abbrev pub AreInTime : ℕ → List Step → Type 0
AreInTime horizon steps = All (λ s. s.leave ≤ horizon) steps
