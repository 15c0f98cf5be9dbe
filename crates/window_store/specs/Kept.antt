-- What stays in a store when holds come and go.
use Rattle.std.specs.Prelude.{◌≡◌, ◌+◌, ◌<◌, ◌≤◌, max, ◌⊎◌, List, length, sum_by, Contains, All, IsTrue}
use Rattle.taxi_base.specs.declared.numbers.Segment.{Segment}
use Rattle.taxi_base.specs.declared.rows.Span.{Span}
use Rattle.taxi_base.specs.declared.rows.Step.{Step}
use Rattle.taxi_base.specs.Airport.{conflict}
use Rattle.taxi_base.specs.Windows.{Hold, IsPart}
use Rattle.interval_list.specs.declared.window.Window.{Window}
use Rattle.window_store.specs.Spans.{nodes}
use Rattle.window_store.specs.Store.{Store, list_at, windows_at}
use Rattle.window_store.specs.Stands.{conflicting_steps}

-- a window has no second of a span
abbrev pub IsApartFrom : Window → Span → Type 0
IsApartFrom w span = (w.until ≤ span.from) ⊎ (span.until ≤ w.from)

-- and neither ends where the other begins
abbrev pub IsClearOf : Window → Span → Type 0
IsClearOf w span = (w.until < span.from) ⊎ (span.until < w.from)

-- a window is so placed against each of the holds in conflict with its segment
abbrev pub AgainstEach : (Window → Span → Type 0) → List (List Segment) → Segment → List Hold → Window → Type 0
AgainstEach Placed sets segment holds w = All (λ h. IsTrue (conflict sets segment h.segment) → Placed w h.span) holds

-- the windows so placed stand there still, with their ids
abbrev pub KeepsWindows : (Window → Span → Type 0) → List (List Segment) → List Hold → Store → Store → Type 0
KeepsWindows Placed sets holds old new =
    (segment : Segment) (w : Window) → segment.0 < length old.lists → Contains (windows_at old segment) w → AgainstEach Placed sets segment holds w → Contains (windows_at new segment) w

-- each list has as many windows and spare nodes together as before, no id is new, and the horizon is the same
pub record KeepsNodes (old new : Store) : Type 0 where
  pub lists : length new.lists ≡ length old.lists
  pub nodes : (segment : Segment) → segment.0 < length old.lists → nodes (list_at new segment) ≡ nodes (list_at old segment)
  pub next : new.next ≡ old.next
  pub horizon : new.horizon ≡ old.horizon

-- each list has its windows and its number as before, and at least as many nodes, and the horizon is the same
pub record GainsRoom (old new : Store) : Type 0 where
  pub lists : length new.lists ≡ length old.lists
  pub windows : (segment : Segment) → segment.0 < length old.lists → windows_at new segment ≡ windows_at old segment
  pub held : (segment : Segment) → segment.0 < length old.lists → (list_at new segment).held ≡ (list_at old segment).held
  pub nodes : (segment : Segment) → segment.0 < length old.lists → nodes (list_at old segment) ≤ nodes (list_at new segment)
  pub horizon : new.horizon ≡ old.horizon

-- No list has more nodes than it had or than its holds and some steps want, and each id that is drawn is a new node's.
pub record DrawsWhatIsLacking (sets : List (List Segment)) (steps : List Step) (old new : Store) : Type 0 where
  pub most : (segment : Segment) → segment.0 < length old.lists
      → nodes (list_at new segment) ≤ max (nodes (list_at old segment)) (1 + (list_at old segment).held + conflicting_steps sets segment steps)
  pub ids : new.next + sum_by nodes old.lists ≡ old.next + sum_by nodes new.lists

-- a span lies in one of some windows
abbrev pub LiesInOne : List Span → Span → Type 0
LiesInOne windows span = (w : Span) × Contains windows w × IsPart span w
