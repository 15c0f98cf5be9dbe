-- What contracts see of a window store.
use Rattle.std.specs.Prelude.{ℕ, ◌+◌, ◌<◌, ◌≤◌, ◌^◌, List, [], length, flat_map, sum_by, slice_index_or, All}
use Rattle.taxi_base.specs.declared.numbers.Segment.{Segment}
use Rattle.taxi_base.specs.declared.rows.Span.{Span}
use Rattle.interval_list.specs.declared.window.Window.{Window}
use Rattle.interval_list.specs.Intervals.{owned, times, spans_of}
use Rattle.window_store.specs.Spans.{Listed, nodes}

-- a list of windows for each segment, a number above all ids, and the horizon before which seconds are free
pub record Store : Type 0 where
  pub lists : List Listed
  pub next : ℕ
  pub horizon : ℕ

-- lists and the next id by themselves, as a store
abbrev pub of_lists_and_ids : List Listed → ℕ → Store
of_lists_and_ids lists next = record { lists = lists; next = next; horizon = 0 }

abbrev pub no_list : Listed
no_list = record { intervals = record { windows = []; spare = [] }; held = 0 }

abbrev pub list_at : Store → Segment → Listed
list_at store segment = slice_index_or store.lists segment.0 no_list

abbrev pub windows_at : Store → Segment → List Window
windows_at store segment = (list_at store segment).intervals.windows

abbrev pub spans_at : Store → Segment → List Span
spans_at store segment = spans_of (windows_at store segment)

-- all ids of windows and spare nodes
abbrev pub ids_owned : List Listed → List ℕ
ids_owned lists = flat_map (λ l. owned l.intervals) lists

-- All ids differ and lie below the next one. There are as many as nodes, and so the next one is below 2^50.
pub record IsStore (store : Store) : Type 0 where
  pub few : length store.lists ≤ 10000
  pub once : (id : ℕ) → times id (ids_owned store.lists) ≤ 1
  pub below : All (λ id. id < store.next) (ids_owned store.lists)
  pub drawn : store.next ≤ sum_by nodes store.lists
  pub each : All (λ l. nodes l ≤ 2 ^ 33) store.lists

-- each window ends by the horizon
abbrev pub EndBy : ℕ → List Listed → Type 0
EndBy horizon lists = All (λ l. All (λ w. w.until ≤ horizon) l.intervals.windows) lists

-- there are nodes for one window more than each list's number says
abbrev pub HaveRoom : List Listed → Type 0
HaveRoom lists = All (λ l. 1 + l.held ≤ nodes l) lists
