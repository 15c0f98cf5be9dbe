-- A store that stands for holds has windows that end by the horizon, and the conditions in them are those among the holds.
use Rattle.std.proofs.Common.{◌≡◌, ◌∙◌, ◌<◌, ◌≤◌, List, [], length, get_or, sym, subst, arith}
use Rattle.std.specs.Prelude.{All}
use Rattle.std.proofs.lemmas.List.{length-map, get_or-map}
use Rattle.taxi_base.specs.declared.numbers.Segment.{Segment}
use Rattle.taxi_base.specs.declared.numbers.Class.{Class}
use Rattle.taxi_base.specs.Airport.{Airport, clearance_of}
use Rattle.taxi_base.specs.Windows.{Hold, is_free, AreWindows}
use Rattle.taxi_base.specs.Walks.{conditions_among, conditions_in_windows}
use Rattle.taxi_base.proofs.WalkLaws.{conditions_in_windows-among}
use Rattle.interval_list.specs.Intervals.{spans_of}
use Rattle.window_store.specs.Store.{Store, no_list}
use Rattle.window_store.specs.Stands.{StandsFor}
use Rattle.walk_labels.proofs.FitConditions.{lists_of_holds}
use Rattle.place_cells.specs.Laid.{windows_of}

module _ (airport : Airport) (holds : List Hold) (store : Store) (lists : length store.lists ≡ length airport.segments) (stands : StandsFor airport.conflicts airport.horizon holds store) where
  whole : length (windows_of store) ≡ length airport.segments
  whole = length-map store.lists (λ l. spans_of l.intervals.windows) ∙ lists

  each : (s : Segment) → s.0 < length (windows_of store) → AreWindows (is_free airport.conflicts airport.horizon holds s) (get_or (windows_of store) s.0 [])
  each s low =
      let on : s.0 < length store.lists = omega (arith, low, length-map store.lists (λ l. spans_of l.intervals.windows)) in
      subst (AreWindows (is_free airport.conflicts airport.horizon holds s))
      (sym (get_or-map (λ l. spans_of l.intervals.windows) store.lists s.0 no_list [] on)) (stands s on).windows

  pub windows-by : All (All (λ w. w.until ≤ airport.horizon)) (windows_of store)
  windows-by = (lists_of_holds airport holds (windows_of store) whole each).by

  pub conditions-among : (class : Class) → conditions_in_windows airport class (clearance_of airport class) (windows_of store) ≡ conditions_among airport class holds
  conditions-among class = conditions_in_windows-among airport class holds (windows_of store) whole each
