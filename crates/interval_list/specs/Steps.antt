-- How an edit goes through a list window by window, and which ids it takes and gives back. No public clause cites this module.
use Rattle.std.specs.Prelude.{ℕ, ◌+◌, ◌≤◌, length, max, min, nat_lt, if◌then◌else◌, List, [], ◌∷◌, ◌++◌}
use Rattle.taxi_base.specs.declared.rows.Span.{Span}
use Rattle.interval_list.specs.declared.window.Window.{Window}
use Rattle.interval_list.specs.Edits.{removed, item}
use Rattle.interval_list.specs.Intervals.{span_of, spans_of, hull, without_span, with_span}

abbrev pub window : ℕ → ℕ → ℕ → Window
window from until id = record { from = from; until = until; id = id }

-- the id that is next to be used, and those after it
abbrev pub top : List ℕ → ℕ
top ss = item 0 ss 0

abbrev pub below_top : List ℕ → List ℕ
below_top ss = removed ss 0

-- what stands in the place of a window, once s is taken out
abbrev pub cut_window : Span → Window → List ℕ → List Window
cut_window s w ss = if nat_lt w.from s.from
    then (if nat_lt s.until w.until then window w.from (min w.until s.from) w.id ∷ window (max w.from s.until) w.until (top ss) ∷ [] else window w.from (min w.until s.from) w.id ∷ [])
    else (if nat_lt s.until w.until then window (max w.from s.until) w.until w.id ∷ [] else [])

-- the spare ids after that
abbrev pub cut_spare : Span → Window → List ℕ → List ℕ
cut_spare s w ss = if nat_lt w.from s.from then (if nat_lt s.until w.until then below_top ss else ss) else (if nat_lt s.until w.until then ss else w.id ∷ ss)

-- windows and spare ids, once s is taken out
abbrev pub cut : Span → List Window → List ℕ → List Window × List ℕ
cut s [] ss = ([], ss)
cut s (w ∷ ws) ss = (cut_window s w ss ++ (cut s ws (cut_spare s w ss)).0, (cut s ws (cut_spare s w ss)).1)

-- windows and spare ids, once s is given back
abbrev pub merged : Span → List Window → List ℕ → List Window × List ℕ
merged s [] ss = (window s.from s.until (top ss) ∷ [], below_top ss)
merged s (w ∷ ws) ss = if nat_lt s.until w.from then (window s.from s.until (top ss) ∷ w ∷ ws, below_top ss)
    else (if nat_lt w.until s.from then (w ∷ (merged s ws ss).0, (merged s ws ss).1) else merged (hull s (span_of w)) ws (w.id ∷ ss))

-- there are nodes enough for what is to stand once s is taken out
abbrev pub HasRoomToCut : Span → List Window → List ℕ → Type 0
HasRoomToCut s ws ss = length (without_span s (spans_of ws)) ≤ length ws + length ss

-- there are nodes enough for what is to stand once s is given back
abbrev pub HasRoomToMerge : Span → List Window → List ℕ → Type 0
HasRoomToMerge s ws ss = length (with_span s (spans_of ws)) ≤ length ws + length ss
