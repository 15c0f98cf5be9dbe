-- The conditions of a well-formed airport are fit: among holds, and in windows that end by the horizon.
use Rattle.std.proofs.Common.{◌≡◌, ℕ, ◌<◌, ◌≤◌, List, [], ◌∷◌, length, get_or, IsFalse, refl, subst, arith}
use Rattle.std.specs.Prelude.{All}
use Rattle.std.proofs.lemmas.Bool.{or_from, and_left, le-ltb}
use Rattle.std.proofs.lemmas.List.{get_or_default}
use Rattle.std.proofs.lemmas.List.Elements.{All-nil, All-head, All-tail}
use Rattle.taxi_base.specs.declared.numbers.Segment.{Segment}
use Rattle.taxi_base.specs.declared.numbers.Class.{Class}
use Rattle.taxi_base.specs.declared.rows.Span.{Span}
use Rattle.taxi_base.specs.Airport.{Airport, IsWellFormed}
use Rattle.taxi_base.specs.Windows.{Hold, is_free, covers, AreApart, AreWindows}
use Rattle.taxi_base.specs.Walks.{conditions_among, conditions_in_windows}
use Rattle.taxi_base.proofs.AirportLaws.{seconds-range}
use Rattle.taxi_base.proofs.WindowLaws.{span_has-after, AreWindows-member, IsWindow-by}
use Rattle.taxi_base.proofs.WalkLaws.{conditions_among-bounded}
use Rattle.taxi_base.proofs.ListLaws.{All-at}
use Rattle.walk_labels.specs.Places.{AreFit}
use Rattle.walk_labels.specs.PlacesInWindows.{AreWindowLists}

pub covers-past : (stop t : ℕ) (ws : List Span) → All (λ w. w.until ≤ stop) ws → stop ≤ t → IsFalse (covers ws t)
covers-past stop t [] by past = refl
covers-past stop t (w ∷ ws) by past =
    let first : w.until ≤ stop = All-head (λ v. v.until ≤ stop) w ws by in
    or_from _ _ (span_has-after w t (omega arith)) (covers-past stop t ws (All-tail (λ v. v.until ≤ stop) w ws by) past)

pub among_fit : (airport : Airport) (class : Class) (holds : List Hold) → IsWellFormed airport → AreFit (conditions_among airport class holds)
among_fit airport class holds well =
    record { shut = conditions_among-bounded airport class holds; timed = λ s n e. (seconds-range airport class s n well e).0 }

pub windows_fit : (airport : Airport) (class : Class) (clearance : ℕ) (windows : List (List Span)) → IsWellFormed airport → AreWindowLists airport windows → AreFit (conditions_in_windows airport class clearance windows)
windows_fit airport class clearance windows well lists = record {
  shut = λ s t past. covers-past airport.horizon t (get_or windows s.0 []) (All-at (All (λ w. w.until ≤ airport.horizon)) windows s.0 [] (All-nil (λ w. w.until ≤ airport.horizon)) lists.by) past;
  timed = λ s n e. (seconds-range airport class s n well e).0;
}

-- the windows that holds leave are lists of windows
pub lists_of_holds : (airport : Airport) (holds : List Hold) (windows : List (List Span)) → length windows ≡ length airport.segments
    → ((s : Segment) → s.0 < length windows → AreWindows (is_free airport.conflicts airport.horizon holds s) (get_or windows s.0 [])) → AreWindowLists airport windows
lists_of_holds airport holds windows count each = record {
  count = count;
  apart = λ k d on. subst (AreApart 0) (get_or_default windows k [] d on) (each (record { 0 = k }) on).apart;
  by = λ k d on. subst (λ (ws : List Span). All (λ w. w.until ≤ airport.horizon) ws) (get_or_default windows k [] d on) (ends k on);
}
  where
    ends : (k : ℕ) → k < length windows → All (λ w. w.until ≤ airport.horizon) (get_or windows k [])
    ends k on i e in_list =
        let are = each (record { 0 = k }) on in
        let w : Span = get_or (get_or windows k []) i e in
        let is = AreWindows-member (is_free airport.conflicts airport.horizon holds (record { 0 = k })) (get_or windows k []) w are (i, in_list, get_or_default (get_or windows k []) i w e in_list) in
        IsWindow-by (is_free airport.conflicts airport.horizon holds (record { 0 = k })) w airport.horizon (λ t past. and_left _ _ (le-ltb t airport.horizon past)) is
