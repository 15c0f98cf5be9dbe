-- The cells in given windows, arc by arc, are in order, and all places are among them.
use Rattle.std.proofs.Common.{◌≡◌, ℕ, zero, suc, ◌+◌, ◌*◌, ◌/◌, ◌<◌, ◌≤◌, ◌&&◌, ltb, eqb, List, [], ◌∷◌, length, get_or, map, inl, inr, IsTrue, is_some, refl, subst, arith, ◌↔◌}
use Rattle.std.specs.Prelude.{All, AllPairs, Contains}
use Rattle.std.proofs.lemmas.Bool.{cases_lt, and_parts, and_from, lt-ltb, eq-eqb, or_left, or_right}
use Rattle.std.proofs.lemmas.List.{get_or_default}
use Rattle.std.proofs.lemmas.List.Kept.{AllPairs-cons}
use Rattle.std.proofs.lemmas.List.Elements.{All-nil, All-cons, All-append, All-map, All-weaker, Contains-append_left, Contains-append_right}
use Rattle.taxi_base.specs.declared.numbers.Arc.{Arc}
use Rattle.taxi_base.specs.declared.numbers.Class.{Class}
use Rattle.taxi_base.specs.declared.rows.Span.{Span}
use Rattle.taxi_base.specs.Airport.{Airport, layout_of, segment_of, arc_exists, seconds}
use Rattle.taxi_base.specs.Windows.{AreApart, IsWindow, covers}
use Rattle.taxi_base.specs.Walks.{conditions_in_windows}
use Rattle.taxi_base.proofs.ListLaws.{Contains-map, All-at, AllPairs-append}
use Rattle.taxi_base.proofs.AirportLaws.{arc_exists-segment}
use Rattle.taxi_base.proofs.WindowLaws.{AreWindows-member, AreWindows-whole}
use Rattle.walk_labels.specs.Places.{Place, IsPlace, ArePlaces, no_place, place_at, place_precedes}
use Rattle.walk_labels.specs.PlacesInWindows.{AreWindowLists, cells_of_arc, cells_before, cells_in, can_use}

abbrev place_in : Arc → Span → Place
place_in arc w = record { arc = arc; window = w }

later_from : (low : ℕ) (ws : List Span) → AreApart low ws → All (λ w. low ≤ w.from) ws
later_from low [] apart = All-nil (λ w. low ≤ w.from)
later_from low (w ∷ ws) apart =
    All-cons (λ v. low ≤ v.from) w ws apart.0 (All-weaker (λ v. w.until + 1 ≤ v.from) (λ v. low ≤ v.from) (λ v h. omega (arith, apart.0, apart.1)) ws (later_from (w.until + 1) ws apart.2))

sooner_place : (arc : Arc) (v w : Span) → v.from < w.from → IsTrue (place_precedes (place_in arc v) (place_in arc w))
sooner_place arc v w h = or_right (ltb arc.0 arc.0) (eqb arc.0 arc.0 && ltb v.from w.from) (and_from (eqb arc.0 arc.0) (ltb v.from w.from) (eq-eqb arc.0 arc.0 refl) (lt-ltb v.from w.from h))

arc_ordered : (arc : Arc) (low : ℕ) (ws : List Span) → AreApart low ws → AllPairs (λ p q. IsTrue (place_precedes p q)) (map (place_in arc) ws)
arc_ordered arc low [] apart = λ i j d before on. absurd (omega arith)
arc_ordered arc low (w ∷ ws) apart =
    AllPairs-cons (λ p q. IsTrue (place_precedes p q)) (place_in arc w) (map (place_in arc) ws)
    (All-map (λ q. IsTrue (place_precedes (place_in arc w) q)) (place_in arc) ws
    (All-weaker (λ v. w.until + 1 ≤ v.from) (λ v. IsTrue (place_precedes (place_in arc w) (place_in arc v))) (λ v h. sooner_place arc w v (omega (arith, apart.1))) ws (later_from (w.until + 1) ws apart.2)))
    (arc_ordered arc (w.until + 1) ws apart.2)

-- ---- the cells of the first arcs

module _ (windows : List (List Span)) where
  abbrev of_arc : ℕ → List Place
  of_arc n = cells_of_arc (record { 0 = n }) (get_or windows (n / 2) [])

  abbrev before : ℕ → List Place
  before n = cells_before windows n

  arcs_here : (n : ℕ) → All (λ p. p.arc.0 ≡ n) (of_arc n)
  arcs_here n = All-map (λ p. p.arc.0 ≡ n) (place_in (record { 0 = n })) (get_or windows (n / 2) []) (λ k d on. refl)

  pub arcs_below : (n : ℕ) → All (λ p. p.arc.0 < n) (before n)
  arcs_below zero = All-nil (λ p. p.arc.0 < 0)
  arcs_below (suc n) =
      All-append (λ p. p.arc.0 < suc n) (before n) (of_arc n) (All-weaker (λ p. p.arc.0 < n) (λ p. p.arc.0 < suc n) (λ p h. omega arith) (before n) (arcs_below n))
      (All-weaker (λ p. p.arc.0 ≡ n) (λ p. p.arc.0 < suc n) (λ p h. omega arith) (of_arc n) (arcs_here n))

  -- ---- they are in order, and each has a window of its segment

  module _ (each_apart : (k : ℕ) → AreApart 0 (get_or windows k [])) where
    all_ordered : (n : ℕ) → AllPairs (λ p q. IsTrue (place_precedes p q)) (before n)
    all_ordered zero = λ i j d low on. absurd (omega arith)
    all_ordered (suc n) =
        AllPairs-append (λ p q. IsTrue (place_precedes p q)) (before n) (of_arc n) (all_ordered n) (arc_ordered (record { 0 = n }) 0 (get_or windows (n / 2) []) (each_apart (n / 2)))
        (All-weaker (λ p. p.arc.0 < n) (λ p. All (λ q. IsTrue (place_precedes p q)) (of_arc n))
        (λ p below. All-weaker (λ q. q.arc.0 ≡ n) (λ q. IsTrue (place_precedes p q)) (λ q at. or_left (ltb p.arc.0 q.arc.0) (eqb p.arc.0 q.arc.0 && ltb p.window.from q.window.from) (lt-ltb p.arc.0 q.arc.0 (omega arith))) (of_arc n) (arcs_here n))
        (before n) (arcs_below n))

    abbrev InWindow : Place → Type 0
    InWindow p = IsWindow (covers (get_or windows (p.arc.0 / 2) [])) p.window

    arc_windows : (n : ℕ) → All InWindow (of_arc n)
    arc_windows n =
        All-map InWindow (place_in (record { 0 = n })) (get_or windows (n / 2) [])
        (λ k d on. AreWindows-member (covers (get_or windows (n / 2) [])) (get_or windows (n / 2) []) (get_or (get_or windows (n / 2) []) k d) (record { apart = each_apart (n / 2); same = λ t. refl })
        (k, on, get_or_default (get_or windows (n / 2) []) k (get_or (get_or windows (n / 2) []) k d) d on))

    all_windows : (n : ℕ) → All InWindow (before n)
    all_windows zero = All-nil InWindow
    all_windows (suc n) = All-append InWindow (before n) (of_arc n) (all_windows n) (arc_windows n)

    in_arc : (p : Place) → InWindow p → Contains (of_arc p.arc.0) p
    in_arc p is =
        Contains-map (place_in p.arc) (get_or windows (p.arc.0 / 2) []) p.window
        (AreWindows-whole (covers (get_or windows (p.arc.0 / 2) [])) (get_or windows (p.arc.0 / 2) []) p.window (record { apart = each_apart (p.arc.0 / 2); same = λ t. refl }) is)

    among : (n : ℕ) (p : Place) → p.arc.0 < n → Contains (of_arc p.arc.0) p → Contains (before n) p
    among zero p below here = absurd (omega arith)
    among (suc n) p below here =
        elim (cases_lt p.arc.0 n) [
          | inl earlier ↦ Contains-append_left (before n) (of_arc n) p (among n p earlier here)
          | inr last ↦ let e : p.arc.0 ≡ n = omega arith in Contains-append_right (before n) (of_arc n) p (subst (λ (k : ℕ). Contains (of_arc k) p) e here)
        ]

-- ---- those of arcs that a class can use are its places

module _ (airport : Airport) (class : Class) (windows : List (List Span)) (clearance : ℕ) (lists : AreWindowLists airport windows) where
  apart : (k : ℕ) → AreApart 0 (get_or windows k [])
  apart k = All-at (AreApart 0) windows k [] tt lists.apart

  usable-is : (p : Place) → IsWindow (covers (get_or windows (p.arc.0 / 2) [])) p.window → IsTrue (can_use airport class p.arc) ↔ IsPlace (conditions_in_windows airport class clearance windows) p
  usable-is p window = (
    λ h. (
        let parts = and_parts (arc_exists (layout_of airport) p.arc) (is_some (seconds airport class (segment_of p.arc))) h in
        record { on_arc = parts.0; timed = parts.1; window = window }),
    λ is. and_from (arc_exists (layout_of airport) p.arc) (is_some (seconds airport class (segment_of p.arc))) is.on_arc is.timed,
  )

  pub cells_in-are : ArePlaces (conditions_in_windows airport class clearance windows) (λ k. can_use airport class (place_at (cells_in windows) k).arc) (cells_in windows)
  cells_in-are = record {
    exact = λ k on. usable-is (place_at (cells_in windows) k) (all_windows windows apart (2 * length windows) k no_place on);
    ordered = λ j k before on j_usable k_usable. all_ordered windows apart (2 * length windows) j k no_place before on;
    whole = λ p is. among windows apart (2 * length windows) p (omega (arith, arc_exists-segment airport p.arc is.on_arc, lists.count)) (in_arc windows apart p is.window);
  }
