-- The rows of what is held: their order, and how one is found among them.
use Rattle.std.proofs.Common.{◌≡◌, ◌↔◌, ◌∙◌, ℕ, zero, suc, ◌+◌, ◌-◌, ◌<◌, ◌≤◌, Bool, true, false, ◌&&◌, ◌||◌, eqb, ltb, List, [], ◌++◌, length, get_or, map, All, inl, inr, IsTrue, refl, sym, ap, subst, arith}
use Rattle.std.specs.Prelude.{nat_lt, bytes_eq, Contains, flat_map}
use Rattle.std.specs.List.{AllAdjacentBelow, IsAllAdjacentAnswer}
use Rattle.std.specs.List.Sorted.{IsPartitionPoint, IsPartitionedBy}
use Rattle.std.specs.Cmp.Lexicographic.{bytes_decides}
use Rattle.std.proofs.lemmas.Bool.{cases_lt, both_ways, or_cases, or_left, or_right, and_parts, and_from, false≢true, ltb-true, lt-ltb, eqb-true, eq-eqb}
use Rattle.std.proofs.lemmas.List.{get_or_default}
use Rattle.std.proofs.lemmas.List.Elements.{All-contains, Contains-get_or, Contains-append_cases, Contains-append_left, Contains-append_right}
use Rattle.taxi_base.specs.declared.numbers.Segment.{Segment}
use Rattle.taxi_base.specs.declared.rows.HeldRow.{HeldRow}
use Rattle.taxi_base.specs.declared.rows.Span.{Span}
use Rattle.taxi_base.specs.declared.answers.Flight.{Flight}
use Rattle.taxi_base.specs.Airport.{Airport, conflict}
use Rattle.taxi_base.specs.Windows.{Hold}
use Rattle.taxi_base.specs.State.{State, name_precedes, flight_holds, party_hold}
use Rattle.taxi_base.specs.Reports.{held_row, IsHeldRow, row_precedes, AreHeldRows}
use Rattle.taxi_base.proofs.ListLaws.{Contains-map, map-Contains, Contains-flat_map, flat_map-Contains}
use Rattle.taxi_base.proofs.NameLaws.{name_precedes-trans, name_precedes-not_itself}
use Rattle.conflict_sets.specs.Conflicts.{AreConflicts}
use Rattle.held_spans.specs.declared.spans.HeldSpans.{HeldSpans}
use Rattle.held_spans.specs.Spans.{rows_at, NamedHold, AreHeldBy}
use Rattle.held_spans.proofs.SpanLaws.{one_hold, held-among, among-held}
use Rattle.checked_state.specs.Flights.{flight_held, party_held, named_in}
use Rattle.check_reports.specs.HeldRows.{end_precedes, name_precedes_then_segment, row_on, AreRowsInOrder, IsListed, IsRowDue, IsTold}

-- ---- the order

-- an order by a number and then by another order leads on, where the other does
by_number-trans : (a b c : ℕ) (p q r : Bool) → (IsTrue p → IsTrue q → IsTrue r) → IsTrue (ltb a b || (eqb a b && p)) → IsTrue (ltb b c || (eqb b c && q)) → IsTrue (ltb a c || (eqb a c && r))
by_number-trans a b c p q r on h k =
    elim (or_cases (ltb a b) (eqb a b && p) h) [
      | inl low ↦ elim (or_cases (ltb b c) (eqb b c && q) k) [
        | inl high ↦ or_left _ _ (lt-ltb a c (omega (arith, ltb-true a b low, ltb-true b c high)))
        | inr same ↦ or_left _ _ (lt-ltb a c (omega (arith, ltb-true a b low, eqb-true b c (and_parts (eqb b c) q same).0)))
      ]
      | inr same ↦ let parts = and_parts (eqb a b) p same in elim (or_cases (ltb b c) (eqb b c && q) k) [
        | inl high ↦ or_left _ _ (lt-ltb a c (omega (arith, eqb-true a b parts.0, ltb-true b c high)))
        | inr too ↦
            let others = and_parts (eqb b c) q too in
            or_right _ _ (and_from _ _ (eq-eqb a c (eqb-true a b parts.0 ∙ eqb-true b c others.0)) (on parts.1 others.1))
      ]
    ]

name_then_segment-trans : (a b c : List ℕ) (s t u : ℕ) → IsTrue (name_precedes a b || (bytes_eq a b && ltb s t)) → IsTrue (name_precedes b c || (bytes_eq b c && ltb t u))
    → IsTrue (name_precedes a c || (bytes_eq a c && ltb s u))
name_then_segment-trans a b c s t u h k =
    elim (or_cases (name_precedes a b) (bytes_eq a b && ltb s t) h) [
      | inl low ↦ elim (or_cases (name_precedes b c) (bytes_eq b c && ltb t u) k) [
        | inl high ↦ or_left _ _ (name_precedes-trans a b c low high)
        | inr same ↦ or_left _ _ (subst (λ n. IsTrue (name_precedes a n)) ((bytes_decides b c).0 (and_parts (bytes_eq b c) (ltb t u) same).0) low)
      ]
      | inr same ↦ let parts = and_parts (bytes_eq a b) (ltb s t) same in let one = (bytes_decides a b).0 parts.0 in
          elim (or_cases (name_precedes b c) (bytes_eq b c && ltb t u) k) [
            | inl high ↦ or_left _ _ (subst (λ n. IsTrue (name_precedes n c)) (sym one) high)
            | inr too ↦
                let others = and_parts (bytes_eq b c) (ltb t u) too in
                or_right _ _ (and_from _ _ ((bytes_decides a c).1 (one ∙ (bytes_decides b c).0 others.0)) (lt-ltb s u (omega (arith, ltb-true s t parts.1, ltb-true t u others.1))))
          ]
    ]

pub row_precedes-trans : (a b c : HeldRow) → IsTrue (row_precedes a b) → IsTrue (row_precedes b c) → IsTrue (row_precedes a c)
row_precedes-trans a b c h k =
    by_number-trans a.from b.from c.from (end_precedes a b) (end_precedes b c) (end_precedes a c)
    (by_number-trans a.until b.until c.until (name_precedes_then_segment a b) (name_precedes_then_segment b c) (name_precedes_then_segment a c)
    (name_then_segment-trans a.flight b.flight c.flight a.segment.0 b.segment.0 c.segment.0)) h k

-- no row stands before itself
row_precedes-not_itself : (row : HeldRow) → IsTrue (row_precedes row row) → ⊥
row_precedes-not_itself row h =
    elim (or_cases (nat_lt row.from row.from) _ h) [
      | inl low ↦ below row.from low
      | inr same ↦ elim (or_cases (nat_lt row.until row.until) _ (and_parts _ _ same).1) [
        | inl low ↦ below row.until low
        | inr too ↦ elim (or_cases (name_precedes row.flight row.flight) _ (and_parts _ _ too).1) [
          | inl before ↦ both_ways _ (name_precedes-not_itself row.flight) before
          | inr all ↦ below row.segment.0 (and_parts _ _ all).1
        ]
      ]
    ]
  where
    below : (n : ℕ) → IsTrue (nat_lt n n) → ⊥
    below n low = omega (arith, ltb-true n n low)

module _ (rows : List HeldRow) (adjacent : AllAdjacentBelow (λ a b. true ≡ row_precedes a b) rows (length rows)) where
  further : (n i : ℕ) (d : HeldRow) → i + 1 + n < length rows → IsTrue (row_precedes (get_or rows i d) (get_or rows (i + 1 + n) d))
  further zero i d on = let e : i + 1 ≡ i + 1 + 0 = omega arith in subst (λ k. IsTrue (row_precedes (get_or rows i d) (get_or rows k d))) e (sym (adjacent i d (omega arith)))
  further (suc n) i d on =
      let step : i + 1 + n + 1 ≡ i + 1 + suc n = omega arith in
      subst (λ k. IsTrue (row_precedes (get_or rows i d) (get_or rows k d))) step
      (row_precedes-trans (get_or rows i d) (get_or rows (i + 1 + n) d) (get_or rows (i + 1 + n + 1) d) (further n i d (omega arith)) (sym (adjacent (i + 1 + n) d (omega arith))))

  pairs-from_adjacent : AreRowsInOrder rows
  pairs-from_adjacent i j d below on =
      let e : i + 1 + (j - (i + 1)) ≡ j = omega arith in
      subst (λ k. IsTrue (row_precedes (get_or rows i d) (get_or rows k d))) e (further (j - (i + 1)) i d (omega arith))

-- neighbours in order are enough
pub order-by_neighbours : (r : Bool) (rows : List HeldRow) → IsAllAdjacentAnswer (λ a b r. r ≡ row_precedes a b) rows r → IsTrue r ↔ AreRowsInOrder rows
order-by_neighbours true rows adjacent = (λ _. pairs-from_adjacent rows adjacent, λ _. refl)
order-by_neighbours false rows broken =
    (λ e. absurd (false≢true e), λ ordered. absurd (both_ways _ (sym (broken.2 none)) (ordered broken.0 (broken.0 + 1) none (omega arith) broken.1))) where
      none : HeldRow
      none = record { from = 0; until = 0; flight = []; segment = record { 0 = 0 } }

-- ---- a row is found by its place

pub rows-parted : (rows : List HeldRow) (row : HeldRow) → AreRowsInOrder rows → IsPartitionedBy (λ other. row_precedes other row) rows
rows-parted rows row ordered i j d le on is =
    elim (cases_lt i j) [
      | inl below ↦ row_precedes-trans (get_or rows i d) (get_or rows j d) row (ordered i j d below on) is
      | inr above ↦ (let e : j ≡ i = omega arith in subst (λ k. row_precedes (get_or rows k d) row ≡ true) e is)
    ]

module _ (rows : List HeldRow) (row : HeldRow) (ordered : AreRowsInOrder rows) (at : ℕ)
    (point : IsPartitionPoint (λ other. row_precedes other row ≡ true) (λ other. row_precedes other row ≡ false) rows at) where
  -- a row that is there stands where the rows before it end
  row-there : Contains rows row → (at < length rows) × (get_or rows at row ≡ row)
  row-there there =
      let k = there.0 in
      elim (cases_lt k at) [
        | inl below ↦ absurd (row_precedes-not_itself row (subst (λ r. row_precedes r row ≡ true) there.2 (point.0 k row (omega arith) below)))
        | inr above ↦ elim (cases_lt at k) [
          | inl beyond ↦
              let first : IsTrue (row_precedes (get_or rows at row) row) = subst (λ r. IsTrue (row_precedes (get_or rows at row) r)) there.2 (ordered at k row beyond there.1) in
              absurd (both_ways _ (point.1 at row (omega arith) (omega (arith, there.1))) first)
          | inr same_place ↦ (let e : k ≡ at = omega arith in (omega (arith, there.1), subst (λ n. get_or rows n row ≡ row) e there.2))
        ]
      ]

  pub row-found : (found : HeldRow) → at < length rows → get_or rows at found ≡ found → (r : Bool) → IsTrue r ↔ (found ≡ row) → IsTrue r ↔ Contains rows row
  row-found found on is r same = (
    λ yes. subst (Contains rows) (same.0 yes) (at, on, is),
    λ there. same.1 (sym is ∙ get_or_default rows at found row on ∙ (row-there there).1),
  )

  pub row-missing : length rows ≤ at → Contains rows row → ⊥
  row-missing past there = absurd (omega (arith, (row-there there).0))

-- ---- what the lists of the segments have is what is held in a state

module _ (airport : Airport) (state : State) (spans : HeldSpans) (are : AreHeldBy (named_in airport state) spans) where
  abbrev parties_held : List NamedHold
  parties_held = map party_held state.parties

  abbrev flights_held : List NamedHold
  flights_held = flat_map (flight_held airport) state.flights

  abbrev of_flight : Flight → Hold → NamedHold
  of_flight f hold = record { hold = hold; holder = f.name }

  abbrev row_by : NamedHold → HeldRow
  row_by h = held_row h.holder h.hold

  abbrev span_of : HeldRow → Span
  span_of row = record { from = row.from; until = row.until }

  held-by : (h : NamedHold) → Contains (parties_held ++ flights_held) h → IsHeldRow airport state (row_by h)
  held-by h there =
      elim (Contains-append_cases parties_held flights_held h there) [
        | inl by_party ↦ (let p = map-Contains party_held state.parties h by_party in inl (p.0, p.1, ap row_by (sym p.2)))
        | inr by_flight ↦ (
            let f = flat_map-Contains (flight_held airport) state.flights h by_flight in
            let x = map-Contains (of_flight f.0) (flight_holds airport f.0) h f.2 in
            inr (f.0, f.1, x.0, x.1, ap row_by (sym x.2))
            )
      ]

  listed-held : (row : HeldRow) → IsListed spans row → IsHeldRow airport state row
  listed-held row listed =
      held-by (one_hold row.segment (span_of row) row.flight) (among-held row.segment (span_of row) row.flight spans (named_in airport state) are listed)

  listed-by : (name : List ℕ) (hold : Hold) → Contains (parties_held ++ flights_held) (record { hold = hold; holder = name }) → IsListed spans (held_row name hold)
  listed-by name hold there = held-among hold.segment hold.span name spans (named_in airport state) are there

  held-listed : (row : HeldRow) → IsHeldRow airport state row → IsListed spans row
  held-listed row (inl held) =
      let p = held.0 in
      let there = Contains-append_left parties_held flights_held (party_held p) (Contains-map party_held state.parties p held.1) in
      subst (IsListed spans) (sym held.2) (listed-by p.name (party_hold p) there)
  held-listed row (inr held) =
      let f = held.0 in
      let hold = held.2 in
      let own = Contains-map (of_flight f) (flight_holds airport f) hold held.3 in
      let there = Contains-append_right parties_held flights_held (of_flight f hold) (Contains-flat_map (flight_held airport) state.flights f (of_flight f hold) held.1 own) in
      subst (IsListed spans) (sym held.4) (listed-by f.name hold there)

  -- ---- all that is held is told

  module _ (segment : Segment) (segments : List Segment) (conflicts : AreConflicts airport.conflicts segment segments) (rows : List HeldRow) where
    told-there : All (IsTold spans rows) segments → (row : HeldRow) → IsHeldRow airport state row → IsTrue (conflict airport.conflicts segment row.segment) → Contains rows row
    told-there told row is near =
        All-contains (λ listed. Contains rows (row_on row.segment listed)) (rows_at spans row.segment) (span_of row, row.flight)
        (All-contains (IsTold spans rows) segments row.segment told ((conflicts.each row.segment).1 near)) (held-listed row is)

    there-told : AreHeldRows airport state segment rows → All (IsTold spans rows) segments
    there-told told i e on k d low =
        let s = get_or segments i e in
        let listed = get_or (rows_at spans s) k d in
        (told.whole (row_on s listed)).1 (listed-held (row_on s listed) (Contains-get_or (rows_at spans s) k d low), (conflicts.each s).0 (Contains-get_or segments i e on))

    -- rows in order that are all due, where all that is due is told
    pub all-held : AreRowsInOrder rows → All (IsRowDue airport spans segment) rows → (r : Bool) → IsTrue r ↔ All (IsTold spans rows) segments → IsTrue r ↔ AreHeldRows airport state segment rows
    all-held in_order due r same = (
      λ yes. record {
        ordered = in_order;
        whole = λ row. (
          λ there. let is = All-contains (IsRowDue airport spans segment) rows row due there in (listed-held row is.0, is.1),
          λ is. told-there (same.0 yes) row is.0 is.1,
        );
      },
      λ told. same.1 (there-told told),
    )

  pub held-due : (segment : Segment) (rows : List HeldRow) → AreHeldRows airport state segment rows → All (IsRowDue airport spans segment) rows
  held-due segment rows told k d low =
      let row = get_or rows k d in
      let is = (told.whole row).0 (Contains-get_or rows k d low) in
      (held-listed row is.0, is.1)
