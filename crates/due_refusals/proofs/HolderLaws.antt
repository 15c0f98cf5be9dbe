-- The first by name of the holders of the segments in conflict with one is the first by name that holds a segment in conflict with it.
use Rattle.std.proofs.Common.{◌≡◌, ◌∙◌, ℕ, List, ◌++◌, map, inl, inr, IsTrue, Option, Some, None, sym, ap, subst}
use Rattle.std.specs.Prelude.{Contains, flat_map}
use Rattle.std.proofs.lemmas.Bool.{and_from, and_parts}
use Rattle.std.proofs.lemmas.List.Elements.{Contains-append_cases, Contains-append_left, Contains-append_right}
use Rattle.taxi_base.specs.declared.numbers.Segment.{Segment}
use Rattle.taxi_base.specs.declared.answers.Flight.{Flight}
use Rattle.taxi_base.specs.Airport.{Airport, conflict}
use Rattle.taxi_base.specs.Windows.{Hold, blocks, span_has}
use Rattle.taxi_base.specs.State.{State, IsInOrder, flight_holds, party_hold}
use Rattle.taxi_base.specs.Faults.{holder_at, IsHolderAt}
use Rattle.taxi_base.proofs.ListLaws.{list_any-true, list_any-member, Contains-map, map-Contains, Contains-flat_map, flat_map-Contains}
use Rattle.taxi_base.proofs.HolderLaws.{holder_at-told, holder_at-none}
use Rattle.conflict_sets.specs.Conflicts.{AreConflicts}
use Rattle.held_spans.specs.declared.spans.HeldSpans.{HeldSpans}
use Rattle.held_spans.specs.Holders.{IsFirstOf, IsHolderIn}
use Rattle.held_spans.specs.Spans.{rows_at, NamedHold, AreHeldBy}
use Rattle.held_spans.proofs.SpanLaws.{one_hold, held-among, among-held}
use Rattle.checked_state.specs.Flights.{flight_held, party_held, named_in}

module _ (airport : Airport) (state : State) (ordered : IsInOrder state) (spans : HeldSpans) (are : AreHeldBy (named_in airport state) spans) (s : Segment) (segments : List Segment)
    (conflicts : AreConflicts airport.conflicts s segments) (t : ℕ) where
  abbrev parties_held : List NamedHold
  parties_held = map party_held state.parties

  abbrev flights_held : List NamedHold
  flights_held = flat_map (flight_held airport) state.flights

  abbrev of_flight : Flight → Hold → NamedHold
  of_flight f hold = record { hold = hold; holder = f.name }

  -- who is told by the lists holds a segment in conflict
  told : (h : NamedHold) (name : List ℕ) → Contains (parties_held ++ flights_held) h → h.holder ≡ name → IsTrue (blocks airport.conflicts s t h.hold) → IsHolderAt airport state s t name
  told h name there is blocked =
      elim (Contains-append_cases parties_held flights_held h there) [
        | inl by_party ↦ (
            let p = map-Contains party_held state.parties h by_party in
            inl (p.0, p.1, ap (λ (x : NamedHold). x.holder) p.2 ∙ is, subst (λ (x : NamedHold). IsTrue (blocks airport.conflicts s t x.hold)) (sym p.2) blocked)
            )
        | inr by_flight ↦ (
            let f = flat_map-Contains (flight_held airport) state.flights h by_flight in
            let x = map-Contains (of_flight f.0) (flight_holds airport f.0) h f.2 in
            inr (
              f.0,
              f.1,
              ap (λ (x : NamedHold). x.holder) x.2 ∙ is,
              list_any-member (blocks airport.conflicts s t) (flight_holds airport f.0) x.0 x.1 (subst (λ (x : NamedHold). IsTrue (blocks airport.conflicts s t x.hold)) (sym x.2) blocked),
            )
            )
      ]

  from_lists : (name : List ℕ) → IsHolderIn (flat_map (rows_at spans) segments) t name → IsHolderAt airport state s t name
  from_lists name h =
      let row = h.0 in
      let on = flat_map-Contains (rows_at spans) segments row h.1 in
      let there = among-held on.0 row.0 row.1 spans (named_in airport state) are on.2 in
      told (one_hold on.0 row.0 row.1) name there h.2 (and_from (conflict airport.conflicts s on.0) (span_has row.0 t) ((conflicts.each on.0).0 on.1) h.3)

  -- who holds a segment in conflict is told by its list
  listed : (hold : Hold) (name : List ℕ) → Contains (parties_held ++ flights_held) (record { hold = hold; holder = name }) → IsTrue (blocks airport.conflicts s t hold)
      → IsHolderIn (flat_map (rows_at spans) segments) t name
  listed hold name there blocked =
      let both = and_parts (conflict airport.conflicts s hold.segment) (span_has hold.span t) blocked in
      let row = held-among hold.segment hold.span name spans (named_in airport state) are there in
      ((hold.span, name), Contains-flat_map (rows_at spans) segments hold.segment (hold.span, name) ((conflicts.each hold.segment).1 both.0) row, λ _. name, both.1)

  to_lists : (name : List ℕ) → IsHolderAt airport state s t name → IsHolderIn (flat_map (rows_at spans) segments) t name
  to_lists name h =
      elim h [
        | inl by_party ↦ (
            let p = by_party.0 in
            let there = Contains-append_left parties_held flights_held (party_held p) (Contains-map party_held state.parties p by_party.1) in
            subst (IsHolderIn (flat_map (rows_at spans) segments) t) by_party.2 (listed (party_hold p) p.name there by_party.3)
            )
        | inr by_flight ↦ (
            let f = by_flight.0 in
            let x = list_any-true (blocks airport.conflicts s t) (flight_holds airport f) by_flight.3 in
            let own = Contains-map (of_flight f) (flight_holds airport f) x.0 x.1 in
            let there = Contains-append_right parties_held flights_held (of_flight f x.0) (Contains-flat_map (flight_held airport) state.flights f (of_flight f x.0) by_flight.1 own) in
            subst (IsHolderIn (flat_map (rows_at spans) segments) t) by_flight.2 (listed x.0 f.name there x.2)
            )
      ]

  pub holder-found : (first : Option (List ℕ)) → IsFirstOf (IsHolderIn (flat_map (rows_at spans) segments) t) first → first ≡ holder_at airport state s t
  holder-found None none = sym ((holder_at-none airport state s t ordered).1 (λ name h. none name (to_lists name h)))
  holder-found (Some name) is = sym ((holder_at-told airport state s t ordered name).1 (record { one = from_lists name is.0; first = λ other h. is.1 other (to_lists other h) }))
