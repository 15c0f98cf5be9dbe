-- What others than the holder of a name hold, and holds within others. Holders by rising names are found by them.
use Rattle.std.proofs.Common.{◌≡◌, ℕ, not, List, [], ◌∷◌, map, IsTrue, IsFalse, Some, refl, sym, ◌∙◌, ap, subst, arith, inl, inr, ◌⊎◌}
use Rattle.std.specs.Prelude.{Contains, AllPairs, bytes_eq, flat_map}
use Rattle.std.proofs.lemmas.Bool.{cases_Bool, not_from_false, not-true}
use Rattle.std.proofs.lemmas.Option.{none-some}
use Rattle.std.proofs.lemmas.List.Elements.{All-contains, Contains-append_cases, Contains-append_left, Contains-append_right}
use Rattle.std.specs.Cmp.Lexicographic.{bytes_decides}
use Rattle.taxi_base.specs.declared.numbers.Segment.{Segment}
use Rattle.taxi_base.specs.declared.answers.Flight.{Flight}
use Rattle.taxi_base.specs.declared.answers.Party.{Party}
use Rattle.taxi_base.specs.Airport.{Airport, conflict}
use Rattle.taxi_base.specs.Windows.{Hold, IsPart, clash}
use Rattle.taxi_base.specs.Walks.{free_among, IsFreeAmong}
use Rattle.taxi_base.specs.State.{State, name_precedes, named, without, flight_holds, party_hold, holds_in}
use Rattle.taxi_base.proofs.ListLaws.{Contains-first, Contains-rest, Contains-cons_cases, Contains-map, map-Contains, Contains-flat_map, flat_map-Contains, Contains-filter, filter-Contains, AllPairs-first, AllPairs-rest}
use Rattle.taxi_base.proofs.HoldLaws.{clash-true, clash-from}
use Rattle.taxi_base.proofs.WindowLaws.{span_has-from, span_has-true}
use Rattle.taxi_base.proofs.NameLaws.{differ-turned, name_precedes-differ}

-- ---- lists by rising names

module _ {X : Type 0} (name_of : X → List ℕ) where
  -- what has a name is one of the list
  pub named-there : (name : List ℕ) (xs : List X) (x : X) → named name_of name xs ≡ Some x → Contains xs x × (name_of x ≡ name)
  named-there name [] x h = absurd (none-some x h)
  named-there name (y ∷ ys) x h =
      elim (cases_Bool (bytes_eq (name_of y) name)) [
        | inl here ↦ let e : y ≡ x = some_same (rw here at h) in
            (subst (Contains (y ∷ ys)) e (Contains-first y ys), subst (λ z. name_of z ≡ name) e ((bytes_decides (name_of y) name).0 here))
        | inr other ↦ let rest = named-there name ys x (rw other at h) in (Contains-rest y x ys rest.0, rest.1)
      ]
    where
      some_same : {a b : X} → Some a ≡ Some b → a ≡ b
      some_same e = cc

  -- and one of the list is found by its name
  pub there-named : (xs : List X) (x : X) → AllPairs (λ a b. IsTrue (name_precedes (name_of a) (name_of b))) xs → Contains xs x → named name_of (name_of x) xs ≡ Some x
  there-named [] x ordered there = absurd (omega (arith, there.1))
  there-named (y ∷ ys) x ordered there =
      elim (Contains-cons_cases y x ys there) [
        | inl e ↦ rw ((bytes_decides (name_of y) (name_of x)).1 (ap name_of e)) (ap Some e)
        | inr later ↦
            let before : IsTrue (name_precedes (name_of y) (name_of x)) =
            All-contains (λ z. IsTrue (name_precedes (name_of y) (name_of z))) ys x (AllPairs-first (λ a b. IsTrue (name_precedes (name_of a) (name_of b))) y ys ordered) later in
            let differ : IsFalse (bytes_eq (name_of y) (name_of x)) = differ-turned (name_of x) (name_of y) (name_precedes-differ (name_of y) (name_of x) before) in
            rw differ (there-named ys x (AllPairs-rest (λ a b. IsTrue (name_precedes (name_of a) (name_of b))) y ys ordered) later)
      ]

  -- two of the list with one name are one
  pub named-once : (xs : List X) (x y : X) → AllPairs (λ a b. IsTrue (name_precedes (name_of a) (name_of b))) xs → Contains xs x → Contains xs y → name_of x ≡ name_of y → x ≡ y
  named-once xs x y ordered x_there y_there e =
      same (sym (there-named xs x ordered x_there) ∙ ap (λ n. named name_of n xs) e ∙ there-named xs y ordered y_there)
    where
      same : {a b : X} → Some a ≡ Some b → a ≡ b
      same e = cc

-- ---- the others' holds

-- who of the others holds this: a party or a flight of another name
abbrev pub IsHeldByOther : Airport → State → List ℕ → Hold → Type 0
IsHeldByOther airport state name hold =
    ((p : Party) × Contains state.parties p × IsFalse (bytes_eq p.name name) × (party_hold p ≡ hold))
    ⊎ ((f : Flight) × Contains state.flights f × IsFalse (bytes_eq f.name name) × Contains (flight_holds airport f) hold)

pub other-of : (airport : Airport) (state : State) (name : List ℕ) (h : Hold) → Contains (holds_in airport (without name state)) h → IsHeldByOther airport state name h
other-of airport state name h held =
    elim (Contains-append_cases (map party_hold (without name state).parties) (flat_map (flight_holds airport) (without name state).flights) h held) [
      | inl by_party ↦
          let found = map-Contains party_hold (without name state).parties h by_party in
          let kept = filter-Contains (λ (p : Party). not (bytes_eq p.name name)) state.parties found.0 found.1 in
          inl (found.0, kept.0, not-true _ kept.1, found.2)
      | inr by_flight ↦
          let found = flat_map-Contains (flight_holds airport) (without name state).flights h by_flight in
          let kept = filter-Contains (λ (f : Flight). not (bytes_eq f.name name)) state.flights found.0 found.1 in
          inr (found.0, kept.0, not-true _ kept.1, found.2)
    ]

pub of-other : (airport : Airport) (state : State) (name : List ℕ) (h : Hold) → IsHeldByOther airport state name h → Contains (holds_in airport (without name state)) h
of-other airport state name h (inl party) =
    Contains-append_left (map party_hold (without name state).parties) (flat_map (flight_holds airport) (without name state).flights) h
    (subst (Contains (map party_hold (without name state).parties)) party.3
    (Contains-map party_hold (without name state).parties party.0
    (Contains-filter (λ (p : Party). not (bytes_eq p.name name)) state.parties party.0 party.1 (not_from_false _ party.2))))
of-other airport state name h (inr flight) =
    Contains-append_right (map party_hold (without name state).parties) (flat_map (flight_holds airport) (without name state).flights) h
    (Contains-flat_map (flight_holds airport) (without name state).flights flight.0 h
    (Contains-filter (λ (f : Flight). not (bytes_eq f.name name)) state.flights flight.0 flight.1 (not_from_false _ flight.2)) flight.3)

-- ---- one hold within another

-- the segment is the same, and the span is part of the other's
pub record IsWithin (inner outer : Hold) : Type 0 where
  pub segment : inner.segment ≡ outer.segment
  pub span : IsPart inner.span outer.span

pub within-itself : (h : Hold) → IsWithin h h
within-itself h = record { segment = refl; span = (omega arith, omega arith) }

-- what clashes with the inner one clashes with the outer one
pub within-clash : (sets : List (List Segment)) (a inner outer : Hold) → IsWithin inner outer → IsTrue (clash sets a inner) → IsTrue (clash sets a outer)
within-clash sets a inner outer within h =
    let parts = clash-true sets a inner h in
    let inside = span_has-true inner.span parts.1.0 parts.1.2 in
    clash-from sets a outer parts.1.0 (subst (λ s. IsTrue (conflict sets a.segment s)) within.segment parts.0) parts.1.1
    (span_has-from outer.span parts.1.0 (omega (arith, within.span.0, inside.0)) (omega (arith, within.span.1, inside.1)))

-- and where the outer one is free, so is the inner one
pub within-free : (airport : Airport) (holds : List Hold) (inner outer : Hold) → IsWithin inner outer → IsFreeAmong airport holds outer → IsFreeAmong airport holds inner
within-free airport holds inner outer within free t low high =
    subst (λ s. IsTrue (free_among airport holds s t)) (sym within.segment) (free t (omega (arith, within.span.0)) (omega (arith, within.span.1)))
