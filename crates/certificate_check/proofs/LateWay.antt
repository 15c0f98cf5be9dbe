-- The first second that a hold has in common with others, and from when on a holder is in the way.
use Rattle.std.proofs.Common.{◌≡◌, ◌∙◌, ℕ, ◌+◌, ◌<◌, ◌≤◌, min, Bool, true, false, ◌||◌, List, [], ◌∷◌, ◌++◌, length, take, get_or, Option, Some, None, is_some, IsTrue, IsFalse, inl, inr, refl, sym, ap, subst, arith}
use Rattle.std.specs.Prelude.{Contains, All, bytes_eq}
use Rattle.std.specs.List.{list_any}
use Rattle.std.specs.Cmp.Lexicographic.{bytes_decides}
use Rattle.std.proofs.lemmas.Bool.{cases_lt, and_parts, or_from, or_left, or_right, false_from_ne_true, both_ways}
use Rattle.std.proofs.lemmas.Option.{none-some}
use Rattle.std.proofs.lemmas.List.{take_more, map-append}
use Rattle.std.proofs.lemmas.List.Elements.{All-contains}
use Rattle.std.proofs.lemmas.List.Folds.{list_any-append}
use Rattle.taxi_base.specs.declared.answers.Flight.{Flight}
use Rattle.taxi_base.specs.declared.answers.Party.{Party}
use Rattle.taxi_base.specs.Airport.{Airport, conflict, segment_of}
use Rattle.taxi_base.specs.declared.numbers.Segment.{Segment}
use Rattle.taxi_base.specs.declared.rows.Span.{Span}
use Rattle.taxi_base.specs.declared.rows.Step.{Step}
use Rattle.taxi_base.specs.Windows.{Hold, hold_of, holds_of, span_has, clash, blocks}
use Rattle.taxi_base.specs.State.{State, flight_named, party_named, flight_holds, party_hold, IsFeasibleState}
use Rattle.taxi_base.specs.Late.{Delay, Meeting, prolonged_hold, IsFirstCommon, IsInTheWay, is_late}
use Rattle.taxi_base.proofs.ListLaws.{list_any-true, list_any-member}
use Rattle.taxi_base.proofs.HoldLaws.{clash-from}
use Rattle.taxi_base.proofs.WindowLaws.{span_has-from, span_has-true}
use Rattle.taxi_base.proofs.OtherHolds.{named-there, there-named, named-once}
use Rattle.taxi_base.proofs.LateLaws.{first-common, common-meets}
use Rattle.certificate_check.specs.Late.{IsFirstIn, IsInWayFrom, sooner}

pub or-none : (b : Bool) → (b || false) ≡ b
or-none true = refl
or-none false = refl

-- ---- the first common second

module _ (airport : Airport) (hold : Hold) where
  abbrev at : List Hold → ℕ → Bool
  at holds t = list_any (blocks airport.conflicts hold.segment t) holds

  quiet : (holds : List Hold) → IsFirstIn airport hold holds None → (t : ℕ) → hold.span.from ≤ t → t < hold.span.until → IsFalse (at holds t)
  quiet holds none t low high = false_from_ne_true _ (λ here.
      let found = list_any-true (blocks airport.conflicts hold.segment t) holds here in
      let parts = and_parts (conflict airport.conflicts hold.segment found.0.segment) (span_has found.0.span t) found.2 in
      both_ways _ none (list_any-member (clash airport.conflicts hold) holds found.0 found.1 (clash-from airport.conflicts hold found.0 t parts.0 (span_has-from hold.span t low high) parts.1)))

  none-common : (holds : List Hold) → ((t : ℕ) → hold.span.from ≤ t → t < hold.span.until → IsFalse (at holds t)) → IsFirstIn airport hold holds None
  none-common holds never = false_from_ne_true _ (λ meets.
      let common = first-common airport hold holds meets in
      let inside = span_has-true hold.span common.0 common.1.within in
      both_ways _ (never common.0 inside.0 inside.1) common.1.common)

  neither : (xs ys : List Hold) (t : ℕ) → IsFalse (at xs t) → IsFalse (at ys t) → IsFalse (at (xs ++ ys) t)
  neither xs ys t a b = list_any-append (blocks airport.conflicts hold.segment t) xs ys ∙ or_from _ _ a b

  one_of : (xs ys : List Hold) (t : ℕ) → IsTrue (at xs t || at ys t) → IsTrue (at (xs ++ ys) t)
  one_of xs ys t here = list_any-append (blocks airport.conflicts hold.segment t) xs ys ∙ here

  -- of two lists the sooner one
  pub first-append : (xs ys : List Hold) (a b : Option ℕ) → IsFirstIn airport hold xs a → IsFirstIn airport hold ys b → IsFirstIn airport hold (xs ++ ys) (sooner a b)
  first-append xs ys None None none_xs none_ys = none-common (xs ++ ys) (λ t low high. neither xs ys t (quiet xs none_xs t low high) (quiet ys none_ys t low high))
  first-append xs ys None (Some second) none_xs first =
      let inside = span_has-true hold.span second first.within in
      record {
        within = first.within;
        common = one_of xs ys second (or_right _ _ first.common);
        first = λ t low early. neither xs ys t (quiet xs none_xs t low (omega (arith, early, inside.1))) (first.first t low early);
      }
  first-append xs ys (Some second) None first none_ys =
      let inside = span_has-true hold.span second first.within in
      record {
        within = first.within;
        common = one_of xs ys second (or_left _ _ first.common);
        first = λ t low early. neither xs ys t (first.first t low early) (quiet ys none_ys t low (omega (arith, early, inside.1)));
      }
  first-append xs ys (Some a) (Some b) first second = elim (cases_lt b a) [
    | inl later ↦
        let e : b ≡ min a b = omega (arith, later) in
        subst (λ n. IsFirstCommon airport hold (xs ++ ys) n) e (record {
          within = second.within;
          common = one_of xs ys b (or_right _ _ second.common);
          first = λ t low early. neither xs ys t (first.first t low (omega (arith, early, later))) (second.first t low early);
        })
    | inr sooner ↦
        let e : a ≡ min a b = omega (arith, sooner) in
        subst (λ n. IsFirstCommon airport hold (xs ++ ys) n) e (record {
          within = first.within;
          common = one_of xs ys a (or_left _ _ first.common);
          first = λ t low early. neither xs ys t (first.first t low early) (second.first t low (omega (arith, early, sooner)));
        })
  ]

  -- ---- of one other hold

  -- whether there is one
  pub some-meets : (holds : List Hold) (r : Option ℕ) → IsFirstIn airport hold holds r → is_some r ≡ list_any (clash airport.conflicts hold) holds
  some-meets holds None none = sym none
  some-meets holds (Some second) first = sym (common-meets airport hold holds second first)

  pub one-meets : (other : Hold) (r : Option ℕ) → IsFirstIn airport hold (other ∷ []) r → is_some r ≡ clash airport.conflicts hold other
  one-meets other r first = some-meets (other ∷ []) r first ∙ or-none (clash airport.conflicts hold other)

  first-earlier : (holds : List Hold) (s t : ℕ) → IsFirstCommon airport hold holds s → IsFirstCommon airport hold holds t → s < t → ⊥
  first-earlier holds s t a b lower = both_ways _ (b.first s (span_has-true hold.span s a.within).0 lower) a.common

  first-one : (holds : List Hold) (s t : ℕ) → IsFirstCommon airport hold holds s → IsFirstCommon airport hold holds t → s ≡ t
  first-one holds s t a b = elim (cases_lt s t) [
    | inl lower ↦ absurd (first-earlier holds s t a b lower)
    | inr no_lower ↦ elim (cases_lt t s) [
      | inl higher ↦ absurd (first-earlier holds t s b a higher)
      | inr no_higher ↦ omega arith
    ]
  ]

-- ---- holders of a name

module _ (airport : Airport) (state : State) (delay : Delay) (feasible : IsFeasibleState airport state) where
  abbrev hold : Hold
  hold = prolonged_hold airport delay

  kinds-differ : (p : Party) (f : Flight) → Contains state.parties p → Contains state.flights f → p.name ≡ f.name → ⊥
  kinds-differ p f p_there f_there e =
      both_ways _ (All-contains (λ (f : Flight). IsFalse (bytes_eq f.name p.name)) state.flights f (All-contains (λ q. All (λ (f : Flight). IsFalse (bytes_eq f.name q.name)) state.flights) state.parties p feasible.differ p_there) f_there)
      ((bytes_decides f.name p.name).1 (sym e))

  -- a holder is in the way from one second on
  pub way-one : (a b : Meeting) → IsInTheWay airport state delay a → IsInTheWay airport state delay b → a.name ≡ b.name → a.second ≡ b.second
  way-one a b (inl p) (inl q) e =
      let same : p.0 ≡ q.0 = named-once (λ (r : Party). r.name) state.parties p.0 q.0 feasible.parties_ordered p.1 q.1 (p.2 ∙ e ∙ sym q.2) in
      first-one airport hold (party_hold q.0 ∷ []) a.second b.second (subst (λ r. IsFirstCommon airport hold (party_hold r ∷ []) a.second) same p.3) q.3
  way-one a b (inr f) (inr g) e =
      let same : f.0 ≡ g.0 = named-once (λ (h : Flight). h.name) state.flights f.0 g.0 feasible.ordered f.1 g.1 (f.2 ∙ e ∙ sym g.2) in
      first-one airport hold (flight_holds airport g.0) a.second b.second (subst (λ h. IsFirstCommon airport hold (flight_holds airport h) a.second) same f.4) g.4
  way-one a b (inl p) (inr g) e = absurd (kinds-differ p.0 g.0 p.1 g.1 (p.2 ∙ e ∙ sym g.2))
  way-one a b (inr f) (inl q) e = absurd (kinds-differ q.0 f.0 q.1 f.1 (q.2 ∙ sym e ∙ sym f.2))

  module _ (name : List ℕ) where
    no-party : party_named name state.parties ≡ None → (p : Party) → Contains state.parties p → p.name ≡ name → ⊥
    no-party none p there e = none-some p (sym none ∙ subst (λ n. party_named n state.parties ≡ Some p) e (there-named (λ (r : Party). r.name) state.parties p feasible.parties_ordered there))

    no-flight : flight_named name state.flights ≡ None → (f : Flight) → Contains state.flights f → f.name ≡ name → ⊥
    no-flight none f there e = none-some f (sym none ∙ subst (λ n. flight_named n state.flights ≡ Some f) e (there-named (λ (g : Flight). g.name) state.flights f feasible.ordered there))

    from-here : (second : ℕ) → IsInTheWay airport state delay (record { second = second; name = name }) → IsInWayFrom airport state delay name (Some second)
    from-here second way = (way, λ m e other. way-one m (record { second = second; name = name }) other way e)

    pub party-from : (p : Party) → party_named name state.parties ≡ Some p → (r : Option ℕ) → IsFirstIn airport hold (party_hold p ∷ []) r → IsInWayFrom airport state delay name r
    party-from p found (Some second) first = let there = named-there (λ (q : Party). q.name) name state.parties p found in from-here second (inl (p, there.0, there.1, first))
    party-from p found None none = go where
      there : Contains state.parties p × (p.name ≡ name)
      there = named-there (λ (q : Party). q.name) name state.parties p found

      go : (m : Meeting) → m.name ≡ name → IsInTheWay airport state delay m → ⊥
      go m e (inr f) = kinds-differ p f.0 there.0 f.1 (there.1 ∙ sym e ∙ sym f.2)
      go m e (inl q) =
          let same : q.0 ≡ p = named-once (λ (r : Party). r.name) state.parties q.0 p feasible.parties_ordered q.1 there.0 (q.2 ∙ e ∙ sym there.1) in
          both_ways _ none (common-meets airport hold (party_hold p ∷ []) m.second (subst (λ r. IsFirstCommon airport hold (party_hold r ∷ []) m.second) same q.3))

    module _ (alone : party_named name state.parties ≡ None) where
      pub nobody-from : flight_named name state.flights ≡ None → IsInWayFrom airport state delay name None
      nobody-from none = go where
        go : (m : Meeting) → m.name ≡ name → IsInTheWay airport state delay m → ⊥
        go m e (inl q) = no-party alone q.0 q.1 (q.2 ∙ e)
        go m e (inr f) = no-flight none f.0 f.1 (f.2 ∙ e)

      module _ (f : Flight) (found : flight_named name state.flights ≡ Some f) where
        there : Contains state.flights f × (f.name ≡ name)
        there = named-there (λ (g : Flight). g.name) name state.flights f found

        same : (g : Flight) → Contains state.flights g → g.name ≡ name → g ≡ f
        same g g_there e = named-once (λ (h : Flight). h.name) state.flights g f feasible.ordered g_there there.0 (e ∙ sym there.1)

        pub late-from : IsTrue (is_late delay f) → IsInWayFrom airport state delay name None
        late-from late = go where
          go : (m : Meeting) → m.name ≡ name → IsInTheWay airport state delay m → ⊥
          go m e (inl q) = no-party alone q.0 q.1 (q.2 ∙ e)
          go m e (inr g) = both_ways _ (subst (λ h. IsFalse (is_late delay h)) (same g.0 g.1 (g.2 ∙ e)) g.3) late

        pub flight-from : IsFalse (is_late delay f) → (r : Option ℕ) → IsFirstIn airport hold (flight_holds airport f) r → IsInWayFrom airport state delay name r
        flight-from other (Some second) first = from-here second (inr (f, there.0, there.1, other, first))
        flight-from other None none = go where
          go : (m : Meeting) → m.name ≡ name → IsInTheWay airport state delay m → ⊥
          go m e (inl q) = no-party alone q.0 q.1 (q.2 ∙ e)
          go m e (inr g) = both_ways _ none (common-meets airport hold (flight_holds airport f) m.second (subst (λ h. IsFirstCommon airport hold (flight_holds airport h) m.second) (same g.0 g.1 (g.2 ∙ e)) g.4))

-- ---- of steps one after the other

pub first-push : (airport : Airport) (hold : Hold) (clearance horizon : ℕ) (steps : List Step) (i : ℕ) (d : Step) → horizon ≡ airport.horizon → i < length steps
    → (segment other : Segment) (span held : Span) → segment ≡ hold.segment → span ≡ hold.span → other ≡ segment_of (get_or steps i d).arc → held ≡ (hold_of horizon clearance (get_or steps i d)).span
    → (first common : Option ℕ) → IsFirstIn airport hold (holds_of airport.horizon clearance (take i steps)) first
    → IsFirstIn airport (record { segment = segment; span = span }) (record { segment = other; span = held } ∷ []) common
    → IsFirstIn airport hold (holds_of airport.horizon clearance (take (i + 1) steps)) (sooner first common)
first-push airport hold clearance horizon steps i d is_horizon low segment other span held is_segment is_span is_other is_held first common so_far here =
    let its : record { segment = other; span = held } ≡ hold_of airport.horizon clearance (get_or steps i d) =
    (λ i. record { segment = is_other i; span = is_held i }) ∙ ap (λ h. hold_of h clearance (get_or steps i d)) is_horizon in
    let same : record { segment = segment; span = span } ≡ hold = (λ i. record { segment = is_segment i; span = is_span i }) in
    let one = subst (λ (h : Hold). IsFirstIn airport h (hold_of airport.horizon clearance (get_or steps i d) ∷ []) common) same
    (subst (λ (o : Hold). IsFirstIn airport (record { segment = segment; span = span }) (o ∷ []) common) its here) in
    let more : holds_of airport.horizon clearance (take (i + 1) steps) ≡ holds_of airport.horizon clearance (take i steps) ++ hold_of airport.horizon clearance (get_or steps i d) ∷ [] =
    ap (holds_of airport.horizon clearance) (take_more steps i d low) ∙ map-append (hold_of airport.horizon clearance) (take i steps) (get_or steps i d ∷ []) in
    subst (λ (hs : List Hold). IsFirstIn airport hold hs (sooner first common)) (sym more)
    (first-append airport hold (holds_of airport.horizon clearance (take i steps)) (hold_of airport.horizon clearance (get_or steps i d) ∷ []) first common so_far one)
