-- Those in the way: among some of the work parties and flights, and one more of them.
use Rattle.std.proofs.Common.{◌≡◌, ◌∙◌, ℕ, suc, ◌<◌, List, [], ◌∷◌, ◌++◌, length, take, get_or, IsTrue, IsFalse, Some, None, refl, sym, ap, subst, arith, inl, inr, ◌⊎◌, ◌↔◌}
use Rattle.std.specs.Prelude.{Contains, All, AllPairs, bytes_eq}
use Rattle.std.specs.List.{list_any}
use Rattle.std.proofs.Math.Seq.{take-suc}
use Rattle.std.proofs.lemmas.Bool.{cases_lt, both_ways}
use Rattle.std.proofs.lemmas.List.{get_or-take, get_or_default, length-take-le}
use Rattle.std.proofs.lemmas.List.Elements.{All-contains, All-weaker, All-contains_itself, Contains-append_left, Contains-push, Contains-push_cases}
use Rattle.taxi_base.specs.declared.answers.Flight.{Flight}
use Rattle.taxi_base.specs.declared.answers.Party.{Party}
use Rattle.taxi_base.specs.Airport.{Airport}
use Rattle.taxi_base.specs.Windows.{Hold, clash}
use Rattle.taxi_base.specs.Walks.{IsFeasibleWalk, IsFeasibleStep}
use Rattle.taxi_base.specs.State.{State, name_precedes, flight_holds, party_hold, conditions_of, IsFeasibleState}
use Rattle.taxi_base.specs.Late.{Delay, Meeting, IsDelay, prolonged_hold, IsFirstCommon, IsInTheWay, meeting_precedes, AreInTheWay, is_late, flight_meets}
use Rattle.taxi_base.proofs.AirportLaws.{arc_exists-segment}
use Rattle.taxi_base.proofs.NameLaws.{differ-turned, name_precedes-differ}
use Rattle.taxi_base.proofs.WindowLaws.{span_has-true}
use Rattle.taxi_base.proofs.KeptSteps.{seam}
use Rattle.taxi_base.proofs.BaseLaws.{late-there, late-about}
use Rattle.late_repair.specs.Repairing.{IsOnSegment, IsOtherMeeting}
use Rattle.late_repair.proofs.MeetingLaws.{some-meets}

-- ---- the segment of the flight that is late

pub late-on_segment : (airport : Airport) (state : State) (delay : Delay) → IsFeasibleState airport state → IsDelay airport state delay → IsOnSegment airport delay
late-on_segment airport state delay feasible is =
    let about = late-about airport state delay feasible is in
    let walk : IsFeasibleWalk (conditions_of airport state delay.flight) (about.0 ++ delay.begun ∷ about.1) =
    subst (IsFeasibleWalk (conditions_of airport state delay.flight)) about.2.joined
    (All-contains (λ f. IsFeasibleWalk (conditions_of airport state f) f.steps) state.flights delay.flight feasible.walks (late-there airport state delay feasible is)) in
    let made : IsFeasibleStep (conditions_of airport state delay.flight) delay.begun = seam (conditions_of airport state delay.flight) about.0 delay.begun about.1 walk in
    arc_exists-segment airport delay.begun.arc made.on_arc

-- ---- the first elements of a list

pub take-more : {X : Type 0} (xs : List X) (i : ℕ) (x : X) → i < length xs → x ≡ get_or xs i x → take (suc i) xs ≡ take i xs ++ x ∷ []
take-more xs i x low here = take-suc xs i x low ∙ ap (λ y. take i xs ++ y ∷ []) (sym here)

-- what holds of each element and each later one holds of the first ones and the next
pub before-next : {X : Type 0} (R : X → X → Type 0) (xs : List X) (i : ℕ) (x : X) → AllPairs R xs → i < length xs → x ≡ get_or xs i x → All (λ y. R y x) (take i xs)
before-next R xs i x pairs low here k d below =
    let under : k < i = omega (arith, below, length-take-le i xs (omega (arith, low))) in
    rw (get_or-take i xs k d under) (subst (R (get_or xs k d)) (sym (here ∙ get_or_default xs i x d low)) (pairs k i d under low))

module _ (airport : Airport) (delay : Delay) where
  abbrev P : Hold
  P = prolonged_hold airport delay

  -- the first common second is one
  first-one : (holds : List Hold) (s t : ℕ) → IsFirstCommon airport P holds s → IsFirstCommon airport P holds t → s ≡ t
  first-one holds s t a b = elim (cases_lt s t) [
    | inl lower ↦ absurd (both_ways _ (b.first s (span_has-true P.span s a.within).0 lower) a.common)
    | inr no_lower ↦ elim (cases_lt t s) [
      | inl higher ↦ absurd (both_ways _ (a.first t (span_has-true P.span t b.within).0 higher) b.common)
      | inr no_higher ↦ omega (arith, no_lower, no_higher)
    ]
  ]

  meeting-same : (name : List ℕ) (holds : List Hold) (second : ℕ) (m : Meeting) → IsFirstCommon airport P holds second → name ≡ m.name → IsFirstCommon airport P holds m.second
      → record { second = second; name = name } ≡ m
  meeting-same name holds second m common named also =
      let e : second ≡ m.second = first-one holds second m.second common also in
      λ i. record { second = e i; name = named i }

  -- ---- who else is in the way with one more

  -- no one else is
  pub way-same : (state more : State) (meetings : List Meeting) → AreInTheWay airport state delay meetings
      → ((m : Meeting) → IsInTheWay airport more delay m ↔ IsInTheWay airport state delay m) → AreInTheWay airport more delay meetings
  way-same state more meetings way same = record {
    ordered = way.ordered;
    whole = λ m. (λ there. (same m).1 ((way.whole m).0 there), λ is. (way.whole m).1 ((same m).0 is));
  }

  -- one more is
  pub way-more : (state more : State) (meetings others : List Meeting) (x : Meeting) → AreInTheWay airport state delay meetings
      → AllPairs (λ a b. IsTrue (meeting_precedes a b)) others → ((m : Meeting) → Contains others m ↔ (Contains meetings m ⊎ (x ≡ m)))
      → ((m : Meeting) → IsInTheWay airport more delay m ↔ (IsInTheWay airport state delay m ⊎ (x ≡ m))) → AreInTheWay airport more delay others
  way-more state more meetings others x way ordered members is_more = record {
    ordered = ordered;
    whole = λ m. (
      λ there. (is_more m).1 (elim ((members m).0 there) [ inl old ↦ inl ((way.whole m).0 old) | inr e ↦ inr e ]),
      λ is. (members m).1 (elim ((is_more m).0 is) [ inl old ↦ inl ((way.whole m).1 old) | inr e ↦ inr e ]),
    );
  }

  -- ---- one more work party

  module _ (fs : List Flight) (ps : List Party) (p : Party) where
    abbrev had : State
    had = record { flights = fs; parties = ps }

    abbrev has_party : State
    has_party = record { flights = fs; parties = ps ++ p ∷ [] }

    party-old : (m : Meeting) → IsInTheWay airport had delay m → IsInTheWay airport has_party delay m
    party-old m (inl q) = inl (q.0, Contains-append_left ps (p ∷ []) q.0 q.1, q.2, q.3)
    party-old m (inr f) = inr f

    pub party-apart : IsFalse (list_any (clash airport.conflicts P) (party_hold p ∷ [])) → (m : Meeting) → IsInTheWay airport has_party delay m ↔ IsInTheWay airport had delay m
    party-apart none m = (from, party-old m) where
      from : IsInTheWay airport has_party delay m → IsInTheWay airport had delay m
      from (inr f) = inr f
      from (inl q) = elim (Contains-push_cases ps p q.0 q.1) [
        | inl old ↦ inl (q.0, old, q.2, q.3)
        | inr e ↦ absurd (both_ways _ none (subst (λ (r : Party). IsTrue (list_any (clash airport.conflicts P) (party_hold r ∷ []))) (sym e) (some-meets airport P (party_hold q.0 ∷ []) m.second q.3)))
      ]

    pub party-meets : (second : ℕ) → IsFirstCommon airport P (party_hold p ∷ []) second
        → (m : Meeting) → IsInTheWay airport has_party delay m ↔ (IsInTheWay airport had delay m ⊎ (record { second = second; name = p.name } ≡ m))
    party-meets second common m = (from, to) where
      from : IsInTheWay airport has_party delay m → IsInTheWay airport had delay m ⊎ (record { second = second; name = p.name } ≡ m)
      from (inr f) = inl (inr f)
      from (inl q) = elim (Contains-push_cases ps p q.0 q.1) [
        | inl old ↦ inl (inl (q.0, old, q.2, q.3))
        | inr e ↦ inr (meeting-same p.name (party_hold p ∷ []) second m common (ap (λ (r : Party). r.name) e ∙ q.2)
            (subst (λ (r : Party). IsFirstCommon airport P (party_hold r ∷ []) m.second) (sym e) q.3))
      ]

      to : IsInTheWay airport had delay m ⊎ (record { second = second; name = p.name } ≡ m) → IsInTheWay airport has_party delay m
      to (inl old) = party-old m old
      to (inr e) = subst (IsInTheWay airport has_party delay) e (inl (p, Contains-push ps p, refl, common))

  -- ---- one more flight

  module _ (fs : List Flight) (ps : List Party) (f : Flight) where
    abbrev flown : State
    flown = record { flights = fs; parties = ps }

    abbrev has_flight : State
    has_flight = record { flights = fs ++ f ∷ []; parties = ps }

    flight-old : (m : Meeting) → IsInTheWay airport flown delay m → IsInTheWay airport has_flight delay m
    flight-old m (inl q) = inl q
    flight-old m (inr g) = inr (g.0, Contains-append_left fs (f ∷ []) g.0 g.1, g.2, g.3, g.4)

    pub flight-apart : IsOtherMeeting airport delay f None → (m : Meeting) → IsInTheWay airport has_flight delay m ↔ IsInTheWay airport flown delay m
    flight-apart apart m = (from, flight-old m) where
      from : IsInTheWay airport has_flight delay m → IsInTheWay airport flown delay m
      from (inl q) = inl q
      from (inr g) = elim (Contains-push_cases fs f g.0 g.1) [
        | inl old ↦ inr (g.0, old, g.2, g.3, g.4)
        | inr e ↦ elim apart [
          | inl late ↦ absurd (both_ways _ (subst (λ (h : Flight). IsFalse (is_late delay h)) (sym e) g.3) late)
          | inr none ↦ absurd (both_ways _ none (subst (λ (h : Flight). IsTrue (flight_meets airport delay h)) (sym e) (some-meets airport P (flight_holds airport g.0) m.second g.4)))
        ]
      ]

    pub flight-meets : (second : ℕ) → IsOtherMeeting airport delay f (Some second)
        → (m : Meeting) → IsInTheWay airport has_flight delay m ↔ (IsInTheWay airport flown delay m ⊎ (record { second = second; name = f.name } ≡ m))
    flight-meets second common m = (from, to) where
      from : IsInTheWay airport has_flight delay m → IsInTheWay airport flown delay m ⊎ (record { second = second; name = f.name } ≡ m)
      from (inl q) = inl (inl q)
      from (inr g) = elim (Contains-push_cases fs f g.0 g.1) [
        | inl old ↦ inl (inr (g.0, old, g.2, g.3, g.4))
        | inr e ↦ inr (meeting-same f.name (flight_holds airport f) second m common.1 (ap (λ (h : Flight). h.name) e ∙ g.2)
            (subst (λ (h : Flight). IsFirstCommon airport P (flight_holds airport h) m.second) (sym e) g.4))
      ]

      to : IsInTheWay airport flown delay m ⊎ (record { second = second; name = f.name } ≡ m) → IsInTheWay airport has_flight delay m
      to (inl old) = flight-old m old
      to (inr e) = subst (IsInTheWay airport has_flight delay) e (inr (f, Contains-push fs f, refl, common.0, common.1))

  -- ---- step by step

  module _ (fs : List Flight) (parties : List Party) (i : ℕ) (p : Party) (low : i < length parties) (here : p ≡ get_or parties i p) (meetings : List Meeting)
      (way : AreInTheWay airport (record { flights = fs; parties = take i parties }) delay meetings) where
    pub next-party_apart : IsFalse (list_any (clash airport.conflicts P) (party_hold p ∷ [])) → AreInTheWay airport (record { flights = fs; parties = take (suc i) parties }) delay meetings
    next-party_apart none = rw (take-more parties i p low here)
        (way-same (record { flights = fs; parties = take i parties }) (record { flights = fs; parties = take i parties ++ p ∷ [] }) meetings way (party-apart fs (take i parties) p none))

    pub next-party_meets : (second : ℕ) (others : List Meeting) → IsFirstCommon airport P (party_hold p ∷ []) second
        → AllPairs (λ a b. IsTrue (meeting_precedes a b)) others → ((m : Meeting) → Contains others m ↔ (Contains meetings m ⊎ (record { second = second; name = p.name } ≡ m)))
        → AreInTheWay airport (record { flights = fs; parties = take (suc i) parties }) delay others
    next-party_meets second others common ordered members = rw (take-more parties i p low here)
        (way-more (record { flights = fs; parties = take i parties }) (record { flights = fs; parties = take i parties ++ p ∷ [] }) meetings others (record { second = second; name = p.name }) way ordered members
        (party-meets fs (take i parties) p second common))

  module _ (flights : List Flight) (ps : List Party) (i : ℕ) (f : Flight) (low : i < length flights) (here : f ≡ get_or flights i f) (meetings : List Meeting)
      (way : AreInTheWay airport (record { flights = take i flights; parties = ps }) delay meetings) where
    pub next-flight_apart : IsOtherMeeting airport delay f None → AreInTheWay airport (record { flights = take (suc i) flights; parties = ps }) delay meetings
    next-flight_apart apart = rw (take-more flights i f low here)
        (way-same (record { flights = take i flights; parties = ps }) (record { flights = take i flights ++ f ∷ []; parties = ps }) meetings way (flight-apart (take i flights) ps f apart))

    pub next-flight_meets : (second : ℕ) (others : List Meeting) → IsOtherMeeting airport delay f (Some second)
        → AllPairs (λ a b. IsTrue (meeting_precedes a b)) others → ((m : Meeting) → Contains others m ↔ (Contains meetings m ⊎ (record { second = second; name = f.name } ≡ m)))
        → AreInTheWay airport (record { flights = take (suc i) flights; parties = ps }) delay others
    next-flight_meets second others common ordered members = rw (take-more flights i f low here)
        (way-more (record { flights = take i flights; parties = ps }) (record { flights = take i flights ++ f ∷ []; parties = ps }) meetings others (record { second = second; name = f.name }) way ordered members
        (flight-meets (take i flights) ps f second common))

  -- ---- each has a name of its own

  -- those in the way so far have other names than the next
  names-differ : (state : State) (meetings : List Meeting) (name : List ℕ) → AreInTheWay airport state delay meetings
      → All (λ (q : Party). IsFalse (bytes_eq q.name name)) state.parties → All (λ (g : Flight). IsFalse (bytes_eq g.name name)) state.flights
      → All (λ other. IsFalse (bytes_eq other.name name)) meetings
  names-differ state meetings name way parties flights =
      All-weaker (Contains meetings) (λ other. IsFalse (bytes_eq other.name name)) (λ other there. differs other ((way.whole other).0 there)) meetings (All-contains_itself meetings)
    where
      differs : (other : Meeting) → IsInTheWay airport state delay other → IsFalse (bytes_eq other.name name)
      differs other (inl q) = subst (λ n. IsFalse (bytes_eq n name)) q.2 (All-contains (λ (r : Party). IsFalse (bytes_eq r.name name)) state.parties q.0 parties q.1)
      differs other (inr g) = subst (λ n. IsFalse (bytes_eq n name)) g.2 (All-contains (λ (h : Flight). IsFalse (bytes_eq h.name name)) state.flights g.0 flights g.1)

  module _ (state : State) (feasible : IsFeasibleState airport state) (i : ℕ) (meetings : List Meeting) where
    pub party-differs : (p : Party) → i < length state.parties → p ≡ get_or state.parties i p
        → AreInTheWay airport (record { flights = []; parties = take i state.parties }) delay meetings → All (λ other. IsFalse (bytes_eq other.name p.name)) meetings
    party-differs p low here way =
        names-differ (record { flights = []; parties = take i state.parties }) meetings p.name way
        (All-weaker (λ (q : Party). IsTrue (name_precedes q.name p.name)) (λ q. IsFalse (bytes_eq q.name p.name)) (λ q before. differ-turned p.name q.name (name_precedes-differ q.name p.name before))
        (take i state.parties) (before-next (λ (q r : Party). IsTrue (name_precedes q.name r.name)) state.parties i p feasible.parties_ordered low here))
        (λ k d none. absurd (omega (arith, none)))

    pub flight-differs : (f : Flight) → i < length state.flights → f ≡ get_or state.flights i f
        → AreInTheWay airport (record { flights = take i state.flights; parties = state.parties }) delay meetings → All (λ other. IsFalse (bytes_eq other.name f.name)) meetings
    flight-differs f low here way =
        names-differ (record { flights = take i state.flights; parties = state.parties }) meetings f.name way
        (All-weaker (λ (q : Party). All (λ (g : Flight). IsFalse (bytes_eq g.name q.name)) state.flights) (λ q. IsFalse (bytes_eq q.name f.name))
        (λ q others. differ-turned f.name q.name (subst (λ (g : Flight). IsFalse (bytes_eq g.name q.name)) (sym here) (others i f low))) state.parties feasible.differ)
        (All-weaker (λ (g : Flight). IsTrue (name_precedes g.name f.name)) (λ g. IsFalse (bytes_eq g.name f.name)) (λ g before. differ-turned f.name g.name (name_precedes-differ g.name f.name before))
        (take i state.flights) (before-next (λ (g h : Flight). IsTrue (name_precedes g.name h.name)) state.flights i f feasible.ordered low here))
