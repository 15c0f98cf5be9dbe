-- Names of holders that are in the way of a late flight, in order, and that all of those are named.
use Rattle.std.proofs.Common.{◌≡◌, ◌↔◌, ◌∙◌, ℕ, zero, suc, ◌+◌, ◌<◌, ◌≤◌, eqb, ◌&&◌, List, [], ◌∷◌, length, map, drop, get_or, Option, Some, None, IsTrue, IsFalse, inl, inr, refl, sym, ap, subst, arith, add-one}
use Rattle.std.specs.Prelude.{All, AllPairs, Contains, nat_lt}
use Rattle.std.proofs.lemmas.Bool.{and_parts, and_from, or_cases, or_left, or_right, ltb-true, lt-ltb, eqb-true, eq-eqb}
use Rattle.std.proofs.lemmas.List.Elements.{All-head, All-tail, All-cons, All-nil, All-weaker, All-contains, All-contains_itself}
use Rattle.std.proofs.lemmas.List.Kept.{AllPairs-cons}
use Rattle.taxi_base.specs.declared.answers.Flight.{Flight}
use Rattle.taxi_base.specs.declared.answers.Party.{Party}
use Rattle.taxi_base.specs.Airport.{Airport}
use Rattle.taxi_base.specs.State.{State, name_precedes, flight_holds, party_hold}
use Rattle.taxi_base.specs.Late.{Delay, Meeting, prolonged_hold, IsInTheWay, meeting_precedes, is_late, party_meets, flight_meets}
use Rattle.taxi_base.proofs.ListLaws.{AllPairs-first, AllPairs-rest}
use Rattle.taxi_base.proofs.NameLaws.{name_precedes-trans}
use Rattle.taxi_base.proofs.LateLaws.{first-common, common-meets}
use Rattle.replies.specs.declared.entries.Entry.{Entry}
use Rattle.certificate_check.proofs.LateWay.{or-none}
use Rattle.certificate_check.specs.declared.late_order.Met.{Met}
use Rattle.certificate_check.specs.Late.{meeting_in, IsInWayFrom, ComesAfter, AreInOrder, AreAllNamed}

-- ---- one after the other

pub meeting_precedes-trans : (a b c : Meeting) → IsTrue (meeting_precedes a b) → IsTrue (meeting_precedes b c) → IsTrue (meeting_precedes a c)
meeting_precedes-trans a b c h k =
    elim (or_cases (nat_lt a.second b.second) (eqb a.second b.second && name_precedes a.name b.name) h) [
      | inl low ↦ elim (or_cases (nat_lt b.second c.second) (eqb b.second c.second && name_precedes b.name c.name) k) [
        | inl high ↦ sooner (omega (arith, ltb-true _ _ low, ltb-true _ _ high))
        | inr same ↦ sooner (omega (arith, ltb-true _ _ low, eqb-true _ _ (and_parts (eqb b.second c.second) (name_precedes b.name c.name) same).0))
      ]
      | inr same ↦ let ab = and_parts (eqb a.second b.second) (name_precedes a.name b.name) same in
          elim (or_cases (nat_lt b.second c.second) (eqb b.second c.second && name_precedes b.name c.name) k) [
            | inl high ↦ sooner (omega (arith, eqb-true _ _ ab.0, ltb-true _ _ high))
            | inr too ↦
                let bc = and_parts (eqb b.second c.second) (name_precedes b.name c.name) too in
                or_right (nat_lt a.second c.second) _
                (and_from (eqb a.second c.second) (name_precedes a.name c.name) (eq-eqb _ _ (eqb-true _ _ ab.0 ∙ eqb-true _ _ bc.0)) (name_precedes-trans a.name b.name c.name ab.1 bc.1))
          ]
    ]
  where
    sooner : a.second < c.second → IsTrue (meeting_precedes a c)
    sooner low = or_left (nat_lt a.second c.second) _ (lt-ltb a.second c.second low)

after-trans : (before : Option Met) (m : Met) → ComesAfter before (meeting_in m) → (x : Meeting) → ComesAfter (Some m) x → ComesAfter before x
after-trans None m h x k = tt
after-trans (Some b) m h x k = meeting_precedes-trans (meeting_in b) (meeting_in m) x h k

module _ (airport : Airport) (state : State) (delay : Delay) where
  abbrev Precede : Meeting → Meeting → Type 0
  Precede a b = IsTrue (meeting_precedes a b)

  -- The holders of names are in the way, each after the one before it.
  abbrev pub Follow : Option Met → List (List ℕ) → Type 0
  Follow before [] = Unit
  Follow before (name ∷ names) =
      (second : ℕ) × IsInTheWay airport state delay (record { second = second; name = name }) × ComesAfter before (record { second = second; name = name })
      × Follow (Some (record { second = second; name = name })) names

  follow-order : (names : List (List ℕ)) (before : Option Met) → Follow before names → (order : AreInOrder airport state delay names) × All (ComesAfter before) order.meetings
  follow-order [] before follow = (record { meetings = []; named = refl; in_way = All-nil _; ordered = λ i j d lt low. absurd (omega arith) }, All-nil _)
  follow-order (name ∷ names) before (second, way, comes, later) =
      let met : Met = record { second = second; name = name } in
      let rest = follow-order names (Some met) later in
      let meetings = rest.0.meetings in (
        record {
          meetings = meeting_in met ∷ meetings;
          named = ap (λ (ns : List (List ℕ)). name ∷ ns) rest.0.named;
          in_way = All-cons (IsInTheWay airport state delay) (meeting_in met) meetings way rest.0.in_way;
          ordered = AllPairs-cons Precede (meeting_in met) meetings rest.1 rest.0.ordered;
        },
        All-cons (ComesAfter before) (meeting_in met) meetings comes (All-weaker (ComesAfter (Some met)) (ComesAfter before) (after-trans before met comes) meetings rest.1),
      )

  order-follow : (meetings : List Meeting) (before : Option Met) → All (IsInTheWay airport state delay) meetings → AllPairs Precede meetings → All (ComesAfter before) meetings
      → Follow before (map (λ m. m.name) meetings)
  order-follow [] before way ordered comes = tt
  order-follow (m ∷ meetings) before way ordered comes = (
    m.second,
    All-head (IsInTheWay airport state delay) m meetings way,
    All-head (ComesAfter before) m meetings comes,
    order-follow meetings (Some (record { second = m.second; name = m.name })) (All-tail (IsInTheWay airport state delay) m meetings way) (AllPairs-rest Precede m meetings ordered)
        (AllPairs-first Precede m meetings ordered),
  )

  pub in-order : (names : List (List ℕ)) → Follow None names ↔ AreInOrder airport state delay names
  in-order names = (
    λ follow. (follow-order names None follow).0,
    λ order. subst (Follow None) order.named (order-follow order.meetings None order.in_way order.ordered (λ k d low. tt)),
  )

  -- the first of them
  pub follow-step : (before : Option Met) (name : List ℕ) (names : List (List ℕ)) (second : ℕ) → IsInWayFrom airport state delay name (Some second)
      → Follow before (name ∷ names) ↔ (ComesAfter before (record { second = second; name = name }) × Follow (Some (record { second = second; name = name })) names)
  follow-step before name names second from = (
    λ follow. (let same : follow.0 ≡ second = from.1 (record { second = follow.0; name = name }) refl follow.1 in (
      subst (λ s. ComesAfter before (record { second = s; name = name })) same follow.2,
      subst (λ s. Follow (Some (record { second = s; name = name })) names) same follow.3,
    )),
    λ both. (second, from.0, both.0, both.1),
  )

  pub follow-none : (before : Option Met) (name : List ℕ) (names : List (List ℕ)) → IsInWayFrom airport state delay name None → Follow before (name ∷ names) → ⊥
  follow-none before name names none follow = none (record { second = follow.0; name = name }) refl follow.1

-- the names of entries from a place on
pub names-next : (entries : List (List ℕ × Entry)) (i : ℕ) → i < length entries → (told : List ℕ × Entry) → told ≡ get_or entries i told
    → map (λ (t : List ℕ × Entry). t.0) (drop i entries) ≡ told.0 ∷ map (λ (t : List ℕ × Entry). t.0) (drop (i + 1) entries)
names-next entries i low told is = rw add-one (go entries i low is) where
  go : (entries : List (List ℕ × Entry)) (i : ℕ) → i < length entries → told ≡ get_or entries i told
      → map (λ (t : List ℕ × Entry). t.0) (drop i entries) ≡ told.0 ∷ map (λ (t : List ℕ × Entry). t.0) (drop (suc i) entries)
  go [] i low is = absurd (omega arith)
  go (e ∷ entries) zero low is = ap (λ (t : List ℕ × Entry). t.0 ∷ map (λ (t : List ℕ × Entry). t.0) entries) (sym is)
  go (e ∷ entries) (suc i) low is = go entries i (omega arith) is

pub names-past : (entries : List (List ℕ × Entry)) (i : ℕ) → length entries ≤ i → map (λ (t : List ℕ × Entry). t.0) (drop i entries) ≡ []
names-past [] zero past = refl
names-past [] (suc i) past = refl
names-past (e ∷ entries) zero past = absurd (omega (arith, past))
names-past (e ∷ entries) (suc i) past = names-past entries i (omega arith)

-- ---- all are named

module _ (airport : Airport) (delay : Delay) (names : List (List ℕ)) where
  abbrev pub IsPartyNamed : Party → Type 0
  IsPartyNamed p = IsTrue (party_meets airport delay p) → Contains names p.name

  abbrev pub IsFlightNamed : Flight → Type 0
  IsFlightNamed f = IsFalse (is_late delay f) → IsTrue (flight_meets airport delay f) → Contains names f.name

  pub all-named : (state : State) → (All IsPartyNamed state.parties × All IsFlightNamed state.flights) ↔ AreAllNamed airport state delay names
  all-named state = (there, back) where
    there : All IsPartyNamed state.parties × All IsFlightNamed state.flights → AreAllNamed airport state delay names
    there both m (inl p) =
        let meets : IsTrue (party_meets airport delay p.0) =
        sym (or-none (party_meets airport delay p.0)) ∙ common-meets airport (prolonged_hold airport delay) (party_hold p.0 ∷ []) m.second p.3 in
        subst (Contains names) p.2 (All-contains IsPartyNamed state.parties p.0 both.0 p.1 meets)
    there both m (inr f) =
        subst (Contains names) f.2 (All-contains IsFlightNamed state.flights f.0 both.1 f.1 f.3 (common-meets airport (prolonged_hold airport delay) (flight_holds airport f.0) m.second f.4))

    back : AreAllNamed airport state delay names → All IsPartyNamed state.parties × All IsFlightNamed state.flights
    back all = (
      All-weaker (Contains state.parties) IsPartyNamed
          (λ p p_there meets.
          let common = first-common airport (prolonged_hold airport delay) (party_hold p ∷ []) (or_left _ _ meets) in
          all (record { second = common.0; name = p.name }) (inl (p, p_there, refl, common.1)))
          state.parties (All-contains_itself state.parties),
      All-weaker (Contains state.flights) IsFlightNamed
          (λ f f_there other meets.
          let common = first-common airport (prolonged_hold airport delay) (flight_holds airport f) meets in
          all (record { second = common.0; name = f.name }) (inr (f, f_there, refl, other, common.1)))
          state.flights (All-contains_itself state.flights),
    )
