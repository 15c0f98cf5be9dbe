-- How those in the way of a late flight give way one after the other, and what holds of the state then.
use Rattle.std.proofs.Common.{◌≡◌, ◌≢◌, ◌∙◌, ℕ, zero, suc, ◌+◌, ◌<◌, Bool, false, not, ◌||◌, cond, List, [], ◌∷◌, ◌++◌, length, take, drop, get_or, append_assoc, append-nil, add-one, Option, Some, None, IsTrue, IsFalse, inl, inr, refl, sym, ap, subst, arith}
use Rattle.std.specs.Prelude.{All, AllPairs, Contains, bytes_eq, filter, flat_map}
use Rattle.std.specs.Cmp.Lexicographic.{bytes_decides}
use Rattle.std.proofs.lemmas.Bool.{cases_Bool, both_ways, false_from_ne_true}
use Rattle.std.proofs.lemmas.List.{at_drop_more, take_more}
use Rattle.std.proofs.lemmas.List.Elements.{All-nil, All-cons, All-head, All-tail, All-filter, All-weaker, All-contains, All-contains_itself, filter-append}
use Rattle.std.proofs.lemmas.Grind.{flat_map-append}
use Rattle.taxi_base.specs.declared.rows.Step.{Step}
use Rattle.taxi_base.specs.declared.answers.Flight.{Flight}
use Rattle.taxi_base.specs.declared.answers.Party.{Party}
use Rattle.taxi_base.specs.Airport.{Airport, layout_of, arc_exists}
use Rattle.taxi_base.specs.State.{State, name_precedes, named, put_in, left_out, party_named, parties_without, flights_without, party_hold, with_flight, without, IsFeasibleHold, IsSound}
use Rattle.taxi_base.specs.Late.{Delay, is_late, flight_meets, party_meets, steps_kept, on_steps, flight_at_once, base_state}
use Rattle.taxi_base.proofs.ListLaws.{AllPairs-first, AllPairs-rest, flat_map-Contains, filter-Contains}
use Rattle.taxi_base.proofs.NameLaws.{name_precedes-one_way, name_precedes-not_itself}
use Rattle.taxi_base.proofs.NamedLists.{absent-find, absent-without}
use Rattle.taxi_base.proofs.OtherHolds.{there-named}
use Rattle.taxi_base.proofs.BaseLaws.{at_once-cases}
use Rattle.checked_state.specs.declared.flights.HeldFlights.{HeldFlights}
use Rattle.checked_state.specs.Flights.{state_of}
use Rattle.checked_state.proofs.PlaceLaws.{left-none}
use Rattle.check_rows.specs.declared.known.KnownWindows.{KnownWindows}
use Rattle.certificate_check.specs.Desk.{IsReady, IsTidy}
use Rattle.certificate_check.specs.Late.{IsOnSteps, with_flights, AreAlone}
use Rattle.certificate_check.proofs.DeskLaws.{flight-alone}
use Rattle.certificate_check.proofs.LateSteps.{on-steps}

-- ---- lists in order

module _ {X : Type 0} (R : X → X → Type 0) (x : X) where
  -- those before a place are related to what stands there
  before-place : (xs : List X) (i : ℕ) → AllPairs R xs → i < length xs → x ≡ get_or xs i x → All (λ y. R y x) (take i xs)
  before-place [] i pairs low is = absurd (omega arith)
  before-place (y ∷ ys) zero pairs low is = All-nil (λ y. R y x)
  before-place (y ∷ ys) (suc i) pairs low is =
      All-cons (λ y. R y x) y (take i ys) (subst (R y) (sym is) (AllPairs-first R y ys pairs i x (omega arith)))
      (before-place ys i (AllPairs-rest R y ys pairs) (omega arith) is)

  -- and what stands there to those behind it
  pub behind-place : (xs : List X) (i : ℕ) → AllPairs R xs → i < length xs → x ≡ get_or xs i x → All (R x) (drop (i + 1) xs)
  behind-place xs i pairs low is = rw add-one (go xs i pairs low is) where
    go : (xs : List X) (i : ℕ) → AllPairs R xs → i < length xs → x ≡ get_or xs i x → All (R x) (drop (suc i) xs)
    go [] i pairs low is = absurd (omega arith)
    go (y ∷ ys) zero pairs low is = subst (λ (z : X). All (R z) ys) (sym is) (AllPairs-first R y ys pairs)
    go (y ∷ ys) (suc i) pairs low is = go ys i (AllPairs-rest R y ys pairs) (omega arith) is

-- one more is taken, and one less is left
take-next : {X : Type 0} (xs : List X) (i : ℕ) (x : X) → i < length xs → x ≡ get_or xs i x → take (i + 1) xs ≡ take i xs ++ x ∷ []
take-next {X} xs i x low is = take_more xs i x low ∙ ap (λ (y : X). take i xs ++ y ∷ []) (sym is)

left-next : {X : Type 0} (done xs : List X) (i : ℕ) (x : X) → i < length xs → x ≡ get_or xs i x → done ++ drop i xs ≡ done ++ x ∷ drop (i + 1) xs
left-next {X} done xs i x low is = at_drop_more (λ (rest : List X). done ++ rest) xs i x low ∙ ap (λ (y : X). done ++ y ∷ drop (i + 1) xs) (sym is)

module _ {X : Type 0} (name_of : X → List ℕ) (x : X) where
  abbrev pub AreBefore : List X → Type 0
  AreBefore ys = All (λ y. IsTrue (name_precedes (name_of y) (name_of x))) ys

  abbrev pub AreBehind : List X → Type 0
  AreBehind ys = All (λ y. IsTrue (name_precedes (name_of x) (name_of y))) ys

  before-others : (ys : List X) → AreBefore ys → All (λ y. name_of y ≢ name_of x) ys
  before-others ys before k d low e = both_ways _ (name_precedes-not_itself (name_of x)) (subst (λ n. IsTrue (name_precedes n (name_of x))) e (before k d low))

  behind-others : (ys : List X) → AreBehind ys → All (λ y. name_of y ≢ name_of x) ys
  behind-others ys behind k d low e = both_ways _ (name_precedes-not_itself (name_of x)) (subst (λ n. IsTrue (name_precedes (name_of x) n)) e (behind k d low))

  -- it is found by its name behind those
  pub named-between : (ys zs : List X) → AreBefore ys → named name_of (name_of x) (ys ++ x ∷ zs) ≡ Some x
  named-between [] zs before = rw ((bytes_decides (name_of x) (name_of x)).1 refl) refl
  named-between (y ∷ ys) zs before =
      let other : bytes_eq (name_of y) (name_of x) ≡ false =
      false_from_ne_true _ (λ e. before-others (y ∷ ys) before 0 y (omega arith) ((bytes_decides (name_of y) (name_of x)).0 e)) in
      rw other (named-between ys zs (All-tail (λ y. IsTrue (name_precedes (name_of y) (name_of x))) y ys before))

  module _ (ys zs : List X) (before : AreBefore ys) (behind : AreBehind zs) where
    -- between those it is left out, and those stay
    pub left_out-between : left_out name_of (name_of x) (ys ++ x ∷ zs) ≡ ys ++ zs
    left_out-between =
        filter-append (λ (y : X). not (bytes_eq (name_of y) (name_of x))) ys (x ∷ zs)
        ∙ (λ i. absent-without name_of (name_of x) ys (before-others ys before) i ++ itself i)
      where
        itself : left_out name_of (name_of x) (x ∷ zs) ≡ zs
        itself = rw ((bytes_decides (name_of x) (name_of x)).1 refl) (absent-without name_of (name_of x) zs (behind-others zs behind))

  -- and goes in there
  pub put_in-between : (ys zs : List X) → AreBefore ys → AreBehind zs → put_in name_of x (ys ++ zs) ≡ ys ++ x ∷ zs
  put_in-between [] [] before behind = refl
  put_in-between [] (z ∷ zs) before behind = rw (All-head (λ y. IsTrue (name_precedes (name_of x) (name_of y))) z zs behind) refl
  put_in-between (y ∷ ys) zs before behind =
      rw (name_precedes-one_way (name_of y) (name_of x) (All-head (λ y. IsTrue (name_precedes (name_of y) (name_of x))) y ys before))
      (ap (λ (all : List X). y ∷ all) (put_in-between ys zs (All-tail (λ y. IsTrue (name_precedes (name_of y) (name_of x))) y ys before) behind))

-- ---- parties

module _ (meets : Party → Bool) (parties : List Party) (ordered : AllPairs (λ p q. IsTrue (name_precedes p.name q.name)) parties) (i : ℕ) (p : Party) (low : i < length parties)
    (is : p ≡ get_or parties i p) where
  abbrev shut_of : ℕ → List Party
  shut_of n = filter (λ (q : Party). not (meets q)) (take n parties)

  shut-before : AreBefore (λ (q : Party). q.name) p (shut_of i)
  shut-before =
      All-filter (λ (q : Party). not (meets q)) (λ (q : Party). IsTrue (name_precedes q.name p.name)) (take i parties)
      (before-place (λ (p q : Party). IsTrue (name_precedes p.name q.name)) p parties i ordered low is)

  shut-behind : AreBehind (λ (q : Party). q.name) p (drop (i + 1) parties)
  shut-behind = behind-place (λ (p q : Party). IsTrue (name_precedes p.name q.name)) p parties i ordered low is

  shut-more : shut_of (i + 1) ≡ shut_of i ++ filter (λ (q : Party). not (meets q)) (p ∷ [])
  shut-more = ap (filter (λ (q : Party). not (meets q))) (take-next parties i p low is) ∙ filter-append (λ (q : Party). not (meets q)) (take i parties) (p ∷ [])

  pub open-there : party_named p.name (shut_of i ++ drop i parties) ≡ Some p
  open-there =
      ap (party_named p.name) (left-next (shut_of i) parties i p low is) ∙ named-between (λ (q : Party). q.name) p (shut_of i) (drop (i + 1) parties) shut-before

  gone : IsTrue (meets p) → parties_without p.name (shut_of i ++ drop i parties) ≡ shut_of (i + 1) ++ drop (i + 1) parties
  gone in_way =
      ap (parties_without p.name) (left-next (shut_of i) parties i p low is) ∙ left_out-between (λ (q : Party). q.name) p (shut_of i) (drop (i + 1) parties) shut-before shut-behind
      ∙ ap (λ (ps : List Party). ps ++ drop (i + 1) parties) (sym (shut-more ∙ (rw in_way (append-nil (shut_of i)))))

  stays : IsFalse (meets p) → shut_of i ++ drop i parties ≡ shut_of (i + 1) ++ drop (i + 1) parties
  stays away =
      left-next (shut_of i) parties i p low is ∙ sym (append_assoc (shut_of i) (p ∷ []) (drop (i + 1) parties))
      ∙ ap (λ (ps : List Party). ps ++ drop (i + 1) parties) (sym (shut-more ∙ (rw away refl)))

  pub open-next : (flights : List Flight) (s : State) → s ≡ record { flights = flights; parties = shut_of i ++ drop i parties }
      → (new : State) → new ≡ cond (meets p) (record s { parties = parties_without p.name s.parties }) s
      → new ≡ record { flights = flights; parties = shut_of (i + 1) ++ drop (i + 1) parties }
  open-next flights s so_far new is_new =
      is_new ∙ ap (λ (t : State). cond (meets p) (record t { parties = parties_without p.name t.parties }) t) so_far
      ∙ elim (cases_Bool (meets p)) [
        | inl in_way ↦ rw in_way (ap (λ (ps : List Party). record { flights = flights; parties = ps }) (gone in_way))
        | inr away ↦ rw away (ap (λ (ps : List Party). record { flights = flights; parties = ps }) (stays away))
      ]

-- ---- flights

module _ (airport : Airport) (delay : Delay) where
  at_once-name : (x y : Flight) → Contains (flight_at_once airport delay x) y → y.name ≡ x.name
  at_once-name x y there = ap (λ (z : Flight). z.name) (at_once-cases airport delay x y there).same

  module _ (flights : List Flight) (ordered : AllPairs (λ f g. IsTrue (name_precedes f.name g.name)) flights) (i : ℕ) (x : Flight) (low : i < length flights) (is : x ≡ get_or flights i x) where
    abbrev at_once : ℕ → List Flight
    at_once n = flat_map (flight_at_once airport delay) (take n flights)

    abbrev later : List Flight
    later = drop (i + 1) flights

    cut-before : AreBefore (λ (f : Flight). f.name) x (at_once i)
    cut-before =
        All-weaker (Contains (at_once i)) (λ (y : Flight). IsTrue (name_precedes y.name x.name))
        (λ y there.
        let found = flat_map-Contains (flight_at_once airport delay) (take i flights) y there in
        subst (λ n. IsTrue (name_precedes n x.name)) (sym (at_once-name found.0 y found.2))
        (All-contains (λ (z : Flight). IsTrue (name_precedes z.name x.name)) (take i flights) found.0
        (before-place (λ (f g : Flight). IsTrue (name_precedes f.name g.name)) x flights i ordered low is) found.1))
        (at_once i) (All-contains_itself (at_once i))

    cut-behind : AreBehind (λ (f : Flight). f.name) x later
    cut-behind = behind-place (λ (f g : Flight). IsTrue (name_precedes f.name g.name)) x flights i ordered low is

    at_once-more : at_once (i + 1) ≡ at_once i ++ flight_at_once airport delay x
    at_once-more =
        ap (flat_map (flight_at_once airport delay)) (take-next flights i x low is) ∙ flat_map-append (flight_at_once airport delay) (take i flights) (x ∷ [])
        ∙ ap (λ (fs : List Flight). at_once i ++ fs) (append-nil (flight_at_once airport delay x))

    all-next : at_once i ++ (flight_at_once airport delay x ++ later) ≡ at_once (i + 1) ++ later
    all-next = sym (append_assoc (at_once i) (flight_at_once airport delay x) later) ∙ ap (λ (fs : List Flight). fs ++ later) (sym at_once-more)

    module _ (parties : List Party) (alone : party_named x.name parties ≡ None) where
      abbrev state_with : List Flight → State
      state_with fs = record { flights = fs; parties = parties }

      -- those that it is at once go in where it was
      went-in : (steps : List Step) → with_flights (on_steps x steps) (state_with (at_once i ++ later)) ≡ state_with (at_once i ++ (on_steps x steps ++ later))
      went-in [] = refl
      went-in (s ∷ steps) = ap state_with (put_in-between (λ (f : Flight). f.name) (record x { steps = s ∷ steps }) (at_once i) later cut-before cut-behind)

      went-out : without x.name (state_with (at_once i ++ drop i flights)) ≡ state_with (at_once i ++ later)
      went-out =
          let fs = ap (flights_without x.name) (left-next (at_once i) flights i x low is) ∙ left_out-between (λ (f : Flight). f.name) x (at_once i) later cut-before cut-behind in
          let ps = left-none (λ (p : Party). p.name) x.name parties alone in
          λ j. record { flights = fs j; parties = ps j }

      moved : flight_at_once airport delay x ≡ on_steps x (steps_kept airport delay x)
          → with_flights (on_steps x (steps_kept airport delay x)) (without x.name (state_with (at_once i ++ drop i flights))) ≡ state_with (at_once (i + 1) ++ later)
      moved once =
          ap (with_flights (on_steps x (steps_kept airport delay x))) went-out ∙ went-in (steps_kept airport delay x)
          ∙ ap state_with (ap (λ (fs : List Flight). at_once i ++ (fs ++ later)) (sym once) ∙ all-next)

      stayed : flight_at_once airport delay x ≡ x ∷ [] → state_with (at_once i ++ drop i flights) ≡ state_with (at_once (i + 1) ++ later)
      stayed once = ap state_with (left-next (at_once i) flights i x low is ∙ ap (λ (fs : List Flight). at_once i ++ (fs ++ later)) (sym once) ∙ all-next)

      pub cut-next : (s : State) → s ≡ state_with (at_once i ++ drop i flights)
          → (new : State) → new ≡ cond (is_late delay x || flight_meets airport delay x) (with_flights (on_steps x (steps_kept airport delay x)) (without x.name s)) s
          → new ≡ state_with (at_once (i + 1) ++ later)
      cut-next s so_far new is_new =
          is_new ∙ ap (λ (t : State). cond (is_late delay x || flight_meets airport delay x) (with_flights (on_steps x (steps_kept airport delay x)) (without x.name t)) t) so_far
          ∙ elim (cases_Bool (is_late delay x || flight_meets airport delay x)) [
            | inl moves ↦ let once : flight_at_once airport delay x ≡ on_steps x (steps_kept airport delay x) = rw moves refl in rw moves (moved once)
            | inr stays ↦ let once : flight_at_once airport delay x ≡ x ∷ [] = rw stays refl in rw stays (stayed once)
          ]

-- a flight that keeps no step is out, and another is on those that it keeps
module _ (x : Flight) (steps kept : List Step) (is : steps ≡ kept) (left was : State) (out : left ≡ was) where
  pub cut-out : length steps ≡ 0 → left ≡ with_flights (on_steps x kept) was
  cut-out none = go steps none is where
    go : (steps : List Step) → length steps ≡ 0 → steps ≡ kept → left ≡ with_flights (on_steps x kept) was
    go [] none is = out ∙ ap (λ (ss : List Step). with_flights (on_steps x ss) was) is
    go (s ∷ steps) none is = absurd (omega (arith, none))

  pub cut-on : 0 < length steps → (new : State) → new ≡ with_flight (record x { steps = steps }) left → new ≡ with_flights (on_steps x kept) was
  cut-on some new put = go steps some is put where
    go : (steps : List Step) → 0 < length steps → steps ≡ kept → new ≡ with_flight (record x { steps = steps }) left → new ≡ with_flights (on_steps x kept) was
    go [] some is put = absurd (omega (arith, some))
    go (s ∷ steps) some is put = put ∙ ap (with_flight (record x { steps = s ∷ steps })) out ∙ ap (λ (ss : List Step). with_flights (on_steps x ss) was) is

-- ---- what holds of a sound state, and of the base state

module _ (airport : Airport) (state : State) (sound : IsSound airport state) where
  -- its flights are on steps that their classes can make
  pub all-on_steps : All (IsOnSteps airport) state.flights
  all-on_steps =
      All-weaker (Contains state.flights) (IsOnSteps airport)
      (λ x there.
      let found = there-named (λ (f : Flight). f.name) state.flights x sound.feasible.ordered there in
      on-steps airport state sound x.name x found)
      state.flights (All-contains_itself state.flights)

  pub all-on_segments : All (λ p. p.segment.0 < length airport.segments) state.parties
  all-on_segments =
      All-weaker (λ p. IsFeasibleHold airport (without p.name state) (party_hold p)) (λ p. p.segment.0 < length airport.segments) (λ p h. h.on_segment) state.parties sound.feasible.shut

  module _ (delay : Delay) where
    abbrev base : State
    base = base_state airport state delay

    pub base-alone : AreAlone state base.parties
    base-alone =
        All-weaker (Contains state.flights) (λ f. party_named f.name base.parties ≡ None)
        (λ f there.
        let found = there-named (λ (g : Flight). g.name) state.flights f sound.feasible.ordered there in
        absent-find (λ (p : Party). p.name) f.name base.parties
        (All-weaker (Contains base.parties) (λ p. p.name ≡ f.name → ⊥)
        (λ p p_there e.
        let here = (filter-Contains (λ (q : Party). not (party_meets airport delay q)) state.parties p p_there).0 in
        let named_p = there-named (λ (q : Party). q.name) state.parties p sound.feasible.parties_ordered here in
        none-is (flight-alone airport state sound f.name f found) (subst (λ n. party_named n state.parties ≡ Some p) e named_p))
        base.parties (All-contains_itself base.parties)))
        state.flights (All-contains_itself state.flights)
      where
        none-is : {o : Option Party} {p : Party} → o ≡ None → o ≡ Some p → ⊥
        none-is a b = cc (sym a ∙ b)

-- ---- parts that are in order, with a state that is sound

module _ (airport : Airport) (held : HeldFlights) (known : KnownWindows) where
  pub ready-tidy : IsReady airport held known → IsTidy airport held known
  ready-tidy ready = record {
    has_spans = ready.has_spans;
    on_arcs = All-weaker (IsOnSteps airport) (λ f. All (λ step. IsTrue (arc_exists (layout_of airport) step.arc)) f.steps) (λ f on. on.arcs) (state_of held).flights
        (all-on_steps airport (state_of held) ready.is_sound);
    can_go_on = ready.can_go_on;
    are_known = ready.are_known;
  }

  pub tidy-ready : IsTidy airport held known → IsSound airport (state_of held) → IsReady airport held known
  tidy-ready tidy sound = record { is_sound = sound; has_spans = tidy.has_spans; can_go_on = tidy.can_go_on; are_known = tidy.are_known }
