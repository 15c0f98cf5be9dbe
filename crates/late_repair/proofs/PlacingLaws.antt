-- What is in force at once: those that were taken out are put in force on the steps that they keep, one after the other.
use Rattle.std.proofs.Common.{◌≡◌, ◌∙◌, ℕ, zero, suc, not, ◌||◌, ◌<◌, ◌≤◌, List, [], ◌∷◌, length, map, drop, get_or, drop-cons, false, IsTrue, IsFalse, None, refl, sym, ap, subst, arith, inl, inr, ◌⊎◌}
use Rattle.std.specs.Prelude.{All, AllPairs, Contains, bytes_eq}
use Rattle.std.proofs.lemmas.Bool.{cases_Bool, or_cases, or_left, false_from_ne_true, not_from_false, not-true, both_ways}
use Rattle.std.proofs.lemmas.List.{drop_all}
use Rattle.std.proofs.lemmas.List.Elements.{All-contains, All-head, All-tail, All-weaker, Contains-get_or}
use Rattle.std.proofs.lemmas.List.Kept.{AllPairs-filter}
use Rattle.std.specs.Cmp.Lexicographic.{bytes_decides}
use Rattle.taxi_base.specs.declared.rows.Step.{Step}
use Rattle.taxi_base.specs.declared.answers.Flight as flights
use Rattle.taxi_base.specs.declared.answers.Party as parties
use Rattle.taxi_base.specs.Airport.{Airport}
use Rattle.taxi_base.specs.Windows.{Hold, clash}
use Rattle.taxi_base.specs.Walks.{IsFeasibleWalk}
use Rattle.taxi_base.specs.State.{State, name_precedes, flights_without, parties_without, has_holder, holder_count, with_flight, flight_holds, party_hold, conditions_of, IsFeasibleState}
use Rattle.taxi_base.specs.Late.{Delay, Meeting, IsDelay, AreInTheWay, prolonged_hold, is_late, steps_kept, party_meets, flight_meets, on_steps, flight_at_once, base_state}
use Rattle.taxi_base.proofs.ListLaws.{Contains-first, Contains-rest, Contains-cons_cases, Contains-map, map-Contains, Contains-flat_map, Contains-filter, filter-Contains, AllPairs-first, AllPairs-rest, ordered_same}
use Rattle.taxi_base.proofs.NameLaws.{differ-turned, name_precedes-one_way, left_out-fewer, put_in-cases}
use Rattle.taxi_base.proofs.OtherHolds.{named-once}
use Rattle.taxi_base.proofs.StateLaws.{no_holder-flights, no_holder-parties}
use Rattle.taxi_base.proofs.BaseLaws.{IsAtOnce, on_steps-there, from-before, base-feasible}
use Rattle.taxi_base.proofs.TurnLaws.{fewer-named, put_in-there}
use Rattle.taxi_base.proofs.LateLaws.{first-common, moves-named, meets-named}
use Rattle.replies.specs.Repairs.{names_in_turn}
use Rattle.commitments.specs.Book.{Book, Fits}
use Rattle.late_repair.specs.declared.holder.Holder.{Holder}
use Rattle.late_repair.specs.declared.holder.Holder.TheVariants.{Flight, Party}
use Rattle.late_repair.specs.Repairing.{with_kept, placed_at_once, CanBePlaced}
use Rattle.late_repair.specs.TakenOut.{name_of, with_holders, taken_back, AreOthers, AreOut, IsIn, ChangesOnly, ChangesTheirs}
use Rattle.late_repair.proofs.HolderLaws.{nothing-out, absent-with, in-stays, all-stays, all-there, all-cases}
use Rattle.late_repair.proofs.OthersLaws.{feasible-among}
use Rattle.late_repair.proofs.ChangeLaws.{theirs-none, theirs-one, theirs-both}

-- those from a place on are pairwise as all are
AllPairs-drop : {X : Type 0} (R : X → X → Type 0) (i : ℕ) (xs : List X) → AllPairs R xs → AllPairs R (drop i xs)
AllPairs-drop R zero xs pairs = pairs
AllPairs-drop R (suc i) [] pairs = pairs
AllPairs-drop R (suc i) (x ∷ xs) pairs = AllPairs-drop R i xs (AllPairs-rest R x xs pairs)

-- The first of the holders are placed, and the names of the others are out: what is in force is part of the base state, and whatever
-- is not yet has one of those names.
pub record IsPlacing (airport : Airport) (state : State) (delay : Delay) (holders : List Holder) (first : Book) (i : ℕ) (book : Book) : Type 0 where
  pub among : (h : Holder) → IsIn book.state h → IsIn (base_state airport state delay) h
  pub out : AreOut book.state (drop i holders)
  pub all : (h : Holder) → IsIn (base_state airport state delay) h → Contains (map name_of (drop i holders)) (name_of h) ⊎ IsIn book.state h
  pub theirs : ChangesTheirs holders first book
  pub unlifted : book.lifted ≡ None
  pub fits : Fits airport book

module _ (airport : Airport) (state : State) (delay : Delay) (feasible : IsFeasibleState airport state) (is : IsDelay airport state delay)
    (meetings : List Meeting) (way : AreInTheWay airport state delay meetings) where
  abbrev base : State
  base = base_state airport state delay

  abbrev hold : Hold
  hold = prolonged_hold airport delay

  abbrev in_turn : List (List ℕ)
  in_turn = names_in_turn delay meetings

  whole : IsFeasibleState airport base
  whole = base-feasible airport state delay feasible is

  -- ---- whose turns there are

  -- a flight that is late or in the way has a turn
  flight-named : (x : flights.Flight) → Contains state.flights x → IsTrue (is_late delay x || flight_meets airport delay x) → Contains in_turn x.name
  flight-named x there moves = elim (cases_Bool (is_late delay x)) [
    | inl late ↦ subst (Contains in_turn) (sym ((bytes_decides x.name delay.flight.name).0 late)) (Contains-first delay.flight.name (map (λ (m : Meeting). m.name) meetings))
    | inr other ↦
        let meets : IsTrue (flight_meets airport delay x) = elim (or_cases _ _ moves) [
          | inl late ↦ absurd (both_ways _ other late)
          | inr meets ↦ meets
        ] in
        let common = first-common airport hold (flight_holds airport x) meets in
        later (record { second = common.0; name = x.name }) ((way.whole (record { second = common.0; name = x.name })).1 (inr (x, there, refl, other, common.1)))
  ] where
    later : (m : Meeting) → Contains meetings m → Contains in_turn m.name
    later m h = Contains-rest delay.flight.name m.name (map (λ (m : Meeting). m.name) meetings) (Contains-map (λ (m : Meeting). m.name) meetings m h)

  -- and so has a party in the way
  party-named : (p : parties.Party) → Contains state.parties p → IsTrue (party_meets airport delay p) → Contains in_turn p.name
  party-named p there meets =
      let common = first-common airport hold (party_hold p ∷ []) (or_left (clash airport.conflicts hold (party_hold p)) false meets) in
      let m : Meeting = record { second = common.0; name = p.name } in
      Contains-rest delay.flight.name p.name (map (λ (m : Meeting). m.name) meetings)
      (Contains-map (λ (m : Meeting). m.name) meetings m ((way.whole m).1 (inl (p, there, refl, common.1))))

  kinds-differ : (p : parties.Party) (f : flights.Flight) → Contains state.parties p → Contains state.flights f → p.name ≡ f.name → ⊥
  kinds-differ p f p_there f_there e =
      both_ways _
      (All-contains (λ (g : flights.Flight). IsFalse (bytes_eq g.name p.name)) state.flights f
      (All-contains (λ (q : parties.Party). All (λ (g : flights.Flight). IsFalse (bytes_eq g.name q.name)) state.flights) state.parties p feasible.differ p_there) f_there)
      ((bytes_decides f.name p.name).1 (sym e))

  module _ (holders : List Holder) (first : Book) (back : taken_back holders first.state ≡ state) (out : AreOut first.state holders) (others : AreOthers holders) (turns : map name_of holders ≡ in_turn) where
    -- the state is that of the others with the holders
    joined : with_holders holders first.state ≡ state
    joined = ap (with_holders holders) (sym (nothing-out holders first.state out)) ∙ back

    in-state : (h : Holder) → IsIn first.state h → IsIn state h
    in-state h there = subst (λ s. IsIn s h) joined (all-stays holders h first.state there)

    pub holder-there : (h : Holder) → Contains holders h → IsIn state h
    holder-there h there = subst (λ s. IsIn s h) joined (all-there holders h first.state there)

    either : (h : Holder) → IsIn state h → Contains in_turn (name_of h) ⊎ IsIn first.state h
    either h there = elim (all-cases holders h first.state (subst (λ s. IsIn s h) (sym joined) there)) [
      | inl named ↦ inl (subst (λ ns. Contains ns (name_of h)) turns named)
      | inr stays ↦ inr stays
    ]

    -- none of the others has a turn
    no-turn : (h : Holder) → IsIn first.state h → Contains in_turn (name_of h) → ⊥
    no-turn h there named = differs h there none where
      none : IsFalse (has_holder (name_of h) first.state)
      none =
          let found = map-Contains name_of holders (name_of h) (subst (λ ns. Contains ns (name_of h)) (sym turns) named) in
          subst (λ n. IsFalse (has_holder n first.state)) found.2 (All-contains (λ holder. IsFalse (has_holder (name_of holder) first.state)) holders found.0 out found.1)

      differs : (h : Holder) → IsIn first.state h → IsFalse (has_holder (name_of h) first.state) → ⊥
      differs (Flight g) there none =
          both_ways _ (All-contains (λ (f : flights.Flight). IsFalse (bytes_eq f.name g.name)) first.state.flights g (no_holder-flights g.name first.state none) there) ((bytes_decides g.name g.name).1 refl)
      differs (Party q) there none =
          both_ways _ (All-contains (λ (p : parties.Party). IsFalse (bytes_eq p.name q.name)) first.state.parties q (no_holder-parties q.name first.state none) there) ((bytes_decides q.name q.name).1 refl)

    -- ---- one after the other

    pub placing-first : first.lifted ≡ None → Fits airport first → IsPlacing airport state delay holders first 0 first
    placing-first unlifted fits = record {
      among = among;
      out = out;
      all = all;
      theirs = theirs-none holders first;
      unlifted = unlifted;
      fits = fits;
    } where
      among : (h : Holder) → IsIn first.state h → IsIn base h
      among (Flight g) there =
          let before = in-state (Flight g) there in
          let stays : IsFalse (is_late delay g || flight_meets airport delay g) =
          false_from_ne_true _ (λ moves. no-turn (Flight g) there (flight-named g before moves)) in
          Contains-flat_map (flight_at_once airport delay) state.flights g g before (rw stays (Contains-first g []))
      among (Party q) there =
          let before = in-state (Party q) there in
          let stays : IsFalse (party_meets airport delay q) = false_from_ne_true _ (λ meets. no-turn (Party q) there (party-named q before meets)) in
          Contains-filter (λ (p : parties.Party). not (party_meets airport delay p)) state.parties q before (not_from_false _ stays)

      all : (h : Holder) → IsIn base h → Contains (map name_of holders) (name_of h) ⊎ IsIn first.state h
      all (Flight g) there =
          let before = from-before airport state delay feasible is g there in
          let same : g.name ≡ before.0.name = ap (λ (z : flights.Flight). z.name) before.2.same in
          elim before.2.either [
            | inl stays ↦ elim (either (Flight before.0) before.1) [
              | inl named ↦ inl (subst (λ ns. Contains ns g.name) (sym turns) (subst (Contains in_turn) (sym same) named))
              | inr old ↦ inr (subst (Contains first.state.flights) (sym stays.2) old)
            ]
            | inr moves ↦ inl (subst (λ ns. Contains ns g.name) (sym turns) (subst (Contains in_turn) (sym same) (flight-named before.0 before.1 moves.0)))
          ]
      all (Party q) there =
          let before = filter-Contains (λ (p : parties.Party). not (party_meets airport delay p)) state.parties q there in
          elim (either (Party q) before.0) [
            | inl named ↦ inl (subst (λ ns. Contains ns q.name) (sym turns) named)
            | inr old ↦ inr old
          ]

    module _ (i : ℕ) (book : Book) (placing : IsPlacing airport state delay holders first i book) (h : Holder) (low : i < length holders) (here : h ≡ get_or holders i h) where
      h-there : Contains holders h
      h-there = subst (Contains holders) (sym here) (Contains-get_or holders i h low)

      turn-there : Contains in_turn (name_of h)
      turn-there = subst (λ ns. Contains ns (name_of h)) turns (Contains-map name_of holders h h-there)

      later : drop i holders ≡ h ∷ drop (suc i) holders
      later = drop-cons holders i h low ∙ ap (λ x. x ∷ drop (suc i) holders) (sym here)

      waiting : AreOut book.state (h ∷ drop (suc i) holders)
      waiting = subst (AreOut book.state) later placing.out

      pub next-out : IsFalse (has_holder (name_of h) book.state)
      next-out = All-head (λ holder. IsFalse (has_holder (name_of holder) book.state)) h (drop (suc i) holders) waiting

      -- there is room for one more holder
      pub next-few : holder_count book.state < 4096
      next-few = few h next-out (holder-there h h-there) where
        was : (y : flights.Flight) → Contains book.state.flights y → (x : flights.Flight) × Contains state.flights x × (x.name ≡ y.name)
        was y y_there = let before = from-before airport state delay feasible is y (placing.among (Flight y) y_there) in (before.0, before.1, sym (ap (λ (z : flights.Flight). z.name) before.2.same))

        had : (q : parties.Party) → Contains book.state.parties q → (p : parties.Party) × Contains state.parties p × (p.name ≡ q.name)
        had q q_there = (q, (filter-Contains (λ (p : parties.Party). not (party_meets airport delay p)) state.parties q (placing.among (Party q) q_there)).0, refl)

        few : (h : Holder) → IsFalse (has_holder (name_of h) book.state) → IsIn state h → holder_count book.state < 4096
        few (Flight f) none there = omega (
          arith,
          feasible.few,
          left_out-fewer (λ (g : flights.Flight). g.name) f state.flights there,
          fewer-named (λ (g : flights.Flight). g.name) (λ (g : flights.Flight). g.name) book.state.flights (flights_without f.name state.flights) placing.fits.feasible.ordered
              (AllPairs-filter (λ (g h : flights.Flight). IsTrue (name_precedes g.name h.name)) (λ (g : flights.Flight). not (bytes_eq g.name f.name)) state.flights feasible.ordered)
              (λ y y_there.
              let before = was y y_there in
              let differs : IsFalse (bytes_eq before.0.name f.name) =
              subst (λ n. IsFalse (bytes_eq n f.name)) (sym before.2) (All-contains (λ (g : flights.Flight). IsFalse (bytes_eq g.name f.name)) book.state.flights y (no_holder-flights f.name book.state none) y_there) in
              (before.0, Contains-filter (λ (g : flights.Flight). not (bytes_eq g.name f.name)) state.flights before.0 before.1 (not_from_false _ differs), before.2)),
          fewer-named (λ (q : parties.Party). q.name) (λ (q : parties.Party). q.name) book.state.parties state.parties placing.fits.feasible.parties_ordered feasible.parties_ordered had,
        )
        few (Party p) none there = omega (
          arith,
          feasible.few,
          left_out-fewer (λ (q : parties.Party). q.name) p state.parties there,
          fewer-named (λ (g : flights.Flight). g.name) (λ (g : flights.Flight). g.name) book.state.flights state.flights placing.fits.feasible.ordered feasible.ordered was,
          fewer-named (λ (q : parties.Party). q.name) (λ (q : parties.Party). q.name) book.state.parties (parties_without p.name state.parties) placing.fits.feasible.parties_ordered
              (AllPairs-filter (λ (q r : parties.Party). IsTrue (name_precedes q.name r.name)) (λ (q : parties.Party). not (bytes_eq q.name p.name)) state.parties feasible.parties_ordered)
              (λ q q_there.
              let before = had q q_there in
              let differs : IsFalse (bytes_eq before.0.name p.name) =
              subst (λ n. IsFalse (bytes_eq n p.name)) (sym before.2) (All-contains (λ (r : parties.Party). IsFalse (bytes_eq r.name p.name)) book.state.parties q (no_holder-parties p.name book.state none) q_there) in
              (before.0, Contains-filter (λ (r : parties.Party). not (bytes_eq r.name p.name)) state.parties before.0 before.1 (not_from_false _ differs), before.2)),
        )

      -- a flight of theirs is late or in the way, so that in the base state it is on the steps that it keeps
      moved : (f : flights.Flight) → Contains state.flights f → Contains in_turn f.name → flight_at_once airport delay f ≡ on_steps f (steps_kept airport delay f)
      moved f there named = rw (moves-named airport state delay feasible is meetings way f there named) refl

      kept-there : (f : flights.Flight) → Contains state.flights f → Contains in_turn f.name → 0 < length (steps_kept airport delay f)
          → Contains base.flights (record f { steps = steps_kept airport delay f })
      kept-there f there named some =
          Contains-flat_map (flight_at_once airport delay) state.flights f (record f { steps = steps_kept airport delay f }) there
          (subst (λ fs. Contains fs (record f { steps = steps_kept airport delay f })) (sym (moved f there named)) (on_steps-there f (steps_kept airport delay f) some))

      pub next-can : CanBePlaced airport delay book.state h
      next-can = can h next-out (holder-there h h-there) turn-there where
        can : (h : Holder) → IsFalse (has_holder (name_of h) book.state) → IsIn state h → Contains in_turn (name_of h) → CanBePlaced airport delay book.state h
        can (Party p) none there named = tt
        can (Flight f) none there named = (
          (state, All-contains (λ (g : flights.Flight). IsFeasibleWalk (conditions_of airport state g) g.steps) state.flights f feasible.walks there),
          λ some. feasible-among airport base whole book.state placing.among (Flight (record f { steps = steps_kept airport delay f })) none (kept-there f there named some),
        )

      -- what is in force afterwards
      next-among : (h : Holder) → IsIn state h → Contains in_turn (name_of h) → (next : State) → next ≡ placed_at_once airport delay h book.state → (x : Holder) → IsIn next x → IsIn base x
      next-among (Party p) there named next e x x_there = placing.among x (subst (λ s. IsIn s x) e x_there)
      next-among (Flight f) there named next e x x_there = go (steps_kept airport delay f) refl e where
        go : (kept : List Step) → steps_kept airport delay f ≡ kept → next ≡ with_kept f kept book.state → IsIn base x
        go [] none e = placing.among x (subst (λ s. IsIn s x) e x_there)
        go (s ∷ kept) some e =
            let y : flights.Flight = record f { steps = s ∷ kept } in
            let y_there : Contains base.flights y =
            subst (λ ks. Contains base.flights (record f { steps = ks })) some (kept-there f there named (subst (λ ks. 0 < length ks) (sym some) (omega arith))) in
            put (s ∷ kept) y_there x (subst (λ s. IsIn s x) e x_there)
          where
            put : (steps : List Step) → Contains base.flights (record f { steps = steps }) → (x : Holder) → IsIn (with_flight (record f { steps = steps }) book.state) x → IsIn base x
            put steps y_there (Party q) there = placing.among (Party q) there
            put steps y_there (Flight g) there = elim (put_in-cases (λ (z : flights.Flight). z.name) (record f { steps = steps }) book.state.flights g there) [
              | inl e ↦ subst (Contains base.flights) e y_there
              | inr old ↦ placing.among (Flight g) old
            ]

      next-waiting : (h : Holder) → All (λ x. IsFalse (bytes_eq (name_of h) (name_of x))) (drop (suc i) holders) → AreOut book.state (drop (suc i) holders)
          → (next : State) → next ≡ placed_at_once airport delay h book.state → AreOut next (drop (suc i) holders)
      next-waiting (Party p) differ still next e = subst (λ s. AreOut s (drop (suc i) holders)) (sym e) still
      next-waiting (Flight f) differ still next e = go (steps_kept airport delay f) e where
        go : (kept : List Step) → next ≡ with_kept f kept book.state → AreOut next (drop (suc i) holders)
        go [] e = subst (λ s. AreOut s (drop (suc i) holders)) (sym e) still
        go (s ∷ kept) e = λ k d within.
            let x : Holder = get_or (drop (suc i) holders) k d in
            subst (λ t. IsFalse (has_holder (name_of x) t)) (sym e)
            (absent-with (name_of x) (Flight (record f { steps = s ∷ kept })) book.state (differ k d within) (still k d within))

      -- whoever of the base state had the name of the next is in force now
      next-all : (h : Holder) → IsIn state h → Contains in_turn (name_of h) → (next : State) → next ≡ placed_at_once airport delay h book.state → (x : Holder) → IsIn base x
          → Contains (name_of h ∷ map name_of (drop (suc i) holders)) (name_of x) ⊎ IsIn book.state x → Contains (map name_of (drop (suc i) holders)) (name_of x) ⊎ IsIn next x
      next-all (Party p) there named next e x x_there (inr old) = inr (subst (λ s. IsIn s x) (sym e) old)
      next-all (Party p) there named next e x x_there (inl waits) = elim (Contains-cons_cases p.name (name_of x) (map name_of (drop (suc i) holders)) waits) [
        | inr rest ↦ inl rest
        | inl same ↦ absurd (none x x_there same)
      ] where
        none : (x : Holder) → IsIn base x → p.name ≡ name_of x → ⊥
        none (Flight g) g_there same =
            let before = from-before airport state delay feasible is g g_there in
            kinds-differ p before.0 there before.1 (same ∙ ap (λ (z : flights.Flight). z.name) before.2.same)
        none (Party q) q_there same =
            let before = filter-Contains (λ (r : parties.Party). not (party_meets airport delay r)) state.parties q q_there in
            let one : q ≡ p = named-once (λ (r : parties.Party). r.name) state.parties q p feasible.parties_ordered before.0 there (sym same) in
            both_ways _ (not-true _ before.1) (subst (λ (r : parties.Party). IsTrue (party_meets airport delay r)) (sym one) (meets-named airport state delay feasible is meetings way p there named))
      next-all (Flight f) there named next e x x_there (inr old) = inr (stays (steps_kept airport delay f) e) where
        stays : (kept : List Step) → next ≡ with_kept f kept book.state → IsIn next x
        stays [] e = subst (λ s. IsIn s x) (sym e) old
        stays (s ∷ kept) e = subst (λ t. IsIn t x) (sym e) (in-stays (Flight (record f { steps = s ∷ kept })) x book.state old)
      next-all (Flight f) there named next e x x_there (inl waits) = elim (Contains-cons_cases f.name (name_of x) (map name_of (drop (suc i) holders)) waits) [
        | inr rest ↦ inl rest
        | inl same ↦ inr (its x x_there same)
      ] where
        -- it is the flight on the steps that it keeps
        kept-so : (g : flights.Flight) → Contains base.flights g → f.name ≡ g.name → (g ≡ record f { steps = steps_kept airport delay f }) × (0 < length (steps_kept airport delay f))
        kept-so g g_there same =
            let before = from-before airport state delay feasible is g g_there in
            let one : before.0 ≡ f = named-once (λ (z : flights.Flight). z.name) state.flights before.0 f feasible.ordered before.1 there (sym (ap (λ (z : flights.Flight). z.name) before.2.same) ∙ sym same) in
            so (subst (λ z. IsAtOnce airport delay z g) one before.2)
          where
            so : IsAtOnce airport delay f g → (g ≡ record f { steps = steps_kept airport delay f }) × (0 < length (steps_kept airport delay f))
            so at_once = elim at_once.either [
              | inr moves ↦ (moves.1, moves.2)
              | inl stays ↦ elim (or_cases _ _ (moves-named airport state delay feasible is meetings way f there named)) [
                | inl late ↦ absurd (both_ways _ stays.0 late)
                | inr meets ↦ absurd (both_ways _ stays.1 meets)
              ]
            ]

        its : (x : Holder) → IsIn base x → f.name ≡ name_of x → IsIn next x
        its (Party q) q_there same =
            absurd (kinds-differ q f (filter-Contains (λ (r : parties.Party). not (party_meets airport delay r)) state.parties q q_there).0 there (sym same))
        its (Flight g) g_there same = let kept = kept-so g g_there same in go (steps_kept airport delay f) kept.0 kept.1 e where
          go : (steps : List Step) → g ≡ record f { steps = steps } → 0 < length steps → next ≡ with_kept f steps book.state → Contains next.flights g
          go [] is some e = absurd (omega (arith, some))
          go (s ∷ steps) is some e =
              subst (Contains next.flights) (sym is)
              (subst (λ t. Contains t.flights (record f { steps = s ∷ steps })) (sym e) (put_in-there (λ (z : flights.Flight). z.name) (record f { steps = s ∷ steps }) book.state.flights))

      pub placing-next : (next : Book) → next.state ≡ placed_at_once airport delay h book.state → ChangesOnly (name_of h) book next → next.lifted ≡ None → Fits airport next → IsPlacing airport state delay holders first (suc i) next
      placing-next next e only unlifted fits =
          let before = holder-there h h-there in
          let pairs : AreOthers (h ∷ drop (suc i) holders) = subst AreOthers later (AllPairs-drop (λ a b. IsFalse (bytes_eq (name_of b) (name_of a))) i holders others) in
          record {
            among = next-among h before turn-there next.state e;
            out = next-waiting h
                (All-weaker (λ x. IsFalse (bytes_eq (name_of x) (name_of h))) (λ x. IsFalse (bytes_eq (name_of h) (name_of x))) (λ x differ. differ-turned (name_of x) (name_of h) differ) (drop (suc i) holders)
                (AllPairs-first (λ a b. IsFalse (bytes_eq (name_of b) (name_of a))) h (drop (suc i) holders) pairs))
                (All-tail (λ holder. IsFalse (has_holder (name_of holder) book.state)) h (drop (suc i) holders) waiting) next.state e;
            all = λ x x_there. next-all h before turn-there next.state e x x_there
                (subst (λ hs. Contains (map name_of hs) (name_of x) ⊎ IsIn book.state x) later (placing.all x x_there));
            theirs = theirs-both holders first book next placing.theirs (theirs-one holders h book next (Contains-map name_of holders h h-there) only);
            unlifted = unlifted;
            fits = fits;
          }

    -- In the end it is the base state.
    pub placing-last : (i : ℕ) (book : Book) → IsPlacing airport state delay holders first i book → length holders ≤ i → book.state ≡ base
    placing-last i book placing over =
        let fs = ordered_same (λ (f g : flights.Flight). name_precedes f.name g.name) (λ f g before after. both_ways _ (name_precedes-one_way f.name g.name before) after) book.state.flights base.flights
        placing.fits.feasible.ordered whole.ordered (λ g there. placing.among (Flight g) there) (λ g there. there-still (Flight g) there) in
        let ps = ordered_same (λ (p q : parties.Party). name_precedes p.name q.name) (λ p q before after. both_ways _ (name_precedes-one_way p.name q.name before) after) book.state.parties base.parties
        placing.fits.feasible.parties_ordered whole.parties_ordered (λ q there. placing.among (Party q) there) (λ q there. there-still (Party q) there) in
        λ i. record { flights = fs i; parties = ps i }
      where
        there-still : (x : Holder) → IsIn base x → IsIn book.state x
        there-still x there = elim (subst (λ hs. Contains (map name_of hs) (name_of x) ⊎ IsIn book.state x) (drop_all i holders over) (placing.all x there)) [
          | inl none ↦ absurd (omega (arith, none.1))
          | inr old ↦ old
        ]
