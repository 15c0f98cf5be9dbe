-- All turns: one more each time.
use Rattle.std.proofs.Common.{◌≡◌, ◌∙◌, ℕ, suc, ◌<◌, ◌≤◌, List, [], ◌∷◌, ◌++◌, length, map, take, drop, get_or, drop-cons, take_all, IsFalse, Option, None, refl, sym, ap, subst, arith}
use Rattle.std.specs.Prelude.{All, AllPairs, Contains, bytes_eq}
use Rattle.std.specs.Option.{ForSome}
use Rattle.std.proofs.lemmas.Bool.{both_ways}
use Rattle.std.proofs.lemmas.List.{length-map, get_or-map}
use Rattle.std.proofs.lemmas.List.Elements.{All-contains, Contains-get_or}
use Rattle.std.specs.Cmp.Lexicographic.{bytes_decides}
use Rattle.taxi_base.specs.declared.answers.Flight as flights
use Rattle.taxi_base.specs.declared.answers.Party as parties
use Rattle.taxi_base.specs.declared.answers.Found.{Found}
use Rattle.taxi_base.specs.Airport.{Airport}
use Rattle.taxi_base.specs.Walks.{IsFeasibleWalk, Meets}
use Rattle.taxi_base.specs.State.{State, flight_named, conditions_of, IsSound}
use Rattle.taxi_base.specs.Late.{Delay, Meeting, IsDelay, AreInTheWay, base_state, IsTurnOf, AreTurns}
use Rattle.taxi_base.proofs.ListLaws.{Contains-map, AllPairs-first, AllPairs-rest}
use Rattle.taxi_base.proofs.NamedLists.{absent-find}
use Rattle.taxi_base.proofs.OtherHolds.{named-there, there-named}
use Rattle.taxi_base.proofs.TurnLaws.{IsAmid, kept-walk, others-few}
use Rattle.taxi_base.proofs.LateLaws.{turn-amid, base-amid, names-once}
use Rattle.replies.specs.declared.entries.Entry.{Entry}
use Rattle.replies.specs.Repairs.{names_in_turn, request_at_turn, entry_told, entries_told}
use Rattle.commitments.specs.Book.{Book, Fits}
use Rattle.late_repair.specs.declared.holder.Holder.{Holder}
use Rattle.late_repair.specs.declared.holder.Holder.TheVariants.{Flight, Party}
use Rattle.late_repair.specs.Repairing.{MayTakeTurn, WaitsForTurn}
use Rattle.late_repair.specs.TakenOut.{name_of, IsIn, ChangesOnly, ChangesTheirs}
use Rattle.late_repair.proofs.ChangeLaws.{theirs-none, theirs-one, theirs-both}
use Rattle.late_repair.proofs.TurnSteps.{met-timely}
use Rattle.late_repair.proofs.WayLaws.{take-more}

abbrev Told : Type 0
Told = List ℕ × Entry

module _ (airport : Airport) (delay : Delay) (state : State) where
  -- ---- one more turn

  pub turns-push : (names : List (List ℕ)) (name : List ℕ) (now : State) (tells : List (Option Found)) (told : Option Found) (mid next : State)
      → AreTurns airport delay state names now tells mid → IsTurnOf airport delay state name mid told next → AreTurns airport delay state (names ++ name ∷ []) now (tells ++ told ∷ []) next
  turns-push [] name now [] told mid next turns turn = (next, subst (λ s. IsTurnOf airport delay state name s told next) turns turn, refl)
  turns-push [] name now (other ∷ tells) told mid next turns turn = absurd turns
  turns-push (n ∷ names) name now [] told mid next turns turn = absurd turns
  turns-push (n ∷ names) name now (other ∷ tells) told mid next turns turn = (turns.0, turns.1, turns-push names name turns.0 tells told mid next turns.2 turn)

  pub entries-push : (names : List (List ℕ)) (name : List ℕ) (now : State) (tells : List (Option Found)) (told : Option Found) (mid : State)
      → AreTurns airport delay state names now tells mid
      → entries_told airport delay state names tells ++ (name, entry_told (request_at_turn airport delay state name) told) ∷ [] ≡ entries_told airport delay state (names ++ name ∷ []) (tells ++ told ∷ [])
  entries-push [] name now [] told mid turns = refl
  entries-push [] name now (other ∷ tells) told mid turns = absurd turns
  entries-push (n ∷ names) name now [] told mid turns = absurd turns
  entries-push (n ∷ names) name now (other ∷ tells) told mid turns =
      ap (λ entries. (n, entry_told (request_at_turn airport delay state n) other) ∷ entries) (entries-push names name turns.0 tells told mid turns.2)

  -- the holders before a place have had their turns, and the others wait
  pub record IsTurning (holders : List Holder) (i : ℕ) (first : Book) (entries : List Told) (book : Book) : Type 0 where
    pub tells : List (Option Found)
    pub turns : AreTurns airport delay state (take i (map name_of holders)) first.state tells book.state
    pub told : entries ≡ entries_told airport delay state (take i (map name_of holders)) tells
    pub amid : IsAmid airport state delay book.state (drop i (map name_of holders))
    pub once : AllPairs (λ a b. IsFalse (bytes_eq b a)) (drop i (map name_of holders))
    pub theirs : ChangesTheirs holders first book
    pub unlifted : book.lifted ≡ None
    pub fits : Fits airport book

  -- ---- amid the turns

  module _ (sound : IsSound airport state) where
    -- who is next may take its turn
    pub next-may : (now : State) (name : List ℕ) (names : List (List ℕ)) → IsAmid airport state delay now (name ∷ names) → All (λ n. IsFalse (bytes_eq n name)) names
        → ForSome (flight_named name state.flights) (MayTakeTurn airport delay now)
    next-may now name names amid once x found =
        let there = named-there (λ (f : flights.Flight). f.name) name state.flights x found in
        record {
          few = others-few airport state delay sound now name names amid once x there.0 there.1;
          kept = kept-walk airport state delay sound now name names amid once x there.0 there.1;
          no_party = absent-find (λ (p : parties.Party). p.name) x.name now.parties (λ k d low e.
              let p : parties.Party = get_or now.parties k d in
              let differs : IsFalse (bytes_eq x.name p.name) = All-contains (λ (f : flights.Flight). IsFalse (bytes_eq f.name p.name)) state.flights x
              (All-contains (λ (q : parties.Party). All (λ (f : flights.Flight). IsFalse (bytes_eq f.name q.name)) state.flights) state.parties p sound.feasible.differ (amid.parties p (Contains-get_or now.parties k d low))) there.0 in
              both_ways _ differs ((bytes_decides x.name p.name).1 (sym e)));
        }

    -- one that was taken out waits for its turn
    pub waits : (now : State) (h : Holder) → IsIn state h → ForSome (flight_named (name_of h) state.flights) (MayTakeTurn airport delay now) → WaitsForTurn airport delay now h
    waits now (Party p) there may = tt
    waits now (Flight f) there may = (
      (state, All-contains (λ (g : flights.Flight). IsFeasibleWalk (conditions_of airport state g) g.steps) state.flights f sound.feasible.walks there),
      met-timely airport (conditions_of airport state f) refl f.request f.steps
          (All-contains (λ (g : flights.Flight). Meets (conditions_of airport state g) g.request g.steps) state.flights f sound.requests there),
      may f (there-named (λ (g : flights.Flight). g.name) state.flights f sound.feasible.ordered there),
    )

    module _ (holders : List Holder) where
      abbrev names : List (List ℕ)
      names = map name_of holders

      pub turning-first : (book : Book) (entries : List Told) → IsDelay airport state delay
          → (meetings : List Meeting) → AreInTheWay airport state delay meetings → names ≡ names_in_turn delay meetings → book.state ≡ base_state airport state delay
          → entries ≡ [] → book.lifted ≡ None → Fits airport book → IsTurning holders 0 book entries book
      turning-first book entries is meetings way in_turn at_once none unlifted fits = record {
        tells = [];
        turns = refl;
        told = none;
        amid = subst (λ s. IsAmid airport state delay s names) (sym at_once) (subst (IsAmid airport state delay (base_state airport state delay)) (sym in_turn)
            (base-amid airport state delay sound.feasible is meetings way sound));
        once = subst (AllPairs (λ a b. IsFalse (bytes_eq b a))) (sym in_turn) (names-once airport state delay sound.feasible is meetings way);
        theirs = theirs-none holders book;
        unlifted = unlifted;
        fits = fits;
      }

      module _ (i : ℕ) (first : Book) (entries : List Told) (book : Book) (turning : IsTurning holders i first entries book) (h : Holder)
          (low : i < length holders) (here : h ≡ get_or holders i h) where
        low_name : i < length names
        low_name = omega (arith, low, length-map holders name_of)

        name_here : name_of h ≡ get_or names i (name_of h)
        name_here = ap name_of here ∙ sym (get_or-map name_of holders i h (name_of h) low)

        later : drop i names ≡ name_of h ∷ drop (suc i) names
        later = drop-cons names i (name_of h) low_name ∙ ap (λ n. n ∷ drop (suc i) names) (sym name_here)

        waiting : IsAmid airport state delay book.state (name_of h ∷ drop (suc i) names)
        waiting = subst (IsAmid airport state delay book.state) later turning.amid

        pairs : AllPairs (λ a b. IsFalse (bytes_eq b a)) (name_of h ∷ drop (suc i) names)
        pairs = subst (AllPairs (λ a b. IsFalse (bytes_eq b a))) later turning.once

        others : All (λ n. IsFalse (bytes_eq n (name_of h))) (drop (suc i) names)
        others = AllPairs-first (λ a b. IsFalse (bytes_eq b a)) (name_of h) (drop (suc i) names) pairs

        h-there : Contains holders h
        h-there = subst (Contains holders) (sym here) (Contains-get_or holders i h low)

        pub turning-waits : IsIn state h → WaitsForTurn airport delay book.state h
        turning-waits there = waits book.state h there (next-may book.state (name_of h) (drop (suc i) names) waiting others)

        pub turning-next : (next : Book) (more : List Told) (entry : Entry) (told : Option Found) → IsTurnOf airport delay state (name_of h) book.state told next.state
            → entry ≡ entry_told (request_at_turn airport delay state (name_of h)) told → more ≡ entries ++ (name_of h, entry) ∷ [] → ChangesOnly (name_of h) book next → next.lifted ≡ None → Fits airport next
            → IsTurning holders (suc i) first more next
        turning-next next more entry told turn says joined only unlifted fits =
            let taken : take (suc i) names ≡ take i names ++ name_of h ∷ [] = take-more names i (name_of h) low_name name_here in
            record {
              tells = turning.tells ++ told ∷ [];
              turns = subst (λ ns. AreTurns airport delay state ns first.state (turning.tells ++ told ∷ []) next.state) (sym taken)
                  (turns-push (take i names) (name_of h) first.state turning.tells told book.state next.state turning.turns turn);
              told = joined ∙ ap (λ (e : Entry). entries ++ (name_of h, e) ∷ []) says
                  ∙ ap (λ (es : List Told). es ++ (name_of h, entry_told (request_at_turn airport delay state (name_of h)) told) ∷ []) turning.told
                  ∙ entries-push (take i names) (name_of h) first.state turning.tells told book.state turning.turns
                  ∙ ap (λ ns. entries_told airport delay state ns (turning.tells ++ told ∷ [])) (sym taken);
              amid = turn-amid airport state delay sound book.state (name_of h) (drop (suc i) names) told next.state waiting others turn;
              once = AllPairs-rest (λ a b. IsFalse (bytes_eq b a)) (name_of h) (drop (suc i) names) pairs;
              theirs = theirs-both holders first book next turning.theirs (theirs-one holders h book next (Contains-map name_of holders h h-there) only);
              unlifted = unlifted;
              fits = fits;
            }

      pub turning-last : (i : ℕ) (first : Book) (entries : List Told) (book : Book) → IsTurning holders i first entries book → length holders ≤ i
          → (tells : List (Option Found)) × AreTurns airport delay state names first.state tells book.state × (entries ≡ entries_told airport delay state names tells)
      turning-last i first entries book turning over =
          let all : take i names ≡ names = take_all i names (omega (arith, over, length-map holders name_of)) in (
            turning.tells,
            subst (λ ns. AreTurns airport delay state ns first.state turning.tells book.state) all turning.turns,
            turning.told ∙ ap (λ ns. entries_told airport delay state ns turning.tells) all,
          )
