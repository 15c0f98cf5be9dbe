-- Where a flight is late each route that is told is in force, who is not told of is as before, and the state stays sound.
use Rattle.std.proofs.Common.{◌≡◌, ◌∙◌, ℕ, not, ◌||◌, List, [], ◌∷◌, map, IsTrue, IsFalse, Option, Some, None, is_some, refl, sym, ap, subst, inl, inr, ◌⊎◌, ◌↔◌, bytes_eq}
use Rattle.std.specs.Prelude.{All, AllPairs, Contains, MatchOption}
use Rattle.std.specs.Cmp.Lexicographic.{bytes_decides}
use Rattle.std.proofs.lemmas.Bool.{both_ways, false_from_ne_true, or_left, or_right, or_cases}
use Rattle.std.proofs.lemmas.List.Elements.{All-nil, All-cons, All-head, All-tail, All-weaker, All-contains_itself}
use Rattle.taxi_base.specs.declared.rows.Step.{Step}
use Rattle.taxi_base.specs.declared.answers.Flight.{Flight}
use Rattle.taxi_base.specs.declared.answers.Party.{Party}
use Rattle.taxi_base.specs.declared.answers.Found.{Found}
use Rattle.taxi_base.specs.declared.answers.Found.TheVariants as found
use Rattle.taxi_base.specs.declared.answers.Request.{Request}
use Rattle.taxi_base.specs.declared.answers.Request.TheVariants as request
use Rattle.taxi_base.specs.Airport.{Airport}
use Rattle.taxi_base.specs.State.{State, flight_named, party_named, without, with_route, has_holder, flight_holds, party_hold, step_begun, IsSound}
use Rattle.taxi_base.specs.Late.{Delay, Meeting, IsDelay, IsInTheWay, prolonged_hold, is_late, steps_kept, flight_meets, party_meets, base_state, request_routed, after_turn, IsTurnOfFlight, IsTurnOf, AreTurns, IsRepaired, KeepsEntered}
use Rattle.taxi_base.proofs.ListLaws.{Contains-first, Contains-rest, Contains-cons_cases, Contains-map, map-Contains, filter-Contains, AllPairs-first, AllPairs-rest}
use Rattle.taxi_base.proofs.NameLaws.{differ-turned, put_in-cases}
use Rattle.taxi_base.proofs.OtherHolds.{named-there, there-named}
use Rattle.taxi_base.proofs.BaseLaws.{from-before}
use Rattle.taxi_base.proofs.TurnLaws.{IsAmid, put_in-there}
use Rattle.taxi_base.proofs.LateLaws.{first-common, turn-amid, base-amid, names-once, repaired-sound}
use Rattle.taxi_base.proofs.StayLaws.{turn-flight, repaired-flight, repaired-party, repaired-keeps}
use Rattle.taxi_text.specs.declared.command.Command.TheVariants as command
use Rattle.replies.specs.declared.block.Block.{Block}
use Rattle.replies.specs.declared.entries.Entry.{Entry}
use Rattle.replies.specs.Refusals.{first_refusal}
use Rattle.replies.specs.Repairs.{delay_of, names_in_turn, request_at_turn, entry_told, entries_told, IsRepairTold}
use Rattle.replies.specs.Replies.{is_told_of, IsHeldAsTold, IsRepairIn}
use Rattle.replies.proofs.RoutedKept.{IsKept}
use Rattle.replies.proofs.RoutedLaws.{one-some}
use Rattle.replies.proofs.LateTold.{delay-parts, delay-is, told-names, name-told, untold-differs}

-- ---- a turn

module _ (airport : Airport) (state : State) (delay : Delay) (now : State) (name : List ℕ) (next : State) where
  after-back : (x : Flight) → x.name ≡ name → (kept : List Step) (answer : Found) (y : Flight) → IsFalse (bytes_eq y.name name) → Contains (after_turn now x kept answer).flights y → Contains now.flights y
  after-back x named_so kept answer y differ = go kept answer where
    left : Contains (without x.name now).flights y → Contains now.flights y
    left h = (filter-Contains (λ (f : Flight). not (bytes_eq f.name x.name)) now.flights y h).0

    on : (asked : Request) (steps : List Step) → Contains (with_route x asked steps now).flights y → Contains now.flights y
    on asked steps h = elim (put_in-cases (λ (f : Flight). f.name) (record x { request = asked; steps = steps }) (without x.name now).flights y h) [
      | inl e ↦ absurd (both_ways _ differ ((bytes_decides y.name name).1 (sym (ap (λ (f : Flight). f.name) e) ∙ named_so)))
      | inr old ↦ left old
    ]

    go : (kept : List Step) (answer : Found) → Contains (after_turn now x kept answer).flights y → Contains now.flights y
    go kept (found.Route steps labels) h = on (request_routed x.request kept) steps h
    go [] (found.NoRoute labels) h = left h
    go (k ∷ kept) (found.NoRoute labels) h = on request.Filed (k ∷ kept) h

  -- A turn brings no flight of another name in.
  turn-back : (told : Option Found) → IsTurnOf airport delay state name now told next → (y : Flight) → IsFalse (bytes_eq y.name name) → Contains next.flights y → Contains now.flights y
  turn-back told turn y differ there = go (flight_named name state.flights) refl told turn where
    same : next ≡ now → Contains now.flights y
    same e = subst (λ (s : State). Contains s.flights y) e there

    go : (o : Option Flight) → flight_named name state.flights ≡ o → (told : Option Found) → MatchOption o ((told ≡ None) × (next ≡ now)) (λ flight. IsTurnOfFlight airport delay flight now told next)
        → Contains now.flights y
    go None e told h = same h.1
    go (Some x) e None h = same h.1
    go (Some x) e (Some answer) h =
        after-back x (named-there (λ (f : Flight). f.name) name state.flights x e).1 (steps_kept airport delay x) answer y differ (subst (λ (s : State). Contains s.flights y) h.1 there)

  -- A route that is told is in force, as long as its flight stays.
  turn-held : (after : State) → ((y : Flight) → y.name ≡ name → Contains next.flights y → Contains after.flights y) → (sought : Request) (told : Option Found)
      → IsTurnOf airport delay state name now told next → IsHeldAsTold after (name, entry_told sought told)
  turn-held after stays sought told turn = go (flight_named name state.flights) refl told turn where
    go : (o : Option Flight) → flight_named name state.flights ≡ o → (told : Option Found) → MatchOption o ((told ≡ None) × (next ≡ now)) (λ flight. IsTurnOfFlight airport delay flight now told next)
        → IsHeldAsTold after (name, entry_told sought told)
    go None e told h = subst (λ t. IsHeldAsTold after (name, entry_told sought t)) (sym h.0) tt
    go (Some x) e None h = tt
    go (Some x) e (Some (found.NoRoute labels)) h = tt
    go (Some x) e (Some (found.Route steps labels)) h =
        let z : Flight = record x { request = request_routed x.request (steps_kept airport delay x); steps = steps } in
        let named_so : x.name ≡ name = (named-there (λ (f : Flight). f.name) name state.flights x e).1 in
        (z, stays z named_so (subst (λ (s : State). Contains s.flights z) (sym h.1) (put_in-there (λ (f : Flight). f.name) z (without x.name now).flights)), named_so, refl)

-- ---- all turns

module _ (airport : Airport) (state : State) (delay : Delay) (sound : IsSound airport state) where
  record AreTaken (names : List (List ℕ)) (now : State) (tells : List (Option Found)) (after : State) : Type 0 where
    amid : IsAmid airport state delay now names
    once : AllPairs (λ a b. IsFalse (bytes_eq b a)) names
    turns : AreTurns airport delay state names now tells after

  -- the turns behind the first
  taken-rest : (name : List ℕ) (names : List (List ℕ)) (now : State) (told : Option Found) (tells : List (Option Found)) (after : State) → (taken : AreTaken (name ∷ names) now (told ∷ tells) after)
      → AreTaken names taken.turns.0 tells after
  taken-rest name names now told tells after taken = record {
    amid = turn-amid airport state delay sound now name names told taken.turns.0 taken.amid (AllPairs-first (λ a b. IsFalse (bytes_eq b a)) name names taken.once) taken.turns.1;
    once = AllPairs-rest (λ a b. IsFalse (bytes_eq b a)) name names taken.once;
    turns = taken.turns.2;
  }

  -- a flight of another name than theirs is in force afterwards exactly where it is before
  turns-stay : (names : List (List ℕ)) (now : State) (tells : List (Option Found)) (after : State) → AreTaken names now tells after → (y : Flight) → All (λ n. IsFalse (bytes_eq y.name n)) names
      → Contains now.flights y → Contains after.flights y
  turns-stay [] now [] after taken y others there = subst (λ (s : State). Contains s.flights y) (sym taken.turns) there
  turns-stay [] now (told ∷ tells) after taken y others there = absurd taken.turns
  turns-stay (name ∷ names) now [] after taken y others there = absurd taken.turns
  turns-stay (name ∷ names) now (told ∷ tells) after taken y others there =
      turns-stay names taken.turns.0 tells after (taken-rest name names now told tells after taken) y (All-tail (λ n. IsFalse (bytes_eq y.name n)) name names others)
      (turn-flight airport state delay now name told taken.turns.0 taken.turns.1 sound names taken.amid (AllPairs-first (λ a b. IsFalse (bytes_eq b a)) name names taken.once) y there
      (All-head (λ n. IsFalse (bytes_eq y.name n)) name names others))

  turns-back : (names : List (List ℕ)) (now : State) (tells : List (Option Found)) (after : State) → AreTaken names now tells after → (y : Flight) → All (λ n. IsFalse (bytes_eq y.name n)) names
      → Contains after.flights y → Contains now.flights y
  turns-back [] now [] after taken y others there = subst (λ (s : State). Contains s.flights y) taken.turns there
  turns-back [] now (told ∷ tells) after taken y others there = absurd taken.turns
  turns-back (name ∷ names) now [] after taken y others there = absurd taken.turns
  turns-back (name ∷ names) now (told ∷ tells) after taken y others there =
      turn-back airport state delay now name taken.turns.0 told taken.turns.1 y (All-head (λ n. IsFalse (bytes_eq y.name n)) name names others)
      (turns-back names taken.turns.0 tells after (taken-rest name names now told tells after taken) y (All-tail (λ n. IsFalse (bytes_eq y.name n)) name names others) there)

  -- each route that is told is in force
  turns-held : (names : List (List ℕ)) (now : State) (tells : List (Option Found)) (after : State) → AreTaken names now tells after → All (IsHeldAsTold after) (entries_told airport delay state names tells)
  turns-held [] now [] after taken = All-nil (IsHeldAsTold after)
  turns-held [] now (told ∷ tells) after taken = absurd taken.turns
  turns-held (name ∷ names) now [] after taken = absurd taken.turns
  turns-held (name ∷ names) now (told ∷ tells) after taken =
      All-cons (IsHeldAsTold after) (name, entry_told (request_at_turn airport delay state name) told) (entries_told airport delay state names tells)
      (turn-held airport state delay now name taken.turns.0 after stays (request_at_turn airport delay state name) told taken.turns.1)
      (turns-held names taken.turns.0 tells after (taken-rest name names now told tells after taken))
    where
      stays : (y : Flight) → y.name ≡ name → Contains taken.turns.0.flights y → Contains after.flights y
      stays y named_so there =
          turns-stay names taken.turns.0 tells after (taken-rest name names now told tells after taken) y
          (All-weaker (λ n. IsFalse (bytes_eq n name)) (λ n. IsFalse (bytes_eq y.name n)) (λ n differ. subst (λ m. IsFalse (bytes_eq m n)) (sym named_so) (differ-turned n name differ)) names
          (AllPairs-first (λ a b. IsFalse (bytes_eq b a)) name names taken.once)) there

  -- ---- a repair

  module _ (is : IsDelay airport state delay) (meetings : List Meeting) (tells : List (Option Found)) (after : State) (repaired : IsRepaired airport state delay meetings tells after) where
    abbrev names : List (List ℕ)
    names = names_in_turn delay meetings

    abbrev entries : List (List ℕ × Entry)
    entries = entries_told airport delay state names tells

    taken : AreTaken names (base_state airport state delay) tells after
    taken = record {
      amid = base-amid airport state delay sound.feasible is meetings repaired.in_the_way sound;
      once = names-once airport state delay sound.feasible is meetings repaired.in_the_way;
      turns = repaired.turns;
    }

    are : map (λ told. told.0) entries ≡ names
    are = told-names airport delay state names (base_state airport state delay) tells after repaired.turns

    -- each name in turn is a holder's
    pub name-held : (name : List ℕ) → Contains names name → IsTrue (has_holder name state)
    name-held name there = elim (Contains-cases there) [
      | inl e ↦ flight-held delay.flight (named-there (λ (f : Flight). f.name) delay.flight.name state.flights delay.flight is.in_force).0 e
      | inr meeting ↦ go meeting.0 meeting.2 ((repaired.in_the_way.whole meeting.0).0 meeting.1)
    ] where
      Contains-cases : Contains names name → (delay.flight.name ≡ name) ⊎ ((m : Meeting) × Contains meetings m × (m.name ≡ name))
      Contains-cases h = elim (Contains-cons_cases delay.flight.name name (map (λ (m : Meeting). m.name) meetings) h) [
        | inl e ↦ inl e
        | inr later ↦ inr (map-Contains (λ (m : Meeting). m.name) meetings name later)
      ]

      flight-held : (f : Flight) → Contains state.flights f → f.name ≡ name → IsTrue (has_holder name state)
      flight-held f f_there e =
          or_right _ _ (subst (λ n. IsTrue (is_some (flight_named n state.flights))) e (ap is_some (there-named (λ (g : Flight). g.name) state.flights f sound.feasible.ordered f_there)))

      go : (m : Meeting) → m.name ≡ name → IsInTheWay airport state delay m → IsTrue (has_holder name state)
      go m e (inl p) =
          or_left _ _ (subst (λ n. IsTrue (is_some (party_named n state.parties))) (p.2 ∙ e) (ap is_some (there-named (λ (q : Party). q.name) state.parties p.0 sound.feasible.parties_ordered p.1)))
      go m e (inr f) = flight-held f.0 f.1 (f.2 ∙ e)

    -- who is late or in the way is told of
    late-told : (x : Flight) → IsTrue (is_late delay x) → IsTrue (is_told_of entries x.name)
    late-told x late =
        name-told entries names x.name are
        (subst (Contains names) (sym ((bytes_decides x.name delay.flight.name).0 late)) (Contains-first delay.flight.name (map (λ (m : Meeting). m.name) meetings)))

    meeting-told : (m : Meeting) → IsInTheWay airport state delay m → IsTrue (is_told_of entries m.name)
    meeting-told m way =
        name-told entries names m.name are
        (Contains-rest delay.flight.name m.name (map (λ (n : Meeting). n.name) meetings) (Contains-map (λ (n : Meeting). n.name) meetings m ((repaired.in_the_way.whole m).1 way)))

    module _ (x : Flight) (there : Contains state.flights x) (untold : IsFalse (is_told_of entries x.name)) where
      not-late : IsFalse (is_late delay x)
      not-late = false_from_ne_true _ (λ late. both_ways _ untold (late-told x late))

      not-met : IsFalse (flight_meets airport delay x)
      not-met = false_from_ne_true _ (λ meets.
          let common = first-common airport (prolonged_hold airport delay) (flight_holds airport x) meets in
          both_ways _ untold (meeting-told (record { second = common.0; name = x.name }) (inr (x, there, refl, not-late, common.1))))

    party-clear : (p : Party) → Contains state.parties p → IsFalse (is_told_of entries p.name) → IsFalse (party_meets airport delay p)
    party-clear p there untold = false_from_ne_true _ (λ meets.
        let common = first-common airport (prolonged_hold airport delay) (party_hold p ∷ []) (or_left _ _ meets) in
        both_ways _ untold (meeting-told (record { second = common.0; name = p.name }) (inl (p, there, refl, common.1))))

    pub repair-in : IsRepairIn state entries after
    repair-in = record {
      known = All-weaker (Contains entries) (λ told. IsTrue (has_holder told.0 state))
          (λ told there. name-held told.0 (subst (λ (ns : List (List ℕ)). Contains ns told.0) are (Contains-map (λ (t : List ℕ × Entry). t.0) entries told there))) entries (All-contains_itself entries);
      routes = turns-held names (base_state airport state delay) tells after taken;
      flights_stay = λ x there untold. repaired-flight airport state delay sound meetings tells after is repaired x there (not-late x there untold) (not-met x there untold);
      flights_were = λ y there untold.
          let early = turns-back names (base_state airport state delay) tells after taken y (untold-differs entries names y.name are untold) there in
          let before = from-before airport state delay sound.feasible is y early in
          let named_so : before.0.name ≡ y.name = sym (ap (λ (z : Flight). z.name) before.2.same) in
          let was : IsFalse (is_told_of entries before.0.name) = subst (λ n. IsFalse (is_told_of entries n)) (sym named_so) untold in
          elim before.2.either [
            | inl stays ↦ subst (Contains state.flights) (sym stays.2) before.1
            | inr moves ↦ absurd (neither before.0 before.1 was moves.0)
          ];
      parties_stay = λ p there untold. (repaired-party airport state delay sound meetings tells after is repaired p).1 (there, party-clear p there untold);
      parties_were = λ p there. ((repaired-party airport state delay sound meetings tells after is repaired p).0 there).0;
    } where
      neither : (x : Flight) → Contains state.flights x → IsFalse (is_told_of entries x.name) → IsTrue (is_late delay x || flight_meets airport delay x) → ⊥
      neither x there untold moves = elim (or_cases _ _ moves) [ inl late ↦ both_ways _ (not-late x there untold) late | inr meets ↦ both_ways _ (not-met x there untold) meets ]

-- the block of a late flight does as it says
pub late-kept : (airport : Airport) (state : State) → IsSound airport state → (name : List ℕ) (time until : ℕ) (block : Block) (after : State)
    → first_refusal airport state (command.Late name time until) ≡ None → IsRepairTold airport state name time until block after → IsKept airport state block after
late-kept airport state sound name time until block after none done =
    let is = delay-is airport state sound.feasible name time until none done.delay done.known in
    subst (λ (b : Block). IsKept airport state b after) (sym done.block_is) (record {
      as_it_says = repair-in airport state done.delay sound is done.meetings done.tells after done.repaired;
      stays_sound = repaired-sound airport state done.delay sound done.meetings done.tells after is done.repaired;
    })

-- ---- what stays of a flight that had begun, and of who is not in the way

module _ (airport : Airport) (state : State) (sound : IsSound airport state) (name : List ℕ) (time until : ℕ) (block : Block) (after : State)
    (none : first_refusal airport state (command.Late name time until) ≡ None) (done : IsRepairTold airport state name time until block after) where
  is-late : IsDelay airport state done.delay
  is-late = delay-is airport state sound.feasible name time until none done.delay done.known

  pub told-entered : (x : Flight) (begun : Step) → Contains state.flights x → step_begun time x.steps ≡ Some begun
      → (now : Flight) × Contains after.flights now × (now.name ≡ x.name) × KeepsEntered time x.steps now.steps
  told-entered x begun there e =
      let same : done.delay.time ≡ time = (delay-parts state name time until done.delay done.known).time_is in
      subst (λ t. (now : Flight) × Contains after.flights now × (now.name ≡ x.name) × KeepsEntered t x.steps now.steps) same
      (repaired-keeps airport state done.delay sound done.meetings done.tells after is-late done.repaired x begun there (subst (λ t. step_begun t x.steps ≡ Some begun) (sym same) e))

  module _ (delay : Delay) (known : delay_of state name time until ≡ Some delay) where
    one-delay : done.delay ≡ delay
    one-delay = one-some (delay_of state name time until) done.delay delay done.known known

    pub told-flight : (x : Flight) → Contains state.flights x → IsFalse (is_late delay x) → IsFalse (flight_meets airport delay x) → Contains after.flights x
    told-flight x there other clear =
        repaired-flight airport state done.delay sound done.meetings done.tells after is-late done.repaired x there
        (subst (λ d. IsFalse (is_late d x)) (sym one-delay) other) (subst (λ d. IsFalse (flight_meets airport d x)) (sym one-delay) clear)

    pub told-party : (p : Party) → Contains after.parties p ↔ (Contains state.parties p × IsFalse (party_meets airport delay p))
    told-party p =
        subst (λ d. Contains after.parties p ↔ (Contains state.parties p × IsFalse (party_meets airport d p))) one-delay
        (repaired-party airport state done.delay sound done.meetings done.tells after is-late done.repaired p)
