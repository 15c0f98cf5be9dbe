-- The searches of a block that answers a late flight: one for each entry that is not dropped, from the state on in which those in the
-- way have given way at once.
use Rattle.std.proofs.Common.{◌≡◌, ◌∙◌, ℕ, ◌+◌, ◌<◌, ◌≤◌, cond, Bool, true, List, [], ◌∷◌, ◌++◌, length, IsTrue, IsFalse, Option, Some, None, refl, sym, ap, subst, arith, inl, inr, bytes_eq}
use Rattle.std.specs.Prelude.{All, Contains, option_and_then, flat_map}
use Rattle.std.specs.Option.{option_map_or}
use Rattle.std.proofs.lemmas.Bool.{cases_Bool}
use Rattle.std.proofs.lemmas.List.Elements.{All-contains}
use Rattle.taxi_base.specs.declared.rows.Step.{Step}
use Rattle.taxi_base.specs.declared.answers.Flight.{Flight}
use Rattle.taxi_base.specs.declared.answers.Found.TheVariants as found
use Rattle.taxi_base.specs.declared.answers.Request.{Request}
use Rattle.taxi_base.specs.declared.answers.Request.TheVariants as request
use Rattle.taxi_base.specs.Airport.{Airport, IsWellFormed, layout_of}
use Rattle.taxi_base.specs.Walks.{Conditions, IsFeasibleWalk, AtFirst, LeavesNodeWithin, Meets, end_of}
use Rattle.taxi_base.specs.State.{State, flight_named, without, holds_in, conditions_of, step_begun, IsSound}
use Rattle.taxi_base.specs.Late.{Delay, is_late, soonest_leave, steps_kept, request_sought, time_sought, IsWalkSought, request_routed, after_turn, IsTurnOf, base_state}
use Rattle.taxi_base.proofs.KeptSteps.{about-kept, walk-about}
use Rattle.taxi_base.proofs.WalkLaws.{end_of-push, Meets-IsFeasibleWalk}
use Rattle.taxi_base.proofs.TurnLaws.{BeginsAsAsked, routed-meets, IsAmid, kept-walk, out-amid, route-amid}
use Rattle.taxi_base.proofs.LateLaws.{turn-amid}
use Rattle.taxi_text.specs.declared.command.Command.{Command}
use Rattle.taxi_text.specs.declared.command.Command.TheVariants as command
use Rattle.taxi_text.specs.Commands.{command_of}
use Rattle.walk_labels.specs.Places.{AreFit}
use Rattle.walk_labels.proofs.FitConditions.{among_fit}
use Rattle.replies.specs.declared.block.Block.TheVariants.{Late}
use Rattle.replies.specs.declared.entries.Entry.{Entry}
use Rattle.replies.specs.Refusals.{is_filed}
use Rattle.replies.specs.Repairs.{delay_of, way_sought, floor_sought, sought_on, sought_late, sought_at_turn, is_dropped}
use Rattle.replies.specs.Sought.{Sought, IsWalkFor}
use Rattle.replies.specs.Turns.{sought_for, tellings_of, begins_for, in_turns, turns_for, turns_of, begins_of}
use Rattle.replies.proofs.TablesKept.{IsUnderWay, HasFloorOf, IsBefore}
use Rattle.replies.proofs.RightSearches.{IsSearched}
use Rattle.replies.proofs.EntryTurns.{turns_from}

-- ---- what is sought, and from which state on

module _ (airport : Airport) (before : State) (name : List ℕ) (time until : ℕ) (delay : Delay) (known : delay_of before name time until ≡ Some delay) where
  pub late-sought : (state : State) (who : List ℕ) (flight : Flight) → flight_named who before.flights ≡ Some flight → IsFalse (is_filed flight.request)
      → sought_for airport before (command.Late name time until) who state ≡ Some (sought_late airport delay flight state)
  late-sought state who flight named asked =
      ap (λ (o : Option Delay). option_and_then (λ d. sought_at_turn airport d before who state) o) known
      ∙ ap (λ (o : Option Flight). option_and_then (λ f. cond (is_filed f.request) None (Some (sought_late airport delay f state))) o) named
      ∙ ap (λ (b : Bool). cond b None (Some (sought_late airport delay flight state))) asked

  module _ (line : List ℕ) (read : command_of line ≡ Some (command.Late name time until)) (flight : List ℕ) (entries : List (List ℕ × Entry)) where
    pub late-begins : begins_of airport before line (Late flight entries) ≡ base_state airport before delay
    late-begins =
        ap (λ (o : Option Command). option_map_or (λ c. begins_for airport before c (Late flight entries)) o before) read
        ∙ ap (λ (o : Option Delay). option_map_or (base_state airport before) o before) known

    pub late-turns : turns_of airport before line (Late flight entries) ≡ turns_from airport before (command.Late name time until) (base_state airport before delay) entries
    late-turns =
        ap (λ (o : Option Command). option_map_or (λ c. turns_for airport before c (Late flight entries)) o []) read
        ∙ ap (λ (o : Option Delay). in_turns (option_map_or (base_state airport before) o before) (flat_map (tellings_of airport before (command.Late name time until)) entries)) known

-- ---- who is dropped

-- a flight that is not to be dropped is in force, and asked for something
pub asked-flight : (state : State) (name : List ℕ) → IsFalse (is_dropped state name) → (flight : Flight) × (flight_named name state.flights ≡ Some flight) × IsFalse (is_filed flight.request)
asked-flight state name kept = go (flight_named name state.flights) refl kept where
  go : (o : Option Flight) → flight_named name state.flights ≡ o → IsFalse (option_map_or (λ flight. is_filed flight.request) o true)
      → (flight : Flight) × (flight_named name state.flights ≡ Some flight) × IsFalse (is_filed flight.request)
  go None e h = absurd (cc h)
  go (Some flight) e h = (flight, e, h)

filed-is : (asked : Request) → IsTrue (is_filed asked) → asked ≡ request.Filed
filed-is request.Filed h = refl
filed-is (request.Arrival from to asked hold) h = absurd (cc h)
filed-is (request.Departure from to asked queue) h = absurd (cc h)

-- to drop a holder is its turn
dropped-turn : (airport : Airport) (delay : Delay) (state : State) (name : List ℕ) (now : State) → IsTrue (is_dropped state name) → IsTurnOf airport delay state name now None now
dropped-turn airport delay state name now dropped = go (flight_named name state.flights) refl dropped where
  go : (o : Option Flight) → flight_named name state.flights ≡ o → IsTrue (option_map_or (λ flight. is_filed flight.request) o true) → IsTurnOf airport delay state name now None now
  go None e h = rw e (refl, refl)
  go (Some flight) e h = rw e (filed-is flight.request h, refl)

-- ---- what is kept of steps

-- The steps up to the one that was begun by the time, which is not left before the second from which on a walk is sought.
pub record IsKeptAbout (airport : Airport) (delay : Delay) (x : Flight) : Type 0 where
  pub front : List Step
  pub begun : Step
  pub back : List Step
  pub leave : ℕ
  pub steps_are : x.steps ≡ front ++ begun ∷ back
  pub kept_are : steps_kept airport delay x ≡ front ++ record begun { leave = leave } ∷ []
  pub not_before : time_sought delay x ≤ leave

pub kept-about : (airport : Airport) (delay : Delay) (x : Flight) (c : Conditions) → IsFeasibleWalk c x.steps → 0 < length (steps_kept airport delay x) → IsKeptAbout airport delay x
kept-about airport delay x c walk some = go (step_begun delay.time x.steps) refl where
  go : (o : Option Step) → step_begun delay.time x.steps ≡ o → IsKeptAbout airport delay x
  go None e = absurd (omega (arith, some, none)) where
    none : length (steps_kept airport delay x) ≡ 0
    none = elim (cases_Bool (is_late delay x)) [ inl late ↦ rw (late, e) refl | inr other ↦ rw (other, e) refl ]
  go (Some begun) e =
      let about = walk-about c delay.time x.steps begun walk e in
      elim (cases_Bool (is_late delay x)) [
        | inl late ↦ record {
          front = about.0;
          begun = begun;
          back = about.1;
          leave = delay.until;
          steps_are = about.2.joined;
          kept_are = rw late (about-kept delay.time x.steps about.0 begun about.1 about.2 (λ _. delay.until));
          not_before = rw late (omega arith);
        }
        | inr other ↦ record {
          front = about.0;
          begun = begun;
          back = about.1;
          leave = soonest_leave airport x.class delay.time begun;
          steps_are = about.2.joined;
          kept_are = rw other (about-kept delay.time x.steps about.0 begun about.1 about.2 (soonest_leave airport x.class delay.time));
          not_before = rw other (omega arith);
        }
      ]

kept-ends : (airport : Airport) (delay : Delay) (x : Flight) (c : Conditions) → IsFeasibleWalk c x.steps → 0 < length (steps_kept airport delay x)
    → time_sought delay x ≤ end_of (steps_kept airport delay x)
kept-ends airport delay x c walk some =
    let about = kept-about airport delay x c walk some in
    let last : end_of (steps_kept airport delay x) ≡ about.leave = ap end_of about.kept_are ∙ end_of-push about.front (record about.begun { leave = about.leave }) in
    omega (arith, about.not_before, last)

first-kept : (P : Step → Type 0) (front : List Step) (begun : Step) (back : List Step) (leave : ℕ) → (P begun → P (record begun { leave = leave })) → AtFirst P (front ++ begun ∷ back)
    → AtFirst P (front ++ record begun { leave = leave } ∷ [])
first-kept P [] begun back leave change h = change h
first-kept P (f ∷ front) begun back leave change h = h

-- ---- the turn of a flight, while it and others wait

module _ (airport : Airport) (well : IsWellFormed airport) (state : State) (delay : Delay) (sound : IsSound airport state) (now : State) (name : List ℕ) (names : List (List ℕ))
    (amid : IsAmid airport state delay now (name ∷ names)) (once : All (λ n. IsFalse (bytes_eq n name)) names) where
  -- a holder that is dropped waits no longer
  pub dropped-amid : IsTrue (is_dropped state name) → IsAmid airport state delay now names
  dropped-amid dropped = turn-amid airport state delay sound now name names None now amid once (dropped-turn airport delay state name now dropped)

  module _ (x : Flight) (there : Contains state.flights x) (named_so : x.name ≡ name) where
    abbrev kept : List Step
    kept = steps_kept airport delay x

    abbrev c : Conditions
    c = conditions_of airport now x

    abbrev from_on : ℕ
    from_on = time_sought delay x

    abbrev wanted : Request
    wanted = request_sought x.request kept

    abbrev s : Sought
    s = sought_late airport delay x now

    met : Meets (conditions_of airport state x) x.request x.steps
    met = All-contains (λ f. Meets (conditions_of airport state f) f.request f.steps) state.flights x sound.requests there

    old-walk : IsFeasibleWalk (conditions_of airport state x) x.steps
    old-walk = Meets-IsFeasibleWalk (conditions_of airport state x) x.request x.steps met

    pub turn-fit : AreFit c
    turn-fit = among_fit airport x.class (holds_in airport (without x.name now)) well

    pub turn-walk : 0 < length kept → IsFeasibleWalk c kept
    turn-walk = kept-walk airport state delay sound now name names amid once x there named_so

    pub turn-before : (r : Request) → IsBefore kept from_on r
    turn-before request.Filed = tt
    turn-before (request.Arrival from to asked hold) = kept-ends airport delay x (conditions_of airport state x) old-walk
    turn-before (request.Departure from to asked queue) = tt

    way-right : (r : Request) → IsUnderWay c [] (way_sought r kept from_on)
    way-right request.Filed = (refl, turn-walk)
    way-right (request.Arrival from to asked hold) = (refl, turn-walk)
    way-right (request.Departure from to asked queue) = tt

    floor-right : (r : Request) → HasFloorOf r (floor_sought r from_on)
    floor-right request.Filed = refl
    floor-right (request.Arrival from to asked hold) = refl
    floor-right (request.Departure from to asked queue) = tt

    pub turn-searched : IsSearched s
    turn-searched = record { fit = turn-fit; way = way-right wanted; floor = floor-right wanted }

    -- the walks that are sought are those of the turn
    pub walk-for : (r : Request) (steps : List Step) → IsWalkSought c r kept from_on steps → IsWalkFor (sought_on airport now x kept r from_on) steps
    walk-for request.Filed steps sought = absurd sought
    walk-for (request.Arrival from to asked hold) steps sought = sought
    walk-for (request.Departure from to asked queue) steps sought = sought

    pub for-walk : (r : Request) (steps : List Step) → IsWalkFor (sought_on airport now x kept r from_on) steps → IsWalkSought c r kept from_on steps
    for-walk request.Filed steps sought = absurd sought
    for-walk (request.Arrival from to asked hold) steps sought = sought
    for-walk (request.Departure from to asked queue) steps sought = sought

    -- what is kept begins as the flight asked
    kept-asked : 0 < length kept → BeginsAsAsked c x.request kept
    kept-asked some = go x.request met where
      about : IsKeptAbout airport delay x
      about = kept-about airport delay x (conditions_of airport state x) old-walk some

      go : (r : Request) → Meets (conditions_of airport state x) r x.steps → BeginsAsAsked c r kept
      go request.Filed met_so = tt
      go (request.Departure from to time queue) met_so = tt
      go (request.Arrival from to time hold) met_so =
          let P : Step → Type 0 = LeavesNodeWithin (layout_of airport) from time (time + hold) in
          subst (AtFirst P) (sym about.kept_are)
          (first-kept P about.front about.begun about.back about.leave (λ h. record { leaves = h.leaves; not_before = h.not_before; not_after = h.not_after })
          (subst (AtFirst P) about.steps_are met_so.begins))

    -- with a walk that is sought, or with none, the others wait on
    pub walk-amid : (steps : List Step) → IsWalkFor s steps → IsAmid airport state delay (s.with_steps steps) names
    walk-amid steps sought =
        route-amid airport state delay sound now name names amid once x there named_so (request_routed x.request kept) steps
        (routed-meets c x.request kept from_on steps kept-asked (for-walk wanted steps sought))

    pub none-amid : IsAmid airport state delay s.with_none names
    none-amid = go kept refl where
      go : (ks : List Step) → kept ≡ ks → IsAmid airport state delay (after_turn now x ks (found.NoRoute [])) names
      go [] is = out-amid airport state delay sound now name names amid once x there named_so
      go (k ∷ ks) is =
          route-amid airport state delay sound now name names amid once x there named_so request.Filed (k ∷ ks)
          (subst (IsFeasibleWalk c) is (turn-walk (subst (λ us. 0 < length us) (sym is) (omega arith))))
