-- Flights that are routed anew among the others.
use Rattle.std.proofs.Common.{◌≡◌, ◌∙◌, ℕ, ◌≤◌, Bool, true, false, List, [], ◌∷◌, Option, Some, None, inl, inr, is_some, IsTrue, IsFalse, refl, sym, ap, subst, arith}
use Rattle.std.specs.Prelude.{Result, Ok, Err, is_err, IfSome, IsSome, All, bytes_eq}
use Rattle.std.specs.Cmp.Lexicographic.{bytes_decides}
use Rattle.std.proofs.lemmas.Bool.{cases_Bool, cond_both, or_parts, true≢false}
use Rattle.taxi_base.specs.declared.rows.Step.{Step as Leg}
use Rattle.taxi_base.specs.declared.answers.Flight.{Flight}
use Rattle.taxi_base.specs.declared.answers.Request.{Request}
use Rattle.taxi_base.specs.Airport.{Airport, IsWellFormed, layout_of, arc_exists}
use Rattle.taxi_base.specs.Walks.{Conditions, conditions_among, Meets}
use Rattle.taxi_base.specs.State.{State, name_precedes, flight_named, party_named, flights_with, flights_without, flight_holds, has_holder, with_flight, without, with_route, holds_in, conditions_of, IsSound}
use Rattle.taxi_base.proofs.StateLaws.{IsSound-with_route}
use Rattle.taxi_base.proofs.FlightNames.{find-named}
use Rattle.taxi_base.proofs.NameLaws.{none_left}
use Rattle.taxi_base.proofs.WalkLaws.{IsFeasibleWalk-steps}
use Rattle.replies.specs.Sought.{Sought, sought_again}
use Rattle.replies.proofs.FlightLaws.{flight_named-there}
use Rattle.replies.proofs.FoundLaws.{step-enter}
use Rattle.held_spans.specs.declared.spans.HeldSpans.{HeldSpans}
use Rattle.held_spans.specs.Spans.{AreSpansOf, holds_in_lists}
use Rattle.due_refusals.proofs.HeldLaws.{same-conditions, more-with}
use Rattle.checked_state.proofs.PlaceLaws.{if-some}
use Rattle.check_rows.specs.Known.{HaveMore}
use Rattle.check_walks.specs.Told.{Seeks}
use Rattle.certificate_check.proofs.DeskLaws.{flight-walk, flight-arcs, flight-alone}

-- the steps of a flight in force are entered early
pub flight-early : (airport : Airport) (state : State) → IsWellFormed airport → (sound : IsSound airport state) (name : List ℕ) (flight : Flight) → flight_named name state.flights ≡ Some flight
    → All (λ step. step.enter ≤ 9999999) flight.steps
flight-early airport state well sound name flight found k d low =
    let c : Conditions = conditions_of airport state flight in
    let made = IsFeasibleWalk-steps c flight.steps (flight-walk airport state sound name flight found) k d low in
    omega (arith, step-enter c _ made, well.horizon.1)

pub one-flight : (name : List ℕ) (flights : List Flight) (f g : Flight) → flight_named name flights ≡ Some f → flight_named name flights ≡ Some g → f ≡ g
one-flight name flights f g a b = cc (sym a ∙ b)

-- what is sought of the flight among the others is sought so among their spans
pub among-spans : (airport : Airport) (state : State) (name : List ℕ) (f : Flight) → flight_named name state.flights ≡ Some f → (spans : HeldSpans) → AreSpansOf (holds_in airport (without name state)) spans
    → (steps : List Leg) → steps ≡ f.steps → (time : ℕ) (request : Request) (g : Flight) → flight_named name state.flights ≡ Some g
    → (s : Sought) → Seeks (conditions_of airport state g) request [] (Some (record { steps = g.steps; time = time })) s
    → Seeks (conditions_among airport f.class (holds_in_lists spans)) request [] (Some (record { steps = steps; time = time })) s
among-spans airport state name f found spans has steps are time request g there s seeks =
    let is : g ≡ f = one-flight name state.flights g f there found in
    let named : f.name ≡ name = find-named name state.flights f found in
    let those : conditions_of airport state g ≡ conditions_among airport f.class (holds_in_lists spans) =
    ap (conditions_of airport state) is ∙ ap (λ n. conditions_among airport f.class (holds_in airport (without n state))) named
    ∙ sym (same-conditions airport f.class spans (holds_in airport (without name state)) has) in
    let same_steps : g.steps ≡ steps = ap (λ (h : Flight). h.steps) is ∙ sym are in
    record {
      conditions = seeks.conditions ∙ those;
      asked = seeks.asked;
      nodes = seeks.nodes;
      under_way = seeks.under_way ∙ (λ i. Some (record { steps = same_steps i; time = time }));
      floor = seeks.floor;
    }

-- what is sought again is sought so
pub again-seeks : (airport : Airport) (state : State) (name : List ℕ) (time : ℕ) (may_be_none : Bool) (flight : Flight) (request : Request)
    → Seeks (conditions_of airport state flight) request [] (Some (record { steps = flight.steps; time = time })) (sought_again airport state name time may_be_none flight request)
again-seeks airport state name time may_be_none flight request = record { conditions = refl; asked = refl; nodes = refl; under_way = refl; floor = refl }

-- an answer that is an error, and one that is none
pub never-ok : {E : Type 0} (r : Result Unit E) → is_err r ≡ true → (done : Unit) → r ≡ Ok done → ⊥
never-ok (Ok x) err done is = cc err
never-ok (Err x) err done is = cc is

pub ok-there : {E : Type 0} (r : Result Unit E) → is_err r ≡ false → r ≡ Ok tt
ok-there (Ok x) err = refl
ok-there (Err x) err = absurd (cc err)

-- ---- the flight that is routed anew

pub some-there : {A : Type 0} (o : Option A) → IsSome o → (x : A) × (o ≡ Some x)
some-there None some = absurd (cc some)
some-there (Some x) some = (x, refl)

-- a flight is found by its name among those that it has joined
pub named-with : (x : Flight) (flights : List Flight) → IsFalse (is_some (flight_named x.name flights)) → flight_named x.name (flights_with x flights) ≡ Some x
named-with x [] none = rw ((bytes_decides x.name x.name).1 refl) refl
named-with x (y ∷ ys) none =
    cond_both (name_precedes x.name y.name) (x ∷ y ∷ ys) (y ∷ flights_with x ys) (λ l. flight_named x.name l ≡ Some x) (λ _. rw ((bytes_decides x.name x.name).1 refl) refl)
    (λ _. elim (cases_Bool (bytes_eq y.name x.name)) [ inl here ↦ absurd (true≢false (rw here at none)) | inr other ↦ rw other (named-with x ys (rw other at none)) ])

-- a flight that goes in is found by its name then
pub with-there : (state : State) (flight : Flight) → has_holder flight.name state ≡ false → flight_named flight.name (with_flight flight state).flights ≡ Some flight
with-there state flight absent = named-with flight state.flights (or_parts (is_some (party_named flight.name state.parties)) (is_some (flight_named flight.name state.flights)) absent).1

module _ (airport : Airport) (state : State) (sound : IsSound airport state) (name : List ℕ) where
  pub force-arcs : IfSome (flight_named name state.flights) (λ flight. All (λ step. IsTrue (arc_exists (layout_of airport) step.arc)) flight.steps)
  force-arcs = if-some (flight_named name state.flights) _ (λ flight found. flight-arcs airport state sound name flight found)

  -- no party has the name of a flight
  pub force-alone : IsSome (flight_named name state.flights) → party_named name state.parties ≡ None
  force-alone some = let flight = some-there (flight_named name state.flights) some in flight-alone airport state sound name flight.0 flight.1

module _ (airport : Airport) (state lifted : State) (is : lifted ≡ state) (sound : IsSound airport state) (name : List ℕ) where
  module _ (flight : Flight) (found : flight_named name state.flights ≡ Some flight) (request : Request) (steps : List Leg) (met : Meets (conditions_of airport state flight) request steps) where
    pub again-sound : IsSound airport (with_route flight request steps state)
    again-sound = IsSound-with_route airport flight state request steps sound (flight_named-there name state.flights flight found) met

    -- what the call did, by the state before
    pub again-after : (new : State) → IfSome (flight_named name lifted.flights) (λ flight. new ≡ with_route flight request steps lifted) → new ≡ with_route flight request steps state
    again-after new did =
        let there : flight_named name lifted.flights ≡ Some flight = ap (λ (s : State). flight_named name s.flights) is ∙ found in
        (rw there at did) ∙ ap (with_route flight request steps) is

-- what is held with the new steps
pub again-more : (airport : Airport) (state : State) (name : List ℕ) (flight : Flight) → flight_named name state.flights ≡ Some flight → (request : Request) (steps : List Leg)
    → HaveMore (flight_holds airport (record flight { request = request; steps = steps })) (holds_in airport (without name state)) (holds_in airport (with_route flight request steps state))
again-more airport state name flight found request steps =
    subst (λ n. HaveMore (flight_holds airport (record flight { request = request; steps = steps })) (holds_in airport (without n state)) (holds_in airport (with_route flight request steps state)))
    (find-named name state.flights flight found)
    (more-with airport (record flight { request = request; steps = steps }) (without flight.name state))

-- the flight that is found there then
pub again-there : (state : State) (name : List ℕ) (flight : Flight) → flight_named name state.flights ≡ Some flight → (request : Request) (steps : List Leg)
    → flight_named name (with_route flight request steps state).flights ≡ Some (record flight { request = request; steps = steps })
again-there state name flight found request steps =
    subst (λ n. flight_named n (with_route flight request steps state).flights ≡ Some (record flight { request = request; steps = steps })) (find-named name state.flights flight found)
    (named-with (record flight { request = request; steps = steps }) (flights_without flight.name state.flights) (none_left (λ (f : Flight). f.name) flight.name state.flights))
