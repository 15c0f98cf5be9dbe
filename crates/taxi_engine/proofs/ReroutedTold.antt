-- What was found for a flight in force and is told, and the flight on its other route.
use Rattle.std.proofs.Common.{◌≡◌, ◌∙◌, ℕ, List, Option, Some, None, Ok, Err, refl, sym, ap, subst, inl, inr}
use Rattle.std.specs.Prelude.{◌⊎◌, Result, All, MatchOption, IfSome, IsSomeAnd, IsOkUnless}
use Rattle.std.specs.Option.{option_and_then}
use Rattle.std.proofs.lemmas.List.Elements.{All-contains}
use Rattle.taxi_base.specs.declared.numbers.Node.{Node}
use Rattle.taxi_base.specs.declared.rows.Step.{Step}
use Rattle.taxi_base.specs.declared.rows.LabelRow.{LabelRow}
use Rattle.taxi_base.specs.declared.answers.Request.{Request}
use Rattle.taxi_base.specs.declared.answers.Request.TheVariants as request
use Rattle.taxi_base.specs.declared.answers.Flight.{Flight}
use Rattle.taxi_base.specs.declared.answers.Found.{Found}
use Rattle.taxi_base.specs.declared.answers.Found.TheVariants as found
use Rattle.taxi_base.specs.declared.answers.Refusal.{Refusal}
use Rattle.taxi_base.specs.declared.answers.Refusal.TheVariants as refusal
use Rattle.taxi_base.specs.Airport.{Airport, IsWellFormed}
use Rattle.taxi_base.specs.Walks.{IsFeasibleWalk, Meets}
use Rattle.taxi_base.specs.State.{State, flight_named, with_flight, with_route, without, holds_in, conditions_of, IsSound}
use Rattle.taxi_base.specs.Again.{retargeted}
use Rattle.taxi_base.proofs.FlightNames.{find-named}
use Rattle.taxi_base.proofs.StateLaws.{IsSound-with_route}
use Rattle.taxi_base.proofs.WalkLaws.{Meets-IsFeasibleWalk, IsSomeAnd-value}
use Rattle.replies.specs.declared.block.Block.TheVariants.{Route, NoRoute}
use Rattle.replies.specs.Printable.{IsName, HasArc}
use Rattle.replies.specs.CarriedOut.{Reply, second_of, found_reply}
use Rattle.replies.specs.Replies.{HaveNames}
use Rattle.replies.proofs.FlightLaws.{flight_named-there}
use Rattle.replies.proofs.HolderNames.{with_flight-names, without-names}
use Rattle.replies.proofs.FoundLaws.{labels_of, found_again-meets, second-retargeted}
use Rattle.commitments.specs.Book.{Book, Fits, lifted_flight}
use Rattle.reroute.specs.declared.refused.RerouteRefused.{RerouteRefused}
use Rattle.reroute.specs.declared.refused.RerouteRefused.TheVariants as reroute
use Rattle.reroute.specs.Refused.{again_refusal}
use Rattle.reroute.specs.Anew.{IsMeant, IsFoundAnew, IsAsBefore}
use Rattle.taxi_engine.specs.Engine.{EngineState}
use Rattle.taxi_engine.specs.Done.{IsDone}
use Rattle.taxi_engine.specs.Routed.{IsToldOrMemory}
use Rattle.taxi_engine.specs.Rerouted.{refusal_told, request_to, IsOnAnother, IsToldAgain}
use Rattle.taxi_engine.proofs.RouteLaws.{label-arcs_again}

-- ---- flights by their names

-- a flight in force does what it asked for
pub flight-meets : (airport : Airport) (state : State) → IsSound airport state → (name : List ℕ) (flight : Flight) → flight_named name state.flights ≡ Some flight
    → Meets (conditions_of airport state flight) flight.request flight.steps
flight-meets airport state sound name flight there =
    All-contains (λ f. Meets (conditions_of airport state f) f.request f.steps) state.flights flight sound.requests (flight_named-there name state.flights flight there)

-- ---- what was found

-- what was found for the flight of a name
abbrev pub IsFoundFor : Airport → State → List ℕ → ℕ → Option Node → Found → Type 0
IsFoundFor airport state name time to found =
    IsSomeAnd (flight_named name state.flights) (λ flight. IsFoundAnew (conditions_of airport state flight) flight time to found)

-- where something was found nothing is refused
pub found-unrefused : (o : Option RerouteRefused) (found : Found) → MatchOption o (IsOkUnless (Ok found) reroute.Memory) (λ why. ◌≡◌ {A = Result Found RerouteRefused} (Ok found) (Err why)) → o ≡ None
found-unrefused None found h = refl
found-unrefused (Some why) found h = absurd (cc h)

-- the request to the node that is meant
request_to-meant : (to : Option Node) (asked : Request) (target : Node) → IsMeant to asked target → request_to to asked ≡ retargeted asked target
request_to-meant None request.Filed target meant = absurd meant
request_to-meant None (request.Arrival from own time hold) target meant = ap (λ node. request.Arrival from node time hold) meant
request_to-meant None (request.Departure from own time queue) target meant = ap (λ node. request.Departure from node time queue) meant
request_to-meant (Some node) asked target meant = ap (retargeted asked) (sym meant)

module _ (airport : Airport) (state : State) (name : List ℕ) (time : ℕ) (to : Option Node) where
  pub found-arcs : IsWellFormed airport → (found : Found) → IsFoundFor airport state name time to found → All (λ label. HasArc airport label.arc) (labels_of found)
  found-arcs well found is_found =
      let x = IsSomeAnd-value (flight_named name state.flights) (λ flight. IsFoundAnew (conditions_of airport state flight) flight time to found) is_found in
      label-arcs_again airport x.0.class (holds_in airport (without x.0.name state)) well x.0.steps time x.2.target x.0.request found x.2.answers

  module _ (sound : IsSound airport state) (steps : List Step) (labels : List LabelRow) (is_found : IsFoundFor airport state name time to (found.Route steps labels))
      (flight : Flight) (made : IfSome (flight_named name state.flights) (λ f. flight ≡ record f { name = name; request = request_to to f.request; steps = steps })) where
    old : (x : Flight) × (flight_named name state.flights ≡ Some x) × IsFoundAnew (conditions_of airport state x) x time to (found.Route steps labels)
    old = IsSomeAnd-value (flight_named name state.flights) (λ f. IsFoundAnew (conditions_of airport state f) f time to (found.Route steps labels)) is_found

    asked : request_to to old.0.request ≡ retargeted old.0.request old.2.target
    asked = request_to-meant to old.0.request old.2.target old.2.meant

    met : Meets (conditions_of airport state old.0) (retargeted old.0.request old.2.target) steps
    met = found_again-meets (conditions_of airport state old.0) old.0.steps time old.2.target old.0.request steps labels (flight-meets airport state sound name old.0 old.1) old.2.answers

    made_of : flight ≡ record (old.0) { name = name; request = request_to to old.0.request; steps = steps }
    made_of = rw old.1 at made

    pub made-another : IsOnAnother airport state flight
    made-another =
        subst (IsOnAnother airport state) (sym made_of)
        (record { old = old.0; in_force = old.1; class = refl; met = subst (λ (r : Request). Meets (conditions_of airport state old.0) r steps) (sym asked) met })

    -- what is told of it is the reply to what was found
    reply-same : record { block = Route flight.name (second_of flight.request flight.steps) flight.steps labels; after = with_flight flight (without flight.name state) }
        ≡ found_reply state name old.0.request (λ steps. with_route old.0 (retargeted old.0.request old.2.target) steps state) (found.Route steps labels)
    reply-same =
        let named : old.0.name ≡ name = find-named name state.flights old.0 old.1 in
        let same : flight ≡ record (old.0) { request = retargeted old.0.request old.2.target; steps = steps } =
        made_of ∙ (λ i. record (old.0) { name = sym named i; request = asked i; steps = steps }) in
        (λ i. record { block = Route (same i).name (second_of (same i).request (same i).steps) (same i).steps labels; after = with_flight (same i) (without (same i).name state) })
        ∙ (λ i. record {
          block = Route (named i) (second-retargeted old.0.request old.2.target steps i) steps labels;
          after = with_route old.0 (retargeted old.0.request old.2.target) steps state;
        })

module _ (airport : Airport) (state : State) (reply : List ℕ) (new : EngineState) (name : List ℕ) (time : ℕ) (to : Option Node) (none : again_refusal state.flights name time to ≡ None) where
  pub route-told : IsSound airport state → (steps : List Step) (labels : List LabelRow) → IsFoundFor airport state name time to (found.Route steps labels)
      → (flight : Flight) → IfSome (flight_named name state.flights) (λ f. flight ≡ record f { name = name; request = request_to to f.request; steps = steps })
      → IsToldOrMemory (record { block = Route flight.name (second_of flight.request flight.steps) flight.steps labels; after = with_flight flight (without flight.name state) })
      (record { airport = airport; state = state; reply = reply }) new
      → IsToldAgain name time to (record { airport = airport; state = state; reply = reply }) new
  route-told sound steps labels is_found flight made (inr memory) = rw none (inr memory)
  route-told sound steps labels is_found flight made (inl done) =
      let x = old airport state name time to sound steps labels is_found flight made in
      rw none (inl (record {
        flight = x.0;
        target = x.2.target;
        in_force = x.1;
        meant = x.2.meant;
        found = found.Route steps labels;
        answers = x.2.answers;
        done = subst (λ (r : Reply). IsDone r (record { airport = airport; state = state; reply = reply }) new)
            (reply-same airport state name time to sound steps labels is_found flight made) done;
      }))

  pub no_route-told : (labels : List LabelRow) → IsFoundFor airport state name time to (found.NoRoute labels)
      → IsToldOrMemory (record { block = NoRoute labels; after = state }) (record { airport = airport; state = state; reply = reply }) new
      → IsToldAgain name time to (record { airport = airport; state = state; reply = reply }) new
  no_route-told labels is_found (inr memory) = rw none (inr memory)
  no_route-told labels is_found (inl done) =
      let x = IsSomeAnd-value (flight_named name state.flights) (λ f. IsFoundAnew (conditions_of airport state f) f time to (found.NoRoute labels)) is_found in
      rw none (inl (record { flight = x.0; target = x.2.target; in_force = x.1; meant = x.2.meant; found = found.NoRoute labels; answers = x.2.answers; done = done }))

-- ---- a flight that is put on another route

module _ (airport : Airport) (state : State) (flight : Flight) (another : IsOnAnother airport state flight) where
  -- it is the one that is lifted
  pub lifted-old : (book : Book) → book.lifted ≡ Some flight.name → book.state ≡ state → lifted_flight book ≡ Some another.old
  lifted-old book lifted same =
      ap (option_and_then (λ (name : List ℕ). flight_named name book.state.flights)) lifted ∙ ap (λ (s : State). flight_named flight.name s.flights) same ∙ another.in_force

  pub another-feasible : IsFeasibleWalk (conditions_of airport state another.old) flight.steps
  another-feasible = Meets-IsFeasibleWalk (conditions_of airport state another.old) flight.request flight.steps another.met

  -- with it the state is that with another route
  pub another-after : with_route another.old flight.request flight.steps state ≡ with_flight flight (without flight.name state)
  another-after =
      let named : another.old.name ≡ flight.name = find-named flight.name state.flights another.old another.in_force in
      λ i. with_flight (record { name = named i; class = sym another.class i; request = flight.request; steps = flight.steps }) (without (named i) state)

  pub another-sound : IsSound airport state → IsSound airport (with_route another.old flight.request flight.steps state)
  another-sound sound =
      IsSound-with_route airport another.old state flight.request flight.steps sound (flight_named-there flight.name state.flights another.old another.in_force) another.met

  pub another-names : HaveNames state → HaveNames (with_route another.old flight.request flight.steps state)
  another-names names =
      with_flight-names (record (another.old) { request = flight.request; steps = flight.steps }) (without another.old.name state)
      (All-contains (λ f. IsName f.name) state.flights another.old names.0 (flight_named-there flight.name state.flights another.old another.in_force))
      (without-names another.old.name state names)

-- ---- where it is refused, and what stays

-- what an engine keeps holds of a ledger that is as before
pub as-before-kept : (airport : Airport) (before after : Book) → IsAsBefore airport before after → IsSound airport before.state → HaveNames before.state
    → IsSound airport after.state × Fits airport after × HaveNames after.state × (after.lifted ≡ None)
as-before-kept airport before after as_before sound names = (
  subst (λ (s : State). IsSound airport s) (sym as_before.state) sound,
  as_before.fits,
  subst (λ (s : State). HaveNames s) (sym as_before.state) names,
  as_before.unlifted,
)

same-err : (a b : RerouteRefused) → ◌≡◌ {A = Result Found RerouteRefused} (Err a) (Err b) → a ≡ b
same-err a b e = cc

-- a search that fails tells the refusal that is due, or that memory ran out
pub refused-told : (X : Type 0) (due : Option RerouteRefused) (why : RerouteRefused) (Told : Refusal → Type 0)
    → MatchOption due (why ≡ reroute.Memory) (λ w. ◌≡◌ {A = Result Found RerouteRefused} (Err why) (Err w)) → Told (refusal_told why)
    → MatchOption due (X ⊎ Told refusal.Memory) (λ w. Told (refusal_told w))
refused-told X None why Told is told = inr (subst (λ (w : RerouteRefused). Told (refusal_told w)) is told)
refused-told X (Some w) why Told is told = subst (λ (w : RerouteRefused). Told (refusal_told w)) (same-err why w is) told
