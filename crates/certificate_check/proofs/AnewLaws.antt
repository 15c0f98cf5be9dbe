-- Commands that route a flight in force anew, where nothing is refused.
use Rattle.std.proofs.Common.{◌≡◌, ◌∙◌, ℕ, Bool, true, false, List, [], ◌∷◌, Option, Some, None, refl, sym, ap, subst}
use Rattle.taxi_base.specs.declared.numbers.Node.{Node}
use Rattle.taxi_base.specs.declared.rows.Step.{Step as Leg}
use Rattle.taxi_base.specs.declared.answers.Flight.{Flight}
use Rattle.taxi_base.specs.declared.answers.Refusal.{Refusal}
use Rattle.taxi_base.specs.declared.answers.Request.{Request}
use Rattle.taxi_base.specs.declared.answers.Request.TheVariants as request
use Rattle.taxi_base.specs.Airport.{Airport, node_named, is_stand, is_of_kind}
use Rattle.taxi_base.specs.Walks.{Conditions, Meets}
use Rattle.taxi_base.specs.State.{State, flight_named, conditions_of, IsSound}
use Rattle.taxi_base.specs.Again.{retargeted}
use Rattle.taxi_base.proofs.AgainLaws.{frozen-meets}
use Rattle.taxi_text.specs.declared.command.Command.TheVariants as command
use Rattle.replies.specs.Sought.{IsWalkOnFor, sought_again, sought_of}
use Rattle.replies.specs.Refusals.{is_filed, is_departure, refused_if, first_of, not_routed, not_arrival, already_done, already_moving, first_refusal}
use Rattle.replies.proofs.RefusalLaws.{none-first, none-others}
use Rattle.std.proofs.lemmas.List.Elements.{All-contains}
use Rattle.replies.proofs.FlightLaws.{flight_named-there}
use Rattle.check_walks.specs.Told.{CanBeSought}
use Rattle.certificate_check.specs.Desk.{CanGoOn}

-- a test that refuses nothing fails
unrefused : (b : Bool) (why : Refusal) → refused_if b why ≡ None → b ≡ false
unrefused true why e = absurd (cc e)
unrefused false why e = refl

pub goes-sought : (airport : Airport) (r : Request) → CanGoOn airport r → is_filed r ≡ false → CanBeSought airport r
goes-sought airport request.Filed can routed = absurd (cc routed)
goes-sought airport (request.Arrival from to time hold) can routed = can
goes-sought airport (request.Departure from to time queue) can routed = can

pub retargeted-sought : (airport : Airport) (r : Request) (target : Node) → CanGoOn airport r → is_filed r ≡ false → is_departure r ≡ false → CanBeSought airport (retargeted r target)
retargeted-sought airport request.Filed target can routed arrives = absurd (cc routed)
retargeted-sought airport (request.Arrival from to time hold) target can routed arrives = can
retargeted-sought airport (request.Departure from to time queue) target can routed arrives = absurd (cc arrives)

pub routed-first : (flight : Flight) (rest : List (Option Refusal)) → first_of (not_routed flight ∷ rest) ≡ None → is_filed flight.request ≡ false
routed-first flight rest e = unrefused (is_filed flight.request) _ (none-first (not_routed flight) rest e)

pub arrival-second : (flight : Flight) (rest : List (Option Refusal)) → first_of (not_routed flight ∷ not_arrival flight ∷ rest) ≡ None → is_departure flight.request ≡ false
arrival-second flight rest e = unrefused (is_departure flight.request) _ (none-first (not_arrival flight) rest (none-others (not_routed flight) (not_arrival flight ∷ rest) e))

-- ---- the walks that are meant

own : (c : Conditions) (old : List Leg) (time : ℕ) (r : Request) → Meets c r old → (steps : List Leg) → IsWalkOnFor c r (record { steps = old; time = time }) steps → Meets c r steps
own c old time request.Filed met steps on = absurd on
own c old time (request.Arrival from to asked hold) met steps on = frozen-meets c old time to (request.Arrival from to asked hold) steps met on
own c old time (request.Departure from to asked queue) met steps on = frozen-meets c old time to (request.Departure from to asked queue) steps met on

other : (c : Conditions) (old : List Leg) (time : ℕ) (r : Request) (target : Node) → Meets c r old → (steps : List Leg) → IsWalkOnFor c (retargeted r target) (record { steps = old; time = time }) steps → Meets c (retargeted r target) steps
other c old time request.Filed target met steps on = absurd on
other c old time (request.Arrival from to asked hold) target met steps on = frozen-meets c old time target (request.Arrival from to asked hold) steps met on
other c old time (request.Departure from to asked queue) target met steps on = frozen-meets c old time target (request.Departure from to asked queue) steps met on

module _ (airport : Airport) (state : State) (sound : IsSound airport state) (name : List ℕ) (f : Flight) (found : flight_named name state.flights ≡ Some f) where
  met-of : (g : Flight) → flight_named name state.flights ≡ Some g → Meets (conditions_of airport state g) g.request g.steps
  met-of g there = All-contains (λ h. Meets (conditions_of airport state h) h.request h.steps) state.flights g sound.requests (flight_named-there name state.flights g there)

  one-request : (g : Flight) → flight_named name state.flights ≡ Some g → f.request ≡ g.request
  one-request g there = ap (λ (h : Flight). h.request) (same (sym found ∙ there)) where
    same : {x y : Flight} → Some x ≡ Some y → x ≡ y
    same e = cc

  pub own-meant : (time : ℕ) (g : Flight) → flight_named name state.flights ≡ Some g → (steps : List Leg) → IsWalkOnFor (conditions_of airport state g) f.request (record { steps = g.steps; time = time }) steps
      → Meets (conditions_of airport state g) f.request steps
  own-meant time g there steps on =
      let met = subst (λ r. Meets (conditions_of airport state g) r g.steps) (sym (one-request g there)) (met-of g there) in own (conditions_of airport state g) g.steps time f.request met steps on

  pub other-meant : (time : ℕ) (target : Node) (g : Flight) → flight_named name state.flights ≡ Some g → (steps : List Leg)
      → IsWalkOnFor (conditions_of airport state g) (retargeted f.request target) (record { steps = g.steps; time = time }) steps → Meets (conditions_of airport state g) (retargeted f.request target) steps
  other-meant time target g there steps on =
      let met = subst (λ r. Meets (conditions_of airport state g) r g.steps) (sym (one-request g there)) (met-of g there) in
      other (conditions_of airport state g) g.steps time f.request target met steps on

  -- ---- nothing is refused

  pub reroute-none : (time : ℕ) → first_of (not_routed f ∷ already_done time f ∷ already_moving time f ∷ []) ≡ None → first_refusal airport state (command.Reroute name time) ≡ None
  reroute-none time e = rw found e

  pub reroute-sought : (time : ℕ) → sought_of airport state (command.Reroute name time) ≡ Some (sought_again airport state name time false f f.request)
  reroute-sought time = rw found refl

  pub divert-none : (time : ℕ) (node : List ℕ) (target : Node) → node_named airport node ≡ Some target → is_of_kind is_stand airport target ≡ true
      → first_of (not_routed f ∷ not_arrival f ∷ already_done time f ∷ []) ≡ None → first_refusal airport state (command.Divert name time node) ≡ None
  divert-none time node target named stand e = rw (named, stand, found) e

  pub divert-sought : (time : ℕ) (node : List ℕ) (target : Node) → node_named airport node ≡ Some target
      → sought_of airport state (command.Divert name time node) ≡ Some (sought_again airport state name time true f (retargeted f.request target))
  divert-sought time node target named = rw (found, named) refl
