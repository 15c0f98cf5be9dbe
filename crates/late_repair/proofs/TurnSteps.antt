-- One turn: what a flight seeks once it is out, what is found, and what is in force then.
use Rattle.std.proofs.Common.{◌≡◌, ◌∙◌, ℕ, ◌-◌, ◌<◌, ◌≤◌, List, [], ◌∷◌, length, Option, Some, None, sym, ap, subst, arith}
use Rattle.std.specs.Prelude.{IfSome, IfNone, IfOk, OnOk, Result, Ok, Err, is_some}
use Rattle.std.proofs.lemmas.Bool.{or_from}
use Rattle.taxi_base.specs.declared.rows.Step.{Step}
use Rattle.taxi_base.specs.declared.answers.Request.{Request}
use Rattle.taxi_base.specs.declared.answers.Request.TheVariants.{Filed, Arrival, Departure}
use Rattle.taxi_base.specs.declared.answers.Flight.{Flight}
use Rattle.taxi_base.specs.declared.collections.Memory.{Memory}
use Rattle.taxi_base.specs.declared.answers.Found.{Found}
use Rattle.taxi_base.specs.declared.answers.Found.TheVariants.{Route, NoRoute}
use Rattle.taxi_base.specs.Airport.{Airport, layout_of}
use Rattle.taxi_base.specs.Walks.{Conditions, IsFeasibleStep, IsFeasibleWalk, ReachesNodeWithin, Meets, end_of}
use Rattle.taxi_base.specs.State.{State, flight_named, party_named, without, conditions_of}
use Rattle.taxi_base.specs.Faults.{conditions_in}
use Rattle.taxi_base.specs.Late.{Delay, steps_kept, request_sought, time_sought, IsWalkSought, AnswersTurn, after_turn, IsTurnOfFlight}
use Rattle.taxi_base.proofs.WalkLaws.{AtLast-both, IsFeasibleWalk-last}
use Rattle.taxi_base.proofs.TurnLaws.{turn-best, best-one, sought-walk}
use Rattle.replies.specs.declared.entries.Entry.{Entry}
use Rattle.replies.proofs.FlightLaws.{without-none}
use Rattle.replies.specs.Repairs.{entry_told}
use Rattle.commitments.specs.Book.{Book}
use Rattle.late_repair.specs.Repairing.{IsTimely, HasWalk}

-- ---- a flight that is out

-- a flight that is taken out, or was out already, is out
pub out-state : (name : List ℕ) (old new : Book) (taken : Option Flight) → taken ≡ flight_named name old.state.flights → party_named name old.state.parties ≡ None
    → IfSome taken (λ _. new.state ≡ without name old.state) → IfNone taken (new ≡ old) → new.state ≡ without name old.state
out-state name old new (Some x) e no_party some none = some
out-state name old new None e no_party some none =
    ap (λ (b : Book). b.state) none ∙ sym (without-none name old.state (or_from _ _ (ap is_some no_party) (ap is_some (sym e))))

-- ---- what is sought and found

-- what answers a turn is a walk, where it is a route
pub answer-walk : (c : Conditions) (sought : Request) (kept : List Step) (time : ℕ) (found : Found) → (0 < length kept → IsFeasibleWalk c kept) → AnswersTurn c sought kept time found → HasWalk c found
answer-walk c sought kept time (Route steps labels) walk answers =
    sought-walk c sought kept time steps (best-one sought (IsWalkSought c sought kept time) steps (turn-best c sought kept time (Route steps labels) walk answers))
answer-walk c sought kept time (NoRoute labels) walk answers = tt

-- what a flight asked for that has it can be had by the horizon
pub met-timely : (airport : Airport) (c : Conditions) → c.airport ≡ airport → (request : Request) (steps : List Step) → Meets c request steps → IsTimely airport request
met-timely airport c same Filed steps met = tt
met-timely airport c same (Arrival from to time hold) steps met = tt
met-timely airport c same (Departure from to time queue) [] met = absurd met.walk
met-timely airport c same (Departure from to time queue) (s ∷ steps) met =
    AtLast-both (λ l. IsFeasibleStep c l × (s.enter ≤ l.enter) × (end_of (s ∷ steps) ≡ l.leave)) (ReachesNodeWithin (layout_of c.airport) to (time - queue) time)
    (time - queue ≤ airport.horizon) (λ l made reaches. omega (arith, made.0.in_time, reaches.not_before, ap (λ (a : Airport). a.horizon) same)) (s ∷ steps) (IsFeasibleWalk-last c s steps met.walk) met.ends

-- the steps that a flight keeps are a walk among the others also where it is out
pub kept-among : (airport : Airport) (delay : Delay) (flight : Flight) (now mid : State) (kept : List Step) → kept ≡ steps_kept airport delay flight → mid ≡ without flight.name now
    → (0 < length (steps_kept airport delay flight) → IsFeasibleWalk (conditions_of airport now flight) (steps_kept airport delay flight))
    → 0 < length kept → IsFeasibleWalk (conditions_in airport flight.class mid) kept
kept-among airport delay flight now mid kept same out walk some =
    subst (λ s. IsFeasibleWalk (conditions_in airport flight.class s) kept) (sym out)
    (subst (IsFeasibleWalk (conditions_of airport now flight)) (sym same) (walk (subst (λ ks. 0 < length ks) same some)))

-- ---- the turn

-- what is in force then, and what is told, is the turn of the flight
pub turn-of : (airport : Airport) (delay : Delay) (flight : Flight) (now mid next : State) (kept : List Step) (found : Found) (r : Result Entry Memory)
    → kept ≡ steps_kept airport delay flight → mid ≡ without flight.name now
    → AnswersTurn (conditions_in airport flight.class mid) (request_sought flight.request kept) kept (time_sought delay flight) found
    → OnOk r ((at : State) → mid ≡ without flight.name at → next ≡ after_turn at flight kept found)
    → IfOk r (λ entry. entry ≡ entry_told (request_sought flight.request kept) (Some found))
    → IfOk r (λ entry. (told : Option Found) × IsTurnOfFlight airport delay flight now told next × (entry ≡ entry_told (request_sought flight.request (steps_kept airport delay flight)) told))
turn-of airport delay flight now mid next kept found (Err e) same out answers state told = tt
turn-of airport delay flight now mid next kept found (Ok entry) same out answers state told = (
  Some found,
  (
    subst (λ s. AnswersTurn (conditions_in airport flight.class s) (request_sought flight.request (steps_kept airport delay flight)) (steps_kept airport delay flight) (time_sought delay flight) found) out
        (subst (λ ks. AnswersTurn (conditions_in airport flight.class mid) (request_sought flight.request ks) ks (time_sought delay flight) found) same answers),
    subst (λ ks. next ≡ after_turn now flight ks found) same (state now out),
  ),
  subst (λ ks. entry ≡ entry_told (request_sought flight.request ks) (Some found)) same told,
)
