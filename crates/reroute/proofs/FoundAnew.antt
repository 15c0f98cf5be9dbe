-- What answers a flight under way is the best, and no worse than its old route.
use Rattle.std.proofs.Common.{◌≡◌, ℕ, ◌-◌, ◌<◌, ◌≤◌, Bool, true, false, nat_le, if◌then◌else◌, List, [], ◌∷◌, Option, Some, None, Ok, Err, is_some, refl, subst, arith}
use Rattle.std.specs.Prelude.{Result, IfOk, unwrap_or}
use Rattle.std.proofs.lemmas.Bool.Decides.{nat_tests}
use Rattle.taxi_base.specs.declared.numbers.Node.{Node}
use Rattle.taxi_base.specs.declared.rows.Step.{Step}
use Rattle.taxi_base.specs.declared.collections.Memory.{Memory}
use Rattle.taxi_base.specs.declared.answers.Request.{Request}
use Rattle.taxi_base.specs.declared.answers.Request.TheVariants as request
use Rattle.taxi_base.specs.declared.answers.Flight.{Flight}
use Rattle.taxi_base.specs.declared.answers.Found.{Found}
use Rattle.taxi_base.specs.declared.answers.Found.TheVariants.{Route, NoRoute}
use Rattle.taxi_base.specs.Airport.{layout_of}
use Rattle.taxi_base.specs.Walks.{Conditions, IsFeasibleStep, ReachesNodeWithin, Meets, begin_of, end_of}
use Rattle.taxi_base.specs.Again.{IsTarget, MayGoAgain, AnswersAgain, IsBestAgain}
use Rattle.taxi_base.proofs.WalkLaws.{Meets-IsFeasibleWalk, AtLast-both, IsFeasibleWalk-last}
use Rattle.taxi_base.proofs.AgainLaws.{again-best, old-frozen}
use Rattle.reroute.specs.Refused.{flight_refusal}
use Rattle.reroute.specs.Anew.{IsMeant, IsNoWorse, IsFoundAnew}

-- where a test comes first that gives something, and there is nothing, it fails, and there is nothing else
else-none : {A : Type 0} (test : Bool) (x : A) (o : Option A) → (if test then Some x else o) ≡ None → (test ≡ false) × (o ≡ None)
else-none true x o e = absurd (cc e)
else-none false x o e = (refl, e)

not-by : (a b : ℕ) → nat_le a b ≡ false → b < a
not-by a b e = grind (arith, nat_tests)

-- what is refused nothing may be asked for anew
may-again : (time : ℕ) (diverted : Bool) (flight : Flight) → flight_refusal time diverted flight ≡ None → MayGoAgain time flight.request flight.steps
may-again time diverted flight may = go flight.request may where
  go : (asked : Request) → flight_refusal time diverted (record flight { request = asked }) ≡ None → MayGoAgain time asked flight.steps
  go request.Filed may = absurd (cc may)
  go (request.Arrival from to asked hold) may = not-by (end_of flight.steps) time (else-none (nat_le (end_of flight.steps) time) _ _ may).0
  go (request.Departure from to asked queue) may =
      let ended = (else-none diverted _ _ may).1 in
      let begun = (else-none (nat_le (end_of flight.steps) time) _ _ ended).1 in
      not-by (begin_of flight.steps) time (else-none (nat_le (begin_of flight.steps) time) _ _ begun).0

-- the route of a departure ends by the horizon, so the earliest second for it does
pub departure-early : (c : Conditions) (from to : Node) (asked queue : ℕ) (steps : List Step) → Meets c (request.Departure from to asked queue) steps → asked - queue ≤ c.airport.horizon
departure-early c from to asked queue [] met = absurd met.walk
departure-early c from to asked queue (s ∷ steps) met =
    AtLast-both (λ l. IsFeasibleStep c l × (s.enter ≤ l.enter) × (end_of (s ∷ steps) ≡ l.leave)) (ReachesNodeWithin (layout_of c.airport) to (asked - queue) asked)
    (asked - queue ≤ c.airport.horizon) (λ l made reaches. omega (arith, made.0.in_time, reaches.not_before)) (s ∷ steps) (IsFeasibleWalk-last c s steps met.walk) met.ends

-- ---- what a search finds is an answer to the flight

-- an answer to the node that is meant
abbrev pub IsAnswerAnew : Conditions → List Step → ℕ → Option Node → Request → Found → Type 0
IsAnswerAnew c steps time to request found = (target : Node) × IsMeant to request target × AnswersAgain c steps time target request found

module _ (c : Conditions) (steps : List Step) (time : ℕ) (to : Option Node) (from own : Node) (asked hold : ℕ) where
  meant-arrival : (to : Option Node) → IsMeant to (request.Arrival from own asked hold) (unwrap_or to own)
  meant-arrival None = refl
  meant-arrival (Some node) = refl

  -- to an arrival, for which it does not matter which node was asked for
  pub onward-anew : (r : Result Found Memory) → IfOk r (AnswersAgain c steps time (unwrap_or to own) (request.Arrival from (unwrap_or to own) asked hold))
      → IfOk r (IsAnswerAnew c steps time to (request.Arrival from own asked hold))
  onward-anew (Err e) h = tt
  onward-anew (Ok found) h = (unwrap_or to own, meant-arrival to, h)

-- ---- and the best

no_worse : (c : Conditions) (flight : Flight) (time : ℕ) (target : Node) → Meets c flight.request flight.steps → MayGoAgain time flight.request flight.steps → IsTarget flight.request target
    → (found : Found) → IsBestAgain c flight.steps time target flight.request found → IsNoWorse flight.request flight.steps found
no_worse c flight time target met may meant found best = go flight.request may meant met found best where
  go : (asked : Request) → MayGoAgain time asked flight.steps → IsTarget asked target → Meets c asked flight.steps → (found : Found) → IsBestAgain c flight.steps time target asked found
      → IsNoWorse asked flight.steps found
  go request.Filed may meant met found best = absurd may
  go (request.Arrival from to asked hold) may meant met (Route steps labels) best = best.earliest flight.steps (old-frozen c flight.steps time target (request.Arrival from to asked hold) met may meant)
  go (request.Arrival from to asked hold) may meant met (NoRoute labels) best = best flight.steps (old-frozen c flight.steps time target (request.Arrival from to asked hold) met may meant)
  go (request.Departure from to asked queue) may meant met (Route steps labels) best = best.latest flight.steps (old-frozen c flight.steps time target (request.Departure from to asked queue) met may meant)
  go (request.Departure from to asked queue) may meant met (NoRoute labels) best = best flight.steps (old-frozen c flight.steps time target (request.Departure from to asked queue) met may meant)

pub found-anew : (c : Conditions) (flight : Flight) (time : ℕ) (to : Option Node) (found : Found) → Meets c flight.request flight.steps → flight_refusal time (is_some to) flight ≡ None
    → (target : Node) → IsMeant to flight.request target → AnswersAgain c flight.steps time target flight.request found → IsFoundAnew c flight time to found
found-anew c flight time to found met may target meant answers =
    let best = again-best c flight.steps time target (Meets-IsFeasibleWalk c flight.request flight.steps met) flight.request found answers in
    record {
      target = target;
      meant = meant;
      answers = answers;
      best = best;
      no_worse = λ none. no_worse c flight time target met (may-again time (is_some to) flight may) (subst (λ (o : Option Node). IsMeant o flight.request target) none meant) found best;
    }

pub found-lifted : (c : Conditions) (flight : Flight) (time : ℕ) (to : Option Node) → Meets c flight.request flight.steps → flight_refusal time (is_some to) flight ≡ None
    → (r : Result Found Memory) → IfOk r (IsAnswerAnew c flight.steps time to flight.request) → IfOk r (IsFoundAnew c flight time to)
found-lifted c flight time to met may (Err e) h = tt
found-lifted c flight time to met may (Ok found) h = found-anew c flight time to found met may h.0 h.1 h.2
