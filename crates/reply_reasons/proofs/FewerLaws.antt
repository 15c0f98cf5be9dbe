-- Where fewer hold anything, whoever may walk among all may walk among them. So what is found among them is at least as good.
use Rattle.std.proofs.Common.{◌≡◌, ℕ, ◌-◌, ◌+◌, ◌≤◌, max, Bool, IsTrue, IsFalse, List, [], ◌∷◌, ◌++◌, Option, Some, None, refl, arith}
use Rattle.std.specs.Prelude.{MatchOption, ⊤}
use Rattle.std.proofs.lemmas.Bool.{le-ltb, ltb-false, and_parts, and_from}
use Rattle.taxi_base.specs.declared.numbers.Node.{Node}
use Rattle.taxi_base.specs.declared.numbers.Segment.{Segment}
use Rattle.taxi_base.specs.declared.rows.Step.{Step}
use Rattle.taxi_base.specs.declared.answers.Request.{Request}
use Rattle.taxi_base.specs.declared.answers.Request.TheVariants as request
use Rattle.taxi_base.specs.declared.answers.Found.{Found}
use Rattle.taxi_base.specs.declared.answers.Found.TheVariants as found
use Rattle.taxi_base.specs.declared.answers.Chosen.{Chosen}
use Rattle.taxi_base.specs.declared.answers.Chosen.TheVariants as chosen
use Rattle.taxi_base.specs.Airport.{Airport, layout_of}
use Rattle.taxi_base.specs.Windows.{Hold}
use Rattle.taxi_base.specs.Walks.{Conditions, free_among, begin_of, end_of, IsRoute, LeavesNode, ReachesNode, LeavesNodeWithin, ReachesNodeWithin, Resumes}
use Rattle.taxi_base.specs.Labels.{AnswersArrival, AnswersDeparture}
use Rattle.taxi_base.specs.Choices.{ReachesOneOf, ReachesOneOfWithin, AnswersArrivalChoice, AnswersDepartureChoice}
use Rattle.taxi_base.specs.State.{State, no_holder, holds_in, step_begun, steps_done}
use Rattle.taxi_base.specs.Faults.{conditions_in}
use Rattle.taxi_base.specs.Again.{after_steps}
use Rattle.taxi_base.proofs.WalkLaws.{IsFeasibleWalk-freer}
use Rattle.taxi_base.proofs.HoldLaws.{is_free-fewer}
use Rattle.taxi_base.proofs.AgainLaws.{end_of-back}
use Rattle.taxi_base.proofs.ChoiceLaws.{chosen-earliest, chosen-latest}
use Rattle.reply_reasons.specs.declared.asking.Asking.{Asking}
use Rattle.reply_reasons.specs.declared.asking.Way.{Way}
use Rattle.reply_reasons.specs.declared.asking.Way.TheVariants.{New, ToAny, On}
use Rattle.reply_reasons.specs.Routes.{route_found, route_chosen, IsPickedBy, second_found, IsBestSecond, is_gain}

-- ---- the ends of two routes, either of which may be none

-- where there is a first, there is another that ends no later, or begins no earlier
abbrev EndsAsEarly : Option (List Step) → Option (List Step) → Type 0
EndsAsEarly None best = ⊤
EndsAsEarly (Some steps) None = ⊥
EndsAsEarly (Some steps) (Some best) = end_of best ≤ end_of steps

abbrev BeginsAsLate : Option (List Step) → Option (List Step) → Type 0
BeginsAsLate None best = ⊤
BeginsAsLate (Some steps) None = ⊥
BeginsAsLate (Some steps) (Some best) = begin_of steps ≤ begin_of best

-- steps put first leave the ends as they are, where there is a step behind them
end_of-after : (done : List Step) (c : Conditions) (Begins Ends : Step → Type 0) (steps : List Step) → IsRoute c Begins Ends steps → end_of (done ++ steps) ≡ end_of steps
end_of-after done c Begins Ends [] route = absurd route.walk
end_of-after done c Begins Ends (s ∷ steps) route = end_of-back done s steps

-- ---- among holds, and among fewer

module _ (c : Conditions) (free : Segment → ℕ → Bool) (freer : (s : Segment) (t : ℕ) → IsTrue (c.free s t) → IsTrue (free s t)) where
  abbrev fewer : Conditions
  fewer = record c { free = free }

  route-fewer : (Begins Ends : Step → Type 0) (steps : List Step) → IsRoute c Begins Ends steps → IsRoute fewer Begins Ends steps
  route-fewer Begins Ends steps route = record { walk = IsFeasibleWalk-freer c free freer steps route.walk; begins = route.begins; ends = route.ends }

  arrival-fewer : (Begins : Step → Type 0) (to : Node) (answer best : Found) → AnswersArrival c Begins to answer → AnswersArrival fewer Begins to best
      → EndsAsEarly (route_found answer) (route_found best)
  arrival-fewer Begins to (found.NoRoute labels) best answers bests = tt
  arrival-fewer Begins to (found.Route steps labels) (found.NoRoute rows) answers bests = bests.0 steps (route-fewer Begins (ReachesNode (layout_of c.airport) to) steps answers.0.one)
  arrival-fewer Begins to (found.Route steps labels) (found.Route others rows) answers bests =
      bests.0.earliest steps (route-fewer Begins (ReachesNode (layout_of c.airport) to) steps answers.0.one)

  departure-fewer : (from : Node) (Ends : Step → Type 0) (answer best : Found) → AnswersDeparture c from Ends answer → AnswersDeparture fewer from Ends best
      → BeginsAsLate (route_found answer) (route_found best)
  departure-fewer from Ends (found.NoRoute labels) best answers bests = tt
  departure-fewer from Ends (found.Route steps labels) (found.NoRoute rows) answers bests = bests.0 steps (route-fewer (LeavesNode (layout_of c.airport) from) Ends steps answers.0.one)
  departure-fewer from Ends (found.Route steps labels) (found.Route others rows) answers bests =
      bests.0.latest steps (route-fewer (LeavesNode (layout_of c.airport) from) Ends steps answers.0.one)

  arrival_any-fewer : (Begins : Step → Type 0) (nodes : List Node) (answer best : Chosen) → AnswersArrivalChoice c Begins nodes answer → AnswersArrivalChoice fewer Begins nodes best
      → EndsAsEarly (route_chosen answer) (route_chosen best)
  arrival_any-fewer Begins nodes (chosen.NoRoute labels) best answers bests = tt
  arrival_any-fewer Begins nodes (chosen.Route to steps labels) (chosen.NoRoute rows) answers bests =
      bests.0 steps (route-fewer Begins (ReachesOneOf (layout_of c.airport) nodes) steps (chosen-earliest c Begins nodes to steps labels answers).one)
  arrival_any-fewer Begins nodes (chosen.Route to steps labels) (chosen.Route node others rows) answers bests =
      (chosen-earliest fewer Begins nodes node others rows bests).earliest steps
      (route-fewer Begins (ReachesOneOf (layout_of c.airport) nodes) steps (chosen-earliest c Begins nodes to steps labels answers).one)

  departure_any-fewer : (from : Node) (nodes : List Node) (earliest latest : ℕ) (answer best : Chosen) → AnswersDepartureChoice c from nodes earliest latest answer
      → AnswersDepartureChoice fewer from nodes earliest latest best → BeginsAsLate (route_chosen answer) (route_chosen best)
  departure_any-fewer from nodes earliest latest (chosen.NoRoute labels) best answers bests = tt
  departure_any-fewer from nodes earliest latest (chosen.Route to steps labels) (chosen.NoRoute rows) answers bests =
      bests.0 steps
      (route-fewer (LeavesNode (layout_of c.airport) from) (ReachesOneOfWithin (layout_of c.airport) nodes earliest latest) steps (chosen-latest c from nodes earliest latest to steps labels answers).one)
  departure_any-fewer from nodes earliest latest (chosen.Route to steps labels) (chosen.Route node others rows) answers bests =
      (chosen-latest fewer from nodes earliest latest node others rows bests).latest steps
      (route-fewer (LeavesNode (layout_of c.airport) from) (ReachesOneOfWithin (layout_of c.airport) nodes earliest latest) steps (chosen-latest c from nodes earliest latest to steps labels answers).one)

  -- of the way on from a step that was begun
  resumed-fewer : (done : List Step) (begun : Step) (time : ℕ) (to : Node) (answer best : Found) → AnswersArrival c (Resumes begun time) to answer → AnswersArrival fewer (Resumes begun time) to best
      → EndsAsEarly (route_found (after_steps done answer)) (route_found (after_steps done best))
  resumed-fewer done begun time to (found.NoRoute labels) best answers bests = tt
  resumed-fewer done begun time to (found.Route steps labels) (found.NoRoute rows) answers bests =
      arrival-fewer (Resumes begun time) to (found.Route steps labels) (found.NoRoute rows) answers bests
  resumed-fewer done begun time to (found.Route steps labels) (found.Route others rows) answers bests =
      let Ends : Step → Type 0 = ReachesNode (layout_of c.airport) to in
      let one = end_of-after done c (Resumes begun time) Ends steps answers.0.one in
      let two = end_of-after done fewer (Resumes begun time) Ends others bests.0.one in
      let early = arrival-fewer (Resumes begun time) to (found.Route steps labels) (found.Route others rows) answers bests in
      omega (arith, one, two, early)

  again-fewer : (from to : Node) (asked hold : ℕ) (done : List Step) (time : ℕ) (begun : Option Step) (answer best : Found)
      → MatchOption begun (AnswersArrival c (LeavesNodeWithin (layout_of c.airport) from (max asked time) (asked + hold)) to answer)
      (λ begun. (rest : Found) × (answer ≡ after_steps done rest) × AnswersArrival c (Resumes begun time) to rest)
      → MatchOption begun (AnswersArrival fewer (LeavesNodeWithin (layout_of c.airport) from (max asked time) (asked + hold)) to best)
      (λ begun. (rest : Found) × (best ≡ after_steps done rest) × AnswersArrival fewer (Resumes begun time) to rest)
      → EndsAsEarly (route_found answer) (route_found best)
  again-fewer from to asked hold done time None answer best answers bests = arrival-fewer (LeavesNodeWithin (layout_of c.airport) from (max asked time) (asked + hold)) to answer best answers bests
  again-fewer from to asked hold done time (Some begun) answer best answers bests =
      rw (answers.1, bests.1) (resumed-fewer done begun time to answers.0 bests.0 answers.2 bests.2)

-- ---- the seconds by which they are told

ends-no_gain : (from to : Node) (time hold : ℕ) (route best : Option (List Step)) → EndsAsEarly route best
    → IsFalse (is_gain (request.Arrival from to time hold) (second_found (request.Arrival from to time hold) route) (second_found (request.Arrival from to time hold) best))
ends-no_gain from to time hold None best early = refl
ends-no_gain from to time hold (Some steps) None early = absurd early
ends-no_gain from to time hold (Some steps) (Some others) early = le-ltb (end_of steps) (end_of others) early

begins-no_gain : (from to : Node) (time queue : ℕ) (route best : Option (List Step)) → BeginsAsLate route best
    → IsFalse (is_gain (request.Departure from to time queue) (second_found (request.Departure from to time queue) route) (second_found (request.Departure from to time queue) best))
begins-no_gain from to time queue None best late = refl
begins-no_gain from to time queue (Some steps) None late = absurd late
begins-no_gain from to time queue (Some steps) (Some others) late = le-ltb (begin_of others) (begin_of steps) late

-- where one is no better than another, and that no better than a third, it is no better than the third
pub no_gain-through : (asked : Request) (second best answer : Option ℕ) → IsFalse (is_gain asked second best) → IsFalse (is_gain asked best answer) → IsFalse (is_gain asked second answer)
no_gain-through asked None best answer first next = refl
no_gain-through asked (Some second) None answer first next = absurd (cc first)
no_gain-through asked (Some second) (Some best) None first next = absurd (cc next)
no_gain-through (request.Departure from to time queue) (Some second) (Some best) (Some answer) first next =
    le-ltb answer second (omega (arith, ltb-false best second first, ltb-false answer best next))
no_gain-through (request.Arrival from to time hold) (Some second) (Some best) (Some answer) first next =
    le-ltb second answer (omega (arith, ltb-false second best first, ltb-false best answer next))
no_gain-through request.Filed (Some second) (Some best) (Some answer) first next =
    le-ltb second answer (omega (arith, ltb-false second best first, ltb-false best answer next))

picked-no_gain : (c : Conditions) (free : Segment → ℕ → Bool) → ((s : Segment) (t : ℕ) → IsTrue (c.free s t) → IsTrue (free s t)) → (asked : Request) (way : Way) (route best : Option (List Step))
    → IsPickedBy c asked way route → IsPickedBy (record c { free = free }) asked way best → IsFalse (is_gain asked (second_found asked route) (second_found asked best))
picked-no_gain c free freer request.Filed New route best picked bests = absurd picked.1
picked-no_gain c free freer (request.Arrival from to time hold) New route best picked bests =
    ends-no_gain from to time hold route best
    (rw (picked.2, bests.2) (arrival-fewer c free freer (LeavesNodeWithin (layout_of c.airport) from time (time + hold)) to picked.0 bests.0 picked.1 bests.1))
picked-no_gain c free freer (request.Departure from to time queue) New route best picked bests =
    begins-no_gain from to time queue route best
    (rw (picked.2, bests.2) (departure-fewer c free freer from (ReachesNodeWithin (layout_of c.airport) to (time - queue) time) picked.0 bests.0 picked.1 bests.1))
picked-no_gain c free freer request.Filed (ToAny nodes) route best picked bests = absurd picked.1
picked-no_gain c free freer (request.Arrival from to time hold) (ToAny nodes) route best picked bests =
    ends-no_gain from to time hold route best
    (rw (picked.2, bests.2) (arrival_any-fewer c free freer (LeavesNodeWithin (layout_of c.airport) from time (time + hold)) nodes picked.0 bests.0 picked.1 bests.1))
picked-no_gain c free freer (request.Departure from to time queue) (ToAny nodes) route best picked bests =
    begins-no_gain from to time queue route best (rw (picked.2, bests.2) (departure_any-fewer c free freer from nodes (time - queue) time picked.0 bests.0 picked.1 bests.1))
picked-no_gain c free freer request.Filed (On steps time) route best picked bests = absurd picked.1
picked-no_gain c free freer (request.Arrival from to asked hold) (On steps time) route best picked bests =
    ends-no_gain from to asked hold route best
    (rw (picked.2, bests.2) (again-fewer c free freer from to asked hold (steps_done time steps) time (step_begun time steps) picked.0 bests.0 picked.1 bests.1))
picked-no_gain c free freer (request.Departure from to asked queue) (On steps time) route best picked bests =
    begins-no_gain from to asked queue route best
    (rw (picked.2, bests.2) (departure-fewer c free freer from (ReachesNodeWithin (layout_of c.airport) to (asked - queue) asked) picked.0 bests.0 picked.1 bests.1))

-- ---- the best seconds

-- a second that is free among holders is free with none
free-alone : (airport : Airport) (state : State) (s : Segment) (t : ℕ) → IsTrue (free_among airport (holds_in airport state) s t) → IsTrue (free_among airport (holds_in airport no_holder) s t)
free-alone airport state s t free =
    let parts = and_parts _ _ free in
    and_from _ _ parts.0
    (is_free-fewer airport.conflicts airport.horizon (holds_in airport state) (holds_in airport no_holder) (λ (h : Hold) none. absurd (omega (arith, none.1))) s t parts.1)

-- no best second among others is better than the best with no holder, or than the best among the same
pub alone-no_gain : (airport : Airport) (asking : Asking) (state : State) (second alone : Option ℕ) → IsBestSecond airport asking state second → IsBestSecond airport asking no_holder alone
    → IsFalse (is_gain asking.request second alone)
alone-no_gain airport asking state second alone best bests =
    rw (best.2, bests.2)
    (picked-no_gain (conditions_in airport asking.class state) (free_among airport (holds_in airport no_holder)) (free-alone airport state) asking.request asking.way best.0 bests.0 best.1 bests.1)

pub same-no_gain : (airport : Airport) (asking : Asking) (state : State) (second found : Option ℕ) → IsBestSecond airport asking state second → IsBestSecond airport asking state found
    → IsFalse (is_gain asking.request second found)
same-no_gain airport asking state second found best bests =
    rw (best.2, bests.2)
    (picked-no_gain (conditions_in airport asking.class state) (free_among airport (holds_in airport state)) (λ s t free. free) asking.request asking.way best.0 bests.0 best.1 bests.1)
