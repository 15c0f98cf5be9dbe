-- What is found of the way on from a step has a step.
use Rattle.std.proofs.Common.{◌≡◌, ℕ, ◌+◌, ◌<◌, max, List, length, Option, Some, None, sym, subst, arith, length-append}
use Rattle.std.specs.Prelude.{MatchOption, IfSome}
use Rattle.taxi_base.specs.declared.numbers.Node.{Node}
use Rattle.taxi_base.specs.declared.rows.Step.{Step}
use Rattle.taxi_base.specs.declared.answers.Request.{Request}
use Rattle.taxi_base.specs.declared.answers.Request.TheVariants as request
use Rattle.taxi_base.specs.declared.answers.Found.{Found}
use Rattle.taxi_base.specs.declared.answers.Found.TheVariants as found
use Rattle.taxi_base.specs.Airport.{layout_of}
use Rattle.taxi_base.specs.Walks.{Conditions, LeavesNodeWithin, Resumes}
use Rattle.taxi_base.specs.Labels.{AnswersArrival}
use Rattle.taxi_base.specs.State.{step_begun, steps_done}
use Rattle.taxi_base.specs.Again.{after_steps}
use Rattle.replies.proofs.FoundLaws.{walk-some}
use Rattle.reply_reasons.specs.Routes.{route_found, AnswersOn}

abbrev pub HasStep : Option (List Step) → Type 0
HasStep route = IfSome route (λ steps. 0 < length steps)

arrival-some : (c : Conditions) (Begins : Step → Type 0) (to : Node) (answer : Found) → AnswersArrival c Begins to answer → HasStep (route_found answer)
arrival-some c Begins to (found.Route steps labels) answers = walk-some c steps answers.0.one.walk
arrival-some c Begins to (found.NoRoute labels) answers = tt

-- steps put first take none away
after-some : (done : List Step) (rest : Found) → HasStep (route_found rest) → HasStep (route_found (after_steps done rest))
after-some done (found.Route steps labels) some = omega (arith, some, length-append done steps)
after-some done (found.NoRoute labels) some = tt

pub on-some : (c : Conditions) (asked : Request) (steps : List Step) (time : ℕ) (answer : Found) → AnswersOn c asked steps time answer → HasStep (route_found answer)
on-some c request.Filed steps time answer answers = absurd answers
on-some c (request.Arrival from to asked hold) steps time answer answers = of_begun (step_begun time steps) answers where
  of_begun : (o : Option Step)
      → MatchOption o (AnswersArrival c (LeavesNodeWithin (layout_of c.airport) from (max asked time) (asked + hold)) to answer)
      (λ begun. (rest : Found) × (answer ≡ after_steps (steps_done time steps) rest) × AnswersArrival c (Resumes begun time) to rest)
      → HasStep (route_found answer)
  of_begun None answers = arrival-some c (LeavesNodeWithin (layout_of c.airport) from (max asked time) (asked + hold)) to answer answers
  of_begun (Some begun) answers =
      subst (λ (a : Found). HasStep (route_found a)) (sym answers.1) (after-some (steps_done time steps) answers.0 (arrival-some c (Resumes begun time) to answers.0 answers.2))
on-some c (request.Departure from to asked queue) steps time (found.Route route labels) answers = walk-some c route answers.0.one.walk
on-some c (request.Departure from to asked queue) steps time (found.NoRoute labels) answers = tt
