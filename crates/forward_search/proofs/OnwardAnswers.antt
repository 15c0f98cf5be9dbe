-- What a search finds from a time on answers a flight with these steps, and is the best of the walks that it may take.
use Rattle.std.proofs.Common.{◌≡◌, ℕ, ◌+◌, ◌≤◌, max, min, List, Some, None, Ok, Err, subst, sym}
use Rattle.std.specs.Prelude.{Result, IfOk}
use Rattle.taxi_base.specs.declared.numbers.Node.{Node}
use Rattle.taxi_base.specs.declared.rows.Step.{Step}
use Rattle.taxi_base.specs.declared.collections.Memory.{Memory}
use Rattle.taxi_base.specs.declared.answers.Request.TheVariants as request
use Rattle.taxi_base.specs.declared.answers.Found.{Found}
use Rattle.taxi_base.specs.Airport.{layout_of}
use Rattle.taxi_base.specs.Walks.{Conditions, IsFeasibleWalk, LeavesNodeWithin, Resumes}
use Rattle.taxi_base.specs.Labels.{AnswersArrival}
use Rattle.taxi_base.specs.State.{step_begun, steps_done}
use Rattle.taxi_base.specs.Again.{after_steps, AnswersAgain, IsBestAgain}
use Rattle.taxi_base.proofs.AgainLaws.{again-best}
use Rattle.forward_search.proofs.SameBegins.{AnswersArrival-cut}

module _ (c : Conditions) (steps : List Step) (time : ℕ) (from to : Node) (asked hold : ℕ) where
  -- where no step was entered
  pub begins-onward : (most : ℕ) → c.airport.horizon ≤ most → step_begun time steps ≡ None → (found : Found)
      → AnswersArrival c (LeavesNodeWithin (layout_of c.airport) from (max asked time) (min (asked + hold) most)) to found
      → AnswersAgain c steps time to (request.Arrival from to asked hold) found
  begins-onward most far none found h = rw none (AnswersArrival-cut c from to (max asked time) (asked + hold) most far found h)

  -- where one was
  pub goes-onward : (begun : Step) (done : List Step) → step_begun time steps ≡ Some begun → steps_done time steps ≡ done
      → (rest : Found) → AnswersArrival c (Resumes begun time) to rest → (r : Result Found Memory) → IfOk r (λ joined. joined ≡ after_steps done rest)
      → IfOk r (AnswersAgain c steps time to (request.Arrival from to asked hold))
  goes-onward begun done is_begun is_done rest answers (Err e) joined = tt
  goes-onward begun done is_begun is_done rest answers (Ok found) joined = rw is_begun (rest, subst (λ us. found ≡ after_steps us rest) (sym is_done) joined, answers)

  pub best-onward : (r : Result Found Memory) → IfOk r (AnswersAgain c steps time to (request.Arrival from to asked hold)) → IsFeasibleWalk c steps
      → IfOk r (IsBestAgain c steps time to (request.Arrival from to asked hold))
  best-onward (Err e) answers walk = tt
  best-onward (Ok found) answers walk = again-best c steps time to walk (request.Arrival from to asked hold) found answers
