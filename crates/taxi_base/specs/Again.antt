-- What a flight under way is answered, when it is to be routed anew or led to another node.
use Rattle.std.specs.Prelude.{ℕ, ◌≡◌, ◌+◌, ◌-◌, ◌<◌, max, List, ◌++◌, MatchOption}
use Rattle.taxi_base.specs.declared.numbers.Node.{Node}
use Rattle.taxi_base.specs.declared.rows.Step.{Step}
use Rattle.taxi_base.specs.declared.answers.Request.{Request}
use Rattle.taxi_base.specs.declared.answers.Request.TheVariants.{Filed, Arrival, Departure}
use Rattle.taxi_base.specs.declared.answers.Found.{Found}
use Rattle.taxi_base.specs.declared.answers.Found.TheVariants.{Route, NoRoute}
use Rattle.taxi_base.specs.Airport.{layout_of}
use Rattle.taxi_base.specs.Walks.{Conditions, begin_of, end_of, LeavesNodeWithin, ReachesNodeWithin, Resumes, EndsEarliest, BeginsLatest}
use Rattle.taxi_base.specs.Labels.{AnswersArrival, AnswersDeparture}
use Rattle.taxi_base.specs.State.{step_begun, steps_done, IsFrozenWalk}

-- ---- what is asked

-- the same request, for another node to reach
abbrev pub retargeted : Request → Node → Request
retargeted Filed target = Filed
retargeted (Arrival from to time hold) target = Arrival from target time hold
retargeted (Departure from to time queue) target = Departure from target time queue

-- the node that is asked for
abbrev pub IsTarget : Request → Node → Type 0
IsTarget Filed node = ⊥
IsTarget (Arrival from to time hold) node = to ≡ node
IsTarget (Departure from to time queue) node = to ≡ node

-- A route may be asked for anew from a time on: an arrival has not ended by then, and a departure has not begun.
abbrev pub MayGoAgain : ℕ → Request → List Step → Type 0
MayGoAgain time Filed steps = ⊥
MayGoAgain time (Arrival from to asked hold) steps = time < end_of steps
MayGoAgain time (Departure from to asked queue) steps = time < begin_of steps

-- ---- what is answered

-- the best of the walks that a flight may take: an arrival's ends earliest, a departure's begins latest
abbrev pub IsBestFor : Request → (List Step → Type 0) → List Step → Type 0
IsBestFor Filed IsOne steps = ⊥
IsBestFor (Arrival from to asked hold) IsOne steps = EndsEarliest IsOne steps
IsBestFor (Departure from to asked queue) IsOne steps = BeginsLatest IsOne steps

-- what a search finds for the way from a step on, with the steps before it put first
abbrev pub after_steps : List Step → Found → Found
after_steps done (Route steps labels) = Route (done ++ steps) labels
after_steps done (NoRoute labels) = NoRoute labels

-- The answer to a flight with these steps and this request, from a time on, to a node. An arrival goes on from the step that
-- it has begun, or begins at the time or later; a departure is searched for as at first.
abbrev pub AnswersAgain : Conditions → List Step → ℕ → Node → Request → Found → Type 0
AnswersAgain c old time target Filed found = ⊥
AnswersAgain c old time target (Arrival from to asked hold) found =
    MatchOption (step_begun time old)
    (AnswersArrival c (LeavesNodeWithin (layout_of c.airport) from (max asked time) (asked + hold)) target found)
    (λ begun. (rest : Found) × (found ≡ after_steps (steps_done time old) rest) × AnswersArrival c (Resumes begun time) target rest)
AnswersAgain c old time target (Departure from to asked queue) found =
    AnswersDeparture c from (ReachesNodeWithin (layout_of c.airport) target (asked - queue) asked) found

-- the best frozen walk, or that there is none
abbrev pub IsBestAgain : Conditions → List Step → ℕ → Node → Request → Found → Type 0
IsBestAgain c old time target request (Route steps labels) = IsBestFor request (IsFrozenWalk c old time target request) steps
IsBestAgain c old time target request (NoRoute labels) = (steps : List Step) → IsFrozenWalk c old time target request steps → ⊥
