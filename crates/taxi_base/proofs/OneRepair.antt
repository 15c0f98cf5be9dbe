-- A late repair has one outcome: who takes a turn, what each is answered, and the state after.
use Rattle.std.proofs.Common.{◌≡◌, ℕ, ◌+◌, ◌-◌, max, List, [], ◌∷◌, map, Option, Some, None, refl, sym, ◌∙◌, ap, subst}
use Rattle.std.specs.Prelude.{MatchOption}
use Rattle.taxi_base.specs.declared.numbers.Node.{Node}
use Rattle.taxi_base.specs.declared.rows.Step.{Step}
use Rattle.taxi_base.specs.declared.answers.Request.{Request}
use Rattle.taxi_base.specs.declared.answers.Request.TheVariants.{Filed, Arrival, Departure}
use Rattle.taxi_base.specs.declared.answers.Flight.{Flight}
use Rattle.taxi_base.specs.declared.answers.Found.{Found}
use Rattle.taxi_base.specs.Airport.{Airport, IsWellFormed, layout_of}
use Rattle.taxi_base.specs.Walks.{Conditions, IsBounded, LeavesNodeWithin, ReachesNodeWithin, Resumes}
use Rattle.taxi_base.specs.Labels.{AnswersArrival}
use Rattle.taxi_base.specs.State.{State, flight_named, without, holds_in, conditions_of, step_begun, steps_done}
use Rattle.taxi_base.specs.Again.{after_steps, AnswersAgain}
use Rattle.taxi_base.specs.Late.{Delay, Meeting, base_state, steps_kept, request_sought, time_sought, AnswersTurn, after_turn, IsTurnOfFlight, IsTurnOf, AreTurns, IsRepaired}
use Rattle.taxi_base.proofs.LabelLaws.{HasOneFirstStep-resumes}
use Rattle.taxi_base.proofs.AnswerLaws.{HasOneFirstStep-well, AnswersArrival-same, AnswersDepartureAfter-same}
use Rattle.taxi_base.proofs.WalkLaws.{conditions_among-bounded}
use Rattle.taxi_base.proofs.LateLaws.{AreInTheWay-same}

module _ (c : Conditions) (well : IsWellFormed c.airport) (bounded : IsBounded c) where
  goes-on-same : (kept : List Step) (time : ℕ) (to from : Node) (asked hold : ℕ) (found others : Found) → AnswersAgain c kept time to (Arrival from to asked hold) found
      → AnswersAgain c kept time to (Arrival from to asked hold) others → found ≡ others
  goes-on-same kept time to from asked hold found others a b = go (step_begun time kept) a b where
    Leaves : Step → Type 0
    Leaves = LeavesNodeWithin (layout_of c.airport) from (max asked time) (asked + hold)

    GoesOn : Step → Found → Type 0
    GoesOn begun h = (rest : Found) × (h ≡ after_steps (steps_done time kept) rest) × AnswersArrival c (Resumes begun time) to rest

    go : (o : Option Step) → MatchOption o (AnswersArrival c Leaves to found) (λ begun. GoesOn begun found) → MatchOption o (AnswersArrival c Leaves to others) (λ begun. GoesOn begun others)
        → found ≡ others
    go None a b = AnswersArrival-same c Leaves to (HasOneFirstStep-well c from (max asked time) (asked + hold) well bounded) found others a b
    go (Some begun) a b =
        let rests : a.0 ≡ b.0 = AnswersArrival-same c (Resumes begun time) to (HasOneFirstStep-resumes c begun time) a.0 b.0 a.2 b.2 in
        a.1 ∙ ap (after_steps (steps_done time kept)) rests ∙ sym b.1

  -- A turn has one answer.
  pub AnswersTurn-same : (request : Request) (kept : List Step) (time : ℕ) (found others : Found) → AnswersTurn c request kept time found → AnswersTurn c request kept time others
      → found ≡ others
  AnswersTurn-same Filed kept time found others a b = absurd a
  AnswersTurn-same (Arrival from to asked hold) kept time found others a b = goes-on-same kept time to from asked hold found others a b
  AnswersTurn-same (Departure from to asked queue) kept time found others a b =
      AnswersDepartureAfter-same c from (ReachesNodeWithin (layout_of c.airport) to (asked - queue) asked) time found others a b

module _ (airport : Airport) (state : State) (delay : Delay) (well : IsWellFormed airport) where
  of_flight-same : (now : State) (x : Flight) (told other : Option Found) (next after : State) → IsTurnOfFlight airport delay x now told next → IsTurnOfFlight airport delay x now other after
      → (told ≡ other) × (next ≡ after)
  of_flight-same now x None None next after a b = (refl, a.1 ∙ sym b.1)
  of_flight-same now x None (Some found) next after a b = absurd (unasked x.request a.0 b.0) where
    unasked : (request : Request) → request ≡ Filed
        → AnswersTurn (conditions_of airport now x) (request_sought request (steps_kept airport delay x)) (steps_kept airport delay x) (time_sought delay x) found → ⊥
    unasked request e answers = subst (λ r. AnswersTurn (conditions_of airport now x) (request_sought r (steps_kept airport delay x)) (steps_kept airport delay x) (time_sought delay x) found) e answers
  of_flight-same now x (Some found) None next after a b = absurd (unasked x.request b.0 a.0) where
    unasked : (request : Request) → request ≡ Filed
        → AnswersTurn (conditions_of airport now x) (request_sought request (steps_kept airport delay x)) (steps_kept airport delay x) (time_sought delay x) found → ⊥
    unasked request e answers = subst (λ r. AnswersTurn (conditions_of airport now x) (request_sought r (steps_kept airport delay x)) (steps_kept airport delay x) (time_sought delay x) found) e answers
  of_flight-same now x (Some found) (Some others) next after a b =
      let same : found ≡ others = AnswersTurn-same (conditions_of airport now x) well
      (conditions_among-bounded airport x.class (holds_in airport (without x.name now)))
      (request_sought x.request (steps_kept airport delay x)) (steps_kept airport delay x) (time_sought delay x) found others a.0 b.0 in
      (ap Some same, a.1 ∙ ap (after_turn now x (steps_kept airport delay x)) same ∙ sym b.1)

  turn-same : (now : State) (name : List ℕ) (told other : Option Found) (next after : State) → IsTurnOf airport delay state name now told next → IsTurnOf airport delay state name now other after
      → (told ≡ other) × (next ≡ after)
  turn-same now name told other next after a b = go (flight_named name state.flights) a b where
    go : (o : Option Flight) → MatchOption o ((told ≡ None) × (next ≡ now)) (λ flight. IsTurnOfFlight airport delay flight now told next)
        → MatchOption o ((other ≡ None) × (after ≡ now)) (λ flight. IsTurnOfFlight airport delay flight now other after) → (told ≡ other) × (next ≡ after)
    go None a b = (a.0 ∙ sym b.0, a.1 ∙ sym b.1)
    go (Some x) a b = of_flight-same now x told other next after a b

  turns-same : (names : List (List ℕ)) (now : State) (tells others : List (Option Found)) (after last : State) → AreTurns airport delay state names now tells after
      → AreTurns airport delay state names now others last → (tells ≡ others) × (after ≡ last)
  turns-same [] now [] [] after last a b = (refl, a ∙ sym b)
  turns-same [] now [] (other ∷ others) after last a b = absurd b
  turns-same [] now (told ∷ tells) others after last a b = absurd a
  turns-same (name ∷ names) now [] others after last a b = absurd a
  turns-same (name ∷ names) now (told ∷ tells) [] after last a b = absurd b
  turns-same (name ∷ names) now (told ∷ tells) (other ∷ others) after last a b =
      let first = turn-same now name told other a.0 b.0 a.1 b.1 in
      let rest = turns-same names a.0 tells others after last a.2 (subst (λ s. AreTurns airport delay state names s others last) (sym first.1) b.2) in
      (λ i. first.0 i ∷ rest.0 i, rest.1)

  -- A late repair has one outcome.
  pub IsRepaired-same : (meetings others : List Meeting) (tells told : List (Option Found)) (after last : State) → IsRepaired airport state delay meetings tells after
      → IsRepaired airport state delay others told last → (meetings ≡ others) × (tells ≡ told) × (after ≡ last)
  IsRepaired-same meetings others tells told after last a b =
      let way : meetings ≡ others = AreInTheWay-same airport state delay meetings others a.in_the_way b.in_the_way in
      let turns = turns-same (delay.flight.name ∷ map (λ (m : Meeting). m.name) meetings) (base_state airport state delay) tells told after last a.turns
      (subst (λ ms. AreTurns airport delay state (delay.flight.name ∷ map (λ (m : Meeting). m.name) ms) (base_state airport state delay) told last) (sym way) b.turns) in
      (way, turns.0, turns.1)
