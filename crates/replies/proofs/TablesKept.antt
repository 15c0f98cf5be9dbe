-- The table of what is found keeps the rules, and a table that keeps them leaves no walk out.
use Rattle.std.proofs.Common.{◌≡◌, ℕ, ◌+◌, ◌-◌, ◌<◌, ◌≤◌, max, List, [], ◌∷◌, length, Option, Some, None, refl, sym, subst, arith}
use Rattle.std.specs.Prelude.{MatchOption, ⊤}
use Rattle.std.specs.Option.{option_map_or}
use Rattle.std.proofs.lemmas.Option.{none-some}
use Rattle.taxi_base.specs.declared.numbers.Node.{Node}
use Rattle.taxi_base.specs.declared.rows.Step.{Step}
use Rattle.taxi_base.specs.declared.rows.LabelRow.{LabelRow}
use Rattle.taxi_base.specs.declared.answers.Found.{Found}
use Rattle.taxi_base.specs.declared.answers.Found.TheVariants as found
use Rattle.taxi_base.specs.declared.answers.Request.{Request}
use Rattle.taxi_base.specs.declared.answers.Request.TheVariants as request
use Rattle.taxi_base.specs.Airport.{layout_of}
use Rattle.taxi_base.specs.Walks.{Conditions, IsFeasibleWalk, IsRoute, ReachesNode, LeavesNodeWithin, Resumes, begin_of, end_of}
use Rattle.taxi_base.specs.Labels.{AnswersArrival}
use Rattle.taxi_base.specs.State.{step_begun, steps_done, IsResumed}
use Rattle.taxi_base.specs.Again.{retargeted, IsBestFor, after_steps, AnswersAgain}
use Rattle.taxi_base.specs.Late.{AnswersTurn}
use Rattle.walk_labels.specs.Places.{AreFit}
use Rattle.walk_labels.specs.Requests.{Beginning}
use Rattle.walk_labels.specs.Requests.Beginning.{at_node, resuming}
use Rattle.walk_labels.specs.Rules.{IsStartBy, PassesForward, PassesArrival}
use Rattle.walk_labels.specs.BackwardRules.{IsFinishAt, PassesBackward}
use Rattle.walk_labels.proofs.CheckedArrivals.{begun_table_passes, begun_answer_passes, begun_none_sooner, begun_none_at_all, resumed_none_sooner, resumed_none_at_all}
use Rattle.walk_labels.proofs.CheckedDepartures.{ended_table_passes, node_answer_passes, node_answer_after_passes, ended_none_later, ended_none_at_all}
use Rattle.walk_labels.proofs.FrozenWalks.{step_begun_made, begun_leaves}
use Rattle.taxi_base.specs.declared.answers.Chosen.{Chosen}
use Rattle.taxi_base.specs.declared.answers.Chosen.TheVariants as chosen
use Rattle.taxi_base.specs.Choices.{AnswersArrivalChoice, AnswersDepartureChoice}
use Rattle.taxi_base.proofs.ChoiceLaws.{chosen-earliest, chosen-latest}
use Rattle.taxi_base.proofs.AgainLaws.{end_of-back}
use Rattle.replies.specs.Asked.{AnswersRequest, Choice, arrival_any, departure_any, nodes_of, request_for, AnswersChoice}
use Rattle.replies.specs.CarriedOut.{second_of}
use Rattle.replies.specs.Repairs.{way_sought, floor_sought}
use Rattle.replies.specs.Sought.{UnderWay, Search, onward, backward, search_of, DoesAsAsked}
use Rattle.replies.specs.TableRules.{KeepsTable}
use Rattle.replies.proofs.FoundLaws.{labels_of, labels_of_chosen}
use Rattle.replies.proofs.ChoiceNames.{arrival-one, departure-one}

-- ---- the rules, one after the other and at once

from_forward : (c : Conditions) (b : Beginning) (to : List Node) (bound : Option ℕ) (rows : List LabelRow) → PassesForward c (IsStartBy c b) to bound rows
    → KeepsTable c (onward b to) bound rows
from_forward c b to bound rows p =
    record { rows_kept = (p.ordered, p.at_places); start_kept = p.starts_in; step_kept = p.next_in; target_kept = (p.none_reaches, p.short) }

to_forward : (c : Conditions) (b : Beginning) (to : List Node) (bound : Option ℕ) (rows : List LabelRow) → KeepsTable c (onward b to) bound rows
    → PassesForward c (IsStartBy c b) to bound rows
to_forward c b to bound rows p = record {
  ordered = p.rows_kept.0;
  at_places = p.rows_kept.1;
  starts_in = p.start_kept;
  next_in = p.step_kept;
  none_reaches = p.target_kept.0;
  short = p.target_kept.1;
}

from_backward : (c : Conditions) (from : Node) (to : List Node) (earliest latest : ℕ) (bound : Option ℕ) (rows : List LabelRow)
    → PassesBackward c (IsFinishAt c to earliest latest) from bound rows → KeepsTable c (backward from to earliest latest) bound rows
from_backward c from to earliest latest bound rows p =
    record { rows_kept = (p.ordered, p.at_places); start_kept = p.finishes_in; step_kept = p.previous_in; target_kept = (p.none_leaves, p.short) }

to_backward : (c : Conditions) (from : Node) (to : List Node) (earliest latest : ℕ) (bound : Option ℕ) (rows : List LabelRow)
    → KeepsTable c (backward from to earliest latest) bound rows → PassesBackward c (IsFinishAt c to earliest latest) from bound rows
to_backward c from to earliest latest bound rows p = record {
  ordered = p.rows_kept.0;
  at_places = p.rows_kept.1;
  finishes_in = p.start_kept;
  previous_in = p.step_kept;
  none_leaves = p.target_kept.0;
  short = p.target_kept.1;
}

-- ---- the table of what is found

-- the bound of a table is the second of the route that is told with it
abbrev pub bound_of : Request → Found → Option ℕ
bound_of request (found.Route steps labels) = Some (second_of request steps)
bound_of request (found.NoRoute labels) = None

abbrev pub bound_at_turn : Request → ℕ → Found → Option ℕ
bound_at_turn request time (found.Route steps labels) = Some (second_of request steps)
bound_at_turn request time (found.NoRoute labels) = floor_sought request time

abbrev pub bound_of_chosen : Choice → Chosen → Option ℕ
bound_of_chosen choice (chosen.Route to steps labels) = Some (second_of (request_for choice to) steps)
bound_of_chosen choice (chosen.NoRoute labels) = None

abbrev pub HasKeptTable : Conditions → Option Search → Option ℕ → List LabelRow → Type 0
HasKeptTable c search bound labels = MatchOption search ⊥ (λ s. KeepsTable c s bound labels)

-- an arrival that goes on from some steps has not ended before a time
abbrev pub IsBefore : List Step → ℕ → Request → Type 0
IsBefore old time request.Filed = ⊤
IsBefore old time (request.Arrival from to asked hold) = 0 < length old → time ≤ end_of old
IsBefore old time (request.Departure from to asked queue) = ⊤

begun-some : (time : ℕ) (old : List Step) (begun : Step) → step_begun time old ≡ Some begun → 0 < length old
begun-some time [] begun e = absurd (none-some begun e)
begun-some time (s ∷ old) begun e = omega arith

module _ (c : Conditions) (fit : AreFit c) where
  pub new-table : (request : Request) (answer : Found) → AnswersRequest c request answer → HasKeptTable c (search_of request [] None) (bound_of request answer) (labels_of answer)
  new-table request.Filed answer answers = absurd answers
  new-table (request.Arrival from to time hold) (found.Route steps labels) answers =
      from_forward c (at_node from time (time + hold)) (to ∷ []) (Some (end_of steps)) labels (begun_answer_passes c fit (at_node from time (time + hold)) tt tt to (found.Route steps labels) answers)
  new-table (request.Arrival from to time hold) (found.NoRoute labels) answers =
      from_forward c (at_node from time (time + hold)) (to ∷ []) None labels (begun_answer_passes c fit (at_node from time (time + hold)) tt tt to (found.NoRoute labels) answers)
  new-table (request.Departure from to time queue) (found.Route steps labels) answers =
      from_backward c from (to ∷ []) (time - queue) time (Some (begin_of steps)) labels (node_answer_passes c fit from to (time - queue) time (found.Route steps labels) answers)
  new-table (request.Departure from to time queue) (found.NoRoute labels) answers =
      from_backward c from (to ∷ []) (time - queue) time None labels (node_answer_passes c fit from to (time - queue) time (found.NoRoute labels) answers)

  -- of a choice of nodes
  pub arrival-choice-table : (from : Node) (to : List Node) (time hold : ℕ) (answer : Chosen) → AnswersArrivalChoice c (LeavesNodeWithin (layout_of c.airport) from time (time + hold)) to answer
      → KeepsTable c (onward (at_node from time (time + hold)) to) (bound_of_chosen (arrival_any from to time hold) answer) (labels_of_chosen answer)
  arrival-choice-table from to time hold (chosen.Route node steps labels) answers =
      let best = chosen-earliest c (LeavesNodeWithin (layout_of c.airport) from time (time + hold)) to node steps labels answers in
      from_forward c (at_node from time (time + hold)) to (Some (end_of steps)) labels
      (begun_table_passes c fit (at_node from time (time + hold)) tt tt to (Some (end_of steps)) labels answers.1.2 (λ others route below. omega (arith, best.earliest others route, below)))
  arrival-choice-table from to time hold (chosen.NoRoute labels) answers =
      from_forward c (at_node from time (time + hold)) to None labels
      (begun_table_passes c fit (at_node from time (time + hold)) tt tt to None labels answers.1 (λ others route below. answers.0 others route))

  pub departure-choice-table : (from : Node) (to : List Node) (time queue : ℕ) (answer : Chosen) → AnswersDepartureChoice c from to (time - queue) time answer
      → KeepsTable c (backward from to (time - queue) time) (bound_of_chosen (departure_any from to time queue) answer) (labels_of_chosen answer)
  departure-choice-table from to time queue (chosen.Route node steps labels) answers =
      let best = chosen-latest c from to (time - queue) time node steps labels answers in
      from_backward c from to (time - queue) time (Some (begin_of steps)) labels
      (ended_table_passes c fit to (time - queue) time from (Some (begin_of steps)) labels answers.3 (λ others route above. omega (arith, best.latest others route, above)))
  departure-choice-table from to time queue (chosen.NoRoute labels) answers =
      from_backward c from to (time - queue) time None labels (ended_table_passes c fit to (time - queue) time from None labels answers.1 (λ others route above. answers.0 others route))

  -- the table of what is chosen of the node and the others
  pub choice-table : (choice : Choice) (node : Node) (others : List Node) → nodes_of choice ≡ node ∷ others → (answer : Chosen) → AnswersChoice c choice answer
      → HasKeptTable c (search_of (request_for choice node) others None) (bound_of_chosen choice answer) (labels_of_chosen answer)
  choice-table (arrival_any from to time hold) node others are answer answers =
      subst (λ (ns : List Node). KeepsTable c (onward (at_node from time (time + hold)) ns) (bound_of_chosen (arrival_any from to time hold) answer) (labels_of_chosen answer)) are
      (arrival-choice-table from to time hold answer answers)
  choice-table (departure_any from to time queue) node others are answer answers =
      subst (λ (ns : List Node). KeepsTable c (backward from ns (time - queue) time) (bound_of_chosen (departure_any from to time queue) answer) (labels_of_chosen answer)) are
      (departure-choice-table from to time queue answer answers)

  module _ (old : List Step) (walk : 0 < length old → IsFeasibleWalk c old) (time : ℕ) where
    -- of an arrival under way, or that goes on from no step
    module _ (before : 0 < length old → time ≤ end_of old) (from target : Node) (asked hold : ℕ) where
      abbrev at_start : Beginning
      at_start = at_node from (max asked time) (asked + hold)

      rest-table : (begun : Step) → step_begun time old ≡ Some begun → (answer rest : Found) → answer ≡ after_steps (steps_done time old) rest
          → AnswersArrival c (Resumes begun time) target rest → KeepsTable c (onward (resuming begun time) (target ∷ [])) (bound_of (request.Arrival from target asked hold) answer) (labels_of answer)
      rest-table begun is answer rest e answers =
          subst (λ a. KeepsTable c (onward (resuming begun time) (target ∷ [])) (bound_of (request.Arrival from target asked hold) a) (labels_of a)) (sym e)
          (go rest answers (begun_answer_passes c fit (resuming begun time) (step_begun_made c old (walk some) time begun is) (begun_leaves c fit time begun old (walk some) is (before some)) target rest answers))
        where
          some : 0 < length old
          some = begun-some time old begun is

          go : (rest : Found) → AnswersArrival c (Resumes begun time) target rest → PassesArrival c (IsStartBy c (resuming begun time)) (target ∷ []) rest
              → KeepsTable c (onward (resuming begun time) (target ∷ [])) (bound_of (request.Arrival from target asked hold) (after_steps (steps_done time old) rest)) (labels_of (after_steps (steps_done time old) rest))
          go (found.Route [] labels) answers passes = absurd answers.0.one.walk
          go (found.Route (t ∷ steps) labels) answers passes =
              subst (λ n. KeepsTable c (onward (resuming begun time) (target ∷ [])) (Some n) labels) (sym (end_of-back (steps_done time old) t steps))
              (from_forward c (resuming begun time) (target ∷ []) (Some (end_of (t ∷ steps))) labels passes)
          go (found.NoRoute labels) answers passes = from_forward c (resuming begun time) (target ∷ []) None labels passes

      under_way-table : (answer : Found) → AnswersAgain c old time target (request.Arrival from target asked hold) answer
          → HasKeptTable c (search_of (request.Arrival from target asked hold) [] (Some (record { steps = old; time = time }))) (bound_of (request.Arrival from target asked hold) answer) (labels_of answer)
      under_way-table answer answers = go (step_begun time old) refl answers where
        go : (o : Option Step) → step_begun time old ≡ o → MatchOption o
            (AnswersArrival c (LeavesNodeWithin (layout_of c.airport) from (max asked time) (asked + hold)) target answer)
            (λ begun. (rest : Found) × (answer ≡ after_steps (steps_done time old) rest) × AnswersArrival c (Resumes begun time) target rest)
            → KeepsTable c (onward (option_map_or (λ begun. resuming begun time) o at_start) (target ∷ [])) (bound_of (request.Arrival from target asked hold) answer) (labels_of answer)
        go None e answers = at_node_table answer answers where
          at_node_table : (answer : Found) → AnswersArrival c (LeavesNodeWithin (layout_of c.airport) from (max asked time) (asked + hold)) target answer
              → KeepsTable c (onward at_start (target ∷ [])) (bound_of (request.Arrival from target asked hold) answer) (labels_of answer)
          at_node_table (found.Route steps labels) answers = from_forward c at_start (target ∷ []) (Some (end_of steps)) labels (begun_answer_passes c fit at_start tt tt target (found.Route steps labels) answers)
          at_node_table (found.NoRoute labels) answers = from_forward c at_start (target ∷ []) None labels (begun_answer_passes c fit at_start tt tt target (found.NoRoute labels) answers)
        go (Some begun) e answers = rest-table begun e answer answers.0 answers.1 answers.2

    -- what is found anew, with the node that is meant
    pub again-table : (target : Node) (request : Request) → IsBefore old time request → (answer : Found) → AnswersAgain c old time target request answer
        → HasKeptTable c (search_of (retargeted request target) [] (Some (record { steps = old; time = time }))) (bound_of (retargeted request target) answer) (labels_of answer)
    again-table target request.Filed before answer answers = absurd answers
    again-table target (request.Arrival from to asked hold) before answer answers = under_way-table before from target asked hold answer answers
    again-table target (request.Departure from to asked queue) before (found.Route steps labels) answers =
        from_backward c from (target ∷ []) (asked - queue) asked (Some (begin_of steps)) labels (node_answer_passes c fit from target (asked - queue) asked (found.Route steps labels) answers)
    again-table target (request.Departure from to asked queue) before (found.NoRoute labels) answers =
        from_backward c from (target ∷ []) (asked - queue) asked None labels (node_answer_passes c fit from target (asked - queue) asked (found.NoRoute labels) answers)

    -- and what is found at a turn: where there is no route the bound is the floor
    pub turn-table : (request : Request) → IsBefore old time request → (answer : Found) → AnswersTurn c request old time answer
        → HasKeptTable c (search_of request [] (way_sought request old time)) (bound_at_turn request time answer) (labels_of answer)
    turn-table request.Filed before answer answers = absurd answers
    turn-table (request.Arrival from to asked hold) before (found.Route steps labels) answers = under_way-table before from to asked hold (found.Route steps labels) answers
    turn-table (request.Arrival from to asked hold) before (found.NoRoute labels) answers = under_way-table before from to asked hold (found.NoRoute labels) answers
    turn-table (request.Departure from to asked queue) before (found.Route steps labels) answers =
        from_backward c from (to ∷ []) (asked - queue) asked (Some (begin_of steps)) labels (node_answer_after_passes c fit from to (asked - queue) asked time (found.Route steps labels) answers)
    turn-table (request.Departure from to asked queue) before (found.NoRoute labels) answers =
        from_backward c from (to ∷ []) (asked - queue) asked (Some time) labels (node_answer_after_passes c fit from to (asked - queue) asked time (found.NoRoute labels) answers)

-- ---- what a table leaves out

-- a flight that goes on from some steps has a feasible walk, and seeks one node alone
abbrev pub IsUnderWay : Conditions → List Node → Option UnderWay → Type 0
IsUnderWay c others None = ⊤
IsUnderWay c others (Some way) = (others ≡ []) × (0 < length way.steps → IsFeasibleWalk c way.steps)

-- a walk that begins after a floor, where there is one
abbrev IsMeant : Conditions → Request → List Node → Option UnderWay → Option ℕ → List Step → Type 0
IsMeant c request others way floor steps = MatchOption floor (DoesAsAsked c request others way steps) (λ f. DoesAsAsked c request others way steps × (f < begin_of steps))

meant-asked : (c : Conditions) (request : Request) (others : List Node) (way : Option UnderWay) (floor : Option ℕ) (steps : List Step) → IsMeant c request others way floor steps → DoesAsAsked c request others way steps
meant-asked c request others way None steps meant = meant
meant-asked c request others way (Some f) steps meant = meant.0

-- only a departure has a floor
abbrev pub HasFloorOf : Request → Option ℕ → Type 0
HasFloorOf (request.Departure from to asked queue) floor = ⊤
HasFloorOf _ floor = floor ≡ None

-- a walk is no better than a second
abbrev IsNoBetter : Request → ℕ → List Step → Type 0
IsNoBetter request.Filed second steps = ⊤
IsNoBetter (request.Arrival from to asked hold) second steps = second ≤ end_of steps
IsNoBetter (request.Departure from to asked queue) second steps = begin_of steps ≤ second

module _ (c : Conditions) (fit : AreFit c) where
  table-sooner : (request : Request) (others : List Node) (way : Option UnderWay) → IsUnderWay c others way → (second : ℕ) (labels : List LabelRow)
      → HasKeptTable c (search_of request others way) (Some second) labels → (steps : List Step) → DoesAsAsked c request others way steps → IsNoBetter request second steps
  table-sooner request.Filed others way walk second labels kept steps meant = tt
  table-sooner (request.Arrival from to asked hold) others None walk second labels kept steps meant =
      begun_none_sooner c fit (at_node from asked (asked + hold)) tt (to ∷ others) second labels (to_forward c (at_node from asked (asked + hold)) (to ∷ others) (Some second) labels kept) steps
      (arrival-one c from to others asked hold steps meant)
  table-sooner (request.Arrival from to asked hold) others (Some way) walk second labels kept steps meant =
      go (step_begun way.time way.steps) refl
      (subst (λ (ns : List Node). KeepsTable c (onward (option_map_or (λ begun. resuming begun way.time) (step_begun way.time way.steps) at_start) (to ∷ ns)) (Some second) labels) walk.0 kept) meant
    where
      at_start : Beginning
      at_start = at_node from (max asked way.time) (asked + hold)

      go : (o : Option Step) → step_begun way.time way.steps ≡ o → KeepsTable c (onward (option_map_or (λ begun. resuming begun way.time) o at_start) (to ∷ [])) (Some second) labels
          → MatchOption o (IsRoute c (LeavesNodeWithin (layout_of c.airport) from (max asked way.time) (asked + hold)) (ReachesNode (layout_of c.airport) to) steps)
          (λ begun. IsResumed c (steps_done way.time way.steps) begun way.time to steps) → second ≤ end_of steps
      go None e kept meant = begun_none_sooner c fit at_start tt (to ∷ []) second labels (to_forward c at_start (to ∷ []) (Some second) labels kept) steps meant
      go (Some begun) e kept meant =
          resumed_none_sooner c fit way.steps (walk.1 (begun-some way.time way.steps begun e)) way.time begun e to second labels (to_forward c (resuming begun way.time) (to ∷ []) (Some second) labels kept) steps meant
  table-sooner (request.Departure from to asked queue) others None walk second labels kept steps meant =
      ended_none_later c fit (to ∷ others) (asked - queue) asked from second labels (to_backward c from (to ∷ others) (asked - queue) asked (Some second) labels kept) steps
      (departure-one c from to others asked queue steps meant)
  table-sooner (request.Departure from to asked queue) others (Some way) walk second labels kept steps meant =
      ended_none_later c fit (to ∷ []) (asked - queue) asked from second labels
      (to_backward c from (to ∷ []) (asked - queue) asked (Some second) labels (subst (λ (ns : List Node). KeepsTable c (backward from (to ∷ ns) (asked - queue) asked) (Some second) labels) walk.0 kept)) steps meant

  -- where there is no bound no walk does as is asked
  table-none_at_all : (request : Request) (others : List Node) (way : Option UnderWay) → IsUnderWay c others way → (labels : List LabelRow)
      → HasKeptTable c (search_of request others way) None labels → (steps : List Step) → DoesAsAsked c request others way steps → ⊥
  table-none_at_all request.Filed others way walk labels kept steps meant = kept
  table-none_at_all (request.Arrival from to asked hold) others None walk labels kept steps meant =
      begun_none_at_all c fit (at_node from asked (asked + hold)) tt (to ∷ others) labels (to_forward c (at_node from asked (asked + hold)) (to ∷ others) None labels kept) steps
      (arrival-one c from to others asked hold steps meant)
  table-none_at_all (request.Arrival from to asked hold) others (Some way) walk labels kept steps meant =
      go (step_begun way.time way.steps) refl
      (subst (λ (ns : List Node). KeepsTable c (onward (option_map_or (λ begun. resuming begun way.time) (step_begun way.time way.steps) at_start) (to ∷ ns)) None labels) walk.0 kept) meant
    where
      at_start : Beginning
      at_start = at_node from (max asked way.time) (asked + hold)

      go : (o : Option Step) → step_begun way.time way.steps ≡ o → KeepsTable c (onward (option_map_or (λ begun. resuming begun way.time) o at_start) (to ∷ [])) None labels
          → MatchOption o (IsRoute c (LeavesNodeWithin (layout_of c.airport) from (max asked way.time) (asked + hold)) (ReachesNode (layout_of c.airport) to) steps)
          (λ begun. IsResumed c (steps_done way.time way.steps) begun way.time to steps) → ⊥
      go None e kept meant = begun_none_at_all c fit at_start tt (to ∷ []) labels (to_forward c at_start (to ∷ []) None labels kept) steps meant
      go (Some begun) e kept meant =
          resumed_none_at_all c fit way.steps (walk.1 (begun-some way.time way.steps begun e)) way.time begun e to labels (to_forward c (resuming begun way.time) (to ∷ []) None labels kept) steps meant
  table-none_at_all (request.Departure from to asked queue) others None walk labels kept steps meant =
      ended_none_at_all c fit (to ∷ others) (asked - queue) asked from labels (to_backward c from (to ∷ others) (asked - queue) asked None labels kept) steps
      (departure-one c from to others asked queue steps meant)
  table-none_at_all (request.Departure from to asked queue) others (Some way) walk labels kept steps meant =
      ended_none_at_all c fit (to ∷ []) (asked - queue) asked from labels
      (to_backward c from (to ∷ []) (asked - queue) asked None labels (subst (λ (ns : List Node). KeepsTable c (backward from (to ∷ ns) (asked - queue) asked) None labels) walk.0 kept)) steps meant

  -- where the bound is the floor, if there is one, there is no walk that is sought
  pub table-none : (request : Request) (others : List Node) (way : Option UnderWay) → IsUnderWay c others way → (floor : Option ℕ) → HasFloorOf request floor → (labels : List LabelRow)
      → HasKeptTable c (search_of request others way) floor labels → (steps : List Step) → IsMeant c request others way floor steps → ⊥
  table-none request others way walk None has labels kept steps meant = table-none_at_all request others way walk labels kept steps meant
  table-none request.Filed others way walk (Some f) has labels kept steps meant = kept
  table-none (request.Arrival from to asked hold) others way walk (Some f) has labels kept steps meant = absurd (none-some f (sym has))
  table-none (request.Departure from to asked queue) others way walk (Some f) has labels kept steps meant =
      let by : begin_of steps ≤ f = table-sooner (request.Departure from to asked queue) others way walk f labels kept steps meant.0 in
      omega (arith, by, meant.1)

  -- a walk that is sought is the best one, where its second is the bound of a table that keeps the rules
  pub table-best : (request : Request) (others : List Node) (way : Option UnderWay) → IsUnderWay c others way → (floor : Option ℕ) (steps : List Step) (labels : List LabelRow) → IsMeant c request others way floor steps
      → HasKeptTable c (search_of request others way) (Some (second_of request steps)) labels → IsBestFor request (IsMeant c request others way floor) steps
  table-best request.Filed others way walk floor steps labels one kept = kept
  table-best (request.Arrival from to asked hold) others way walk floor steps labels one kept = record {
    one = one;
    earliest = λ other meant. table-sooner (request.Arrival from to asked hold) others way walk (end_of steps) labels kept other (meant-asked c (request.Arrival from to asked hold) others way floor other meant);
  }
  table-best (request.Departure from to asked queue) others way walk floor steps labels one kept = record {
    one = one;
    latest = λ other meant. table-sooner (request.Departure from to asked queue) others way walk (begin_of steps) labels kept other (meant-asked c (request.Departure from to asked queue) others way floor other meant);
  }
