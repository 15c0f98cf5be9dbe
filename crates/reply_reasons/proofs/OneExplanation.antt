-- A line that is given in a state has one explanation.
use Rattle.std.proofs.Common.{◌≡◌, ◌∙◌, ◌+◌, ◌-◌, ◌++◌, ◌∷◌, [], ℕ, max, List, map, filter, Option, Some, None, inl, inr, refl, sym, ap, ap₂, subst}
use Rattle.std.specs.Prelude.{⊤, MatchOption}
use Rattle.std.specs.Option.{option_map_or}
use Rattle.std.proofs.lemmas.Bool.{true≢false}
use Rattle.std.proofs.lemmas.Option.{none-some, same_Some}
use Rattle.taxi_base.specs.declared.numbers.Class.{Class}
use Rattle.taxi_base.specs.declared.numbers.Node.{Node}
use Rattle.taxi_base.specs.declared.rows.Step.{Step}
use Rattle.taxi_base.specs.declared.rows.HeldRow.{HeldRow}
use Rattle.taxi_base.specs.declared.answers.Request.{Request}
use Rattle.taxi_base.specs.declared.answers.Request.TheVariants as request
use Rattle.taxi_base.specs.declared.answers.Found.{Found}
use Rattle.taxi_base.specs.declared.answers.Chosen.{Chosen}
use Rattle.taxi_base.specs.declared.answers.Flight.{Flight}
use Rattle.taxi_base.specs.Airport.{Airport, IsWellFormed, layout_of, class_named, node_named}
use Rattle.taxi_base.specs.Windows.{Hold}
use Rattle.taxi_base.specs.Walks.{Conditions, conditions_among, LeavesNodeWithin, ReachesNodeWithin, Resumes}
use Rattle.taxi_base.specs.Labels.{AnswersArrival}
use Rattle.taxi_base.specs.State.{State, no_holder, flight_named, holds_in, without, step_begun, steps_done}
use Rattle.taxi_base.specs.Again.{retargeted, after_steps}
use Rattle.taxi_base.proofs.AnswerLaws.{AnswersArrival-same, AnswersDeparture-same}
use Rattle.taxi_base.proofs.ChoiceLaws.{AreNodes, AnswersArrivalChoice-same, AnswersDepartureChoice-same}
use Rattle.taxi_base.proofs.LabelLaws.{HasOneFirstStep-resumes}
use Rattle.taxi_base.proofs.ReportLaws.{AreHeldRows-same}
use Rattle.taxi_text.specs.declared.command.Command.{Command}
use Rattle.taxi_text.specs.declared.command.Command.TheVariants as command
use Rattle.taxi_text.specs.Commands.{command_of}
use Rattle.replies.specs.Asked.{Choice, nodes_of, arrival_named, departure_named, arrival_any_named, departure_any_named}
use Rattle.replies.proofs.ChoiceNames.{arrival_any-is, departure_any-is}
use Rattle.replies.proofs.FiledLaws.{and_then-some, map-some}
use Rattle.replies.proofs.RoutedLaws.{one_first_step, AnswersRequest-same}
use Rattle.reply_reasons.specs.declared.asking.Asking.{Asking}
use Rattle.reply_reasons.specs.declared.asking.Way.{Way}
use Rattle.reply_reasons.specs.declared.asking.Way.TheVariants.{New, ToAny, On}
use Rattle.reply_reasons.specs.declared.reason.Reason.{Reason}
use Rattle.reply_reasons.specs.declared.reason.Reason.TheVariants as reason
use Rattle.reply_reasons.specs.Asking.{asking_new, asking_any, asking_on, asking_by_class, asking_to_any, asking_of, asking_due, asking_freed}
use Rattle.reply_reasons.specs.Routes.{route_found, route_chosen, AnswersToAny, AnswersOn, IsPickedBy, IsFoundAmong, second_found, IsBestSecond}
use Rattle.reply_reasons.specs.Waits.{route_reasons}
use Rattle.reply_reasons.specs.Taken.{Taking, taking_due, AreTakenReasons, shares, held_reason}
use Rattle.reply_reasons.specs.Explained.{holder_names, IsWithout, AreWithout, freed_reasons, IsRouteExplained, IsRefusalExplained, IsCommandExplained, IsExplained}
use Rattle.reply_reasons.proofs.ToldLaws.{due-parts}

-- ---- one route

-- the nodes that may be reached are the airport's
abbrev IsOf : Airport → Way → Type 0
IsOf airport New = ⊤
IsOf airport (ToAny nodes) = AreNodes airport nodes
IsOf airport (On steps time) = ⊤

module _ (airport : Airport) (well : IsWellFormed airport) (class : Class) (holds : List Hold) where
  abbrev c : Conditions
  c = conditions_among airport class holds

  to_any-same : (asked : Request) (nodes : List Node) → AreNodes airport nodes → (f g : Chosen) → AnswersToAny c asked nodes f → AnswersToAny c asked nodes g → f ≡ g
  to_any-same request.Filed nodes are f g a b = absurd a
  to_any-same (request.Arrival from to time hold) nodes are f g a b =
      AnswersArrivalChoice-same c (LeavesNodeWithin (layout_of airport) from time (time + hold)) nodes well are (one_first_step airport well class holds from time (time + hold)) f g a b
  to_any-same (request.Departure from to time queue) nodes are f g a b = AnswersDepartureChoice-same c from nodes (time - queue) time well are f g a b

  on-same : (asked : Request) (steps : List Step) (time : ℕ) (f g : Found) → AnswersOn c asked steps time f → AnswersOn c asked steps time g → f ≡ g
  on-same request.Filed steps time f g a b = absurd a
  on-same (request.Departure from to asked queue) steps time f g a b = AnswersDeparture-same c from (ReachesNodeWithin (layout_of airport) to (asked - queue) asked) f g a b
  on-same (request.Arrival from to asked hold) steps time f g a b = go (step_begun time steps) a b where
    Leaves : Step → Type 0
    Leaves = LeavesNodeWithin (layout_of airport) from (max asked time) (asked + hold)

    GoesOn : Step → Found → Type 0
    GoesOn begun h = (rest : Found) × (h ≡ after_steps (steps_done time steps) rest) × AnswersArrival c (Resumes begun time) to rest

    go : (o : Option Step) → MatchOption o (AnswersArrival c Leaves to f) (λ begun. GoesOn begun f) → MatchOption o (AnswersArrival c Leaves to g) (λ begun. GoesOn begun g) → f ≡ g
    go None a b = AnswersArrival-same c Leaves to (one_first_step airport well class holds from (max asked time) (asked + hold)) f g a b
    go (Some begun) a b =
        let rests : a.0 ≡ b.0 = AnswersArrival-same c (Resumes begun time) to (HasOneFirstStep-resumes c begun time) a.0 b.0 a.2 b.2 in
        a.1 ∙ ap (after_steps (steps_done time steps)) rests ∙ sym b.1

  picked-same : (asked : Request) (way : Way) (route other : Option (List Step)) → IsOf airport way → IsPickedBy c asked way route → IsPickedBy c asked way other → route ≡ other
  picked-same asked New route other are a b = a.2 ∙ ap route_found (AnswersRequest-same airport well class holds asked a.0 b.0 a.1 b.1) ∙ sym b.2
  picked-same asked (ToAny nodes) route other are a b = a.2 ∙ ap route_chosen (to_any-same asked nodes are a.0 b.0 a.1 b.1) ∙ sym b.2
  picked-same asked (On steps time) route other are a b = a.2 ∙ ap route_found (on-same asked steps time a.0 b.0 a.1 b.1) ∙ sym b.2

-- ---- of what is asked

module _ (airport : Airport) (well : IsWellFormed airport) where
  found-same : (asking : Asking) (others : State) (route other : Option (List Step)) → IsOf airport asking.way
      → IsFoundAmong airport asking others route → IsFoundAmong airport asking others other → route ≡ other
  found-same asking others = picked-same airport well asking.class (holds_in airport others) asking.request asking.way

  module _ (asking : Asking) (are : IsOf airport asking.way) where
    best-same : (others : State) (second other : Option ℕ) → IsBestSecond airport asking others second → IsBestSecond airport asking others other → second ≡ other
    best-same others second other a b = a.2 ∙ ap (second_found asking.request) (found-same asking others a.0 b.0 are a.1 b.1) ∙ sym b.2

    some-same : (x y : ℕ) → ◌≡◌ {A = Option ℕ} (Some x) (Some y) → x ≡ y
    some-same x y e = same_Some x y e

    without-same : (others : State) (answer : Option ℕ) (name : List ℕ) (told other : List Reason)
        → IsWithout airport asking others answer name told → IsWithout airport asking others answer name other → told ≡ other
    without-same others answer name told other (inl a) (inl b) =
        a.3 ∙ ap (λ s. reason.Without name s ∷ []) (some-same a.0 b.0 (best-same (without name others) (Some a.0) (Some b.0) a.1 b.1)) ∙ sym b.3
    without-same others answer name told other (inl a) (inr b) = absurd (true≢false (sym a.2 ∙ b.1 a.0 a.1))
    without-same others answer name told other (inr a) (inl b) = absurd (true≢false (sym b.2 ∙ a.1 b.0 b.1))
    without-same others answer name told other (inr a) (inr b) = a.0 ∙ sym b.0

    left_out-same : (others : State) (answer : Option ℕ) (names : List (List ℕ)) (told other : List Reason)
        → AreWithout airport asking others answer names told → AreWithout airport asking others answer names other → told ≡ other
    left_out-same others answer [] told other a b = a ∙ sym b
    left_out-same others answer (name ∷ names) told other a b =
        a.3 ∙ ap₂ (λ (t : List Reason) (l : List Reason). t ++ l) (without-same others answer name a.0 b.0 a.2 b.2) (left_out-same others answer names a.1 b.1 a.4 b.4) ∙ sym b.3

    route-same : (others : State) (reasons other : List Reason) → IsRouteExplained airport asking others reasons → IsRouteExplained airport asking others other → reasons ≡ other
    route-same others reasons other a b =
        let answers : a.answer ≡ b.answer = found-same asking others a.answer b.answer are a.found b.found in
        let alone : a.alone ≡ b.alone = best-same no_holder a.alone b.alone a.best_alone b.best_alone in
        let frees : a.free ≡ b.free = found-same (asking_freed airport asking) others a.free b.free are a.found_free b.found_free in
        let left_out : a.others_left_out ≡ b.others_left_out =
        left_out-same others (second_found asking.request b.answer) (holder_names others) a.others_left_out b.others_left_out
        (subst (λ r. AreWithout airport asking others (second_found asking.request r) (holder_names others) a.others_left_out) answers a.best_without) b.best_without in
        a.whole
        ∙ (λ i. (reason.Answer (second_found asking.request (answers i)) ∷ reason.Alone (alone i) ∷ [])
        ++ (left_out i ++ (freed_reasons asking.request (second_found asking.request (answers i)) (frees i)
        ++ option_map_or (route_reasons airport asking.class others asking.request) (answers i) [])))
        ∙ sym b.whole

-- ---- of each command

module _ (airport : Airport) where
  by_class-way : (name class_name : List ℕ) (asked : Option Request) (asking : Asking) → asking_by_class airport name class_name asked ≡ Some asking → IsOf airport asking.way
  by_class-way name class_name asked asking is =
      let class = and_then-some _ (class_named airport class_name) asking is in
      let made = map-some (asking_new name class.0) asked asking class.2 in
      subst (λ (a : Asking). IsOf airport a.way) made.2 tt

  any-way : (name : List ℕ) (class : Class) (choice : Choice) (nodes : List Node) (asking : Asking) → AreNodes airport nodes → asking_any name class choice nodes ≡ Some asking → IsOf airport asking.way
  any-way name class choice [] asking are is = absurd (none-some asking is)
  any-way name class choice (node ∷ others) asking are is = subst (λ (a : Asking). IsOf airport a.way) (same_Some _ _ is) are

  to_any-way : (name class_name : List ℕ) (asked : Option Choice) (asking : Asking) → ((choice : Choice) → asked ≡ Some choice → AreNodes airport (nodes_of choice))
      → asking_to_any airport name class_name asked ≡ Some asking → IsOf airport asking.way
  to_any-way name class_name asked asking are is =
      let class = and_then-some _ (class_named airport class_name) asking is in
      let choice = and_then-some (λ choice. asking_any name class.0 choice (nodes_of choice)) asked asking class.2 in
      any-way name class.0 choice.0 (nodes_of choice.0) asking (are choice.0 choice.1) choice.2

  -- the way that a command asks for
  of-way : (state : State) (c : Command) (asking : Asking) → asking_of airport state c ≡ Some asking → IsOf airport asking.way
  of-way state (command.File filed) asking is = absurd (none-some asking is)
  of-way state (command.Arrival asked) asking is = by_class-way asked.flight asked.class (arrival_named airport asked) asking is
  of-way state (command.Departure asked) asking is = by_class-way asked.flight asked.class (departure_named airport asked) asking is
  of-way state (command.Cancel flight) asking is = absurd (none-some asking is)
  of-way state (command.Reroute name time) asking is =
      let made = map-some (λ (flight : Flight). asking_on name flight time flight.request) (flight_named name state.flights) asking is in
      subst (λ (a : Asking). IsOf airport a.way) made.2 tt
  of-way state (command.Divert name time node) asking is =
      let flight = and_then-some _ (flight_named name state.flights) asking is in
      let made = map-some (λ (target : Node). asking_on name flight.0 time (retargeted flight.0.request target)) (node_named airport node) asking flight.2 in
      subst (λ (a : Asking). IsOf airport a.way) made.2 tt
  of-way state (command.Windows segment) asking is = absurd (none-some asking is)
  of-way state (command.Occupancy segment) asking is = absurd (none-some asking is)
  of-way state command.Timetable asking is = absurd (none-some asking is)
  of-way state (command.Work shut) asking is = absurd (none-some asking is)
  of-way state (command.WorkDone name) asking is = absurd (none-some asking is)
  of-way state (command.ArrivalAny asked) asking is =
      to_any-way asked.flight asked.class (arrival_any_named airport asked) asking (λ choice named. (arrival_any-is airport asked choice named).exist) is
  of-way state (command.DepartureAny asked) asking is =
      to_any-way asked.flight asked.class (departure_any_named airport asked) asking (λ choice named. (departure_any-is airport asked choice named).exist) is
  of-way state (command.Batch requests) asking is = absurd (none-some asking is)
  of-way state (command.Late name time until) asking is = absurd (none-some asking is)

module _ (airport : Airport) (well : IsWellFormed airport) (state : State) (reasons other : List Reason) where
  refusal-same : (c : Command) → IsRefusalExplained airport state c reasons → IsRefusalExplained airport state c other → reasons ≡ other
  refusal-same c a b = go (taking_due airport state c) a b where
    go : (o : Option Taking) → MatchOption o (reasons ≡ reason.Nothing ∷ []) (λ taking. AreTakenReasons airport state taking reasons)
        → MatchOption o (other ≡ reason.Nothing ∷ []) (λ taking. AreTakenReasons airport state taking other) → reasons ≡ other
    go None a b = a ∙ sym b
    go (Some taking) a b =
        let rows : a.0 ≡ b.0 = AreHeldRows-same airport state taking.hold.segment a.0 b.0 a.1 b.1 in
        a.2 ∙ ap (λ (l : List HeldRow). reason.Refused taking.blocked.step taking.blocked.at taking.blocked.by ∷ map held_reason (filter (shares taking.hold.span) l)) rows ∙ sym b.2

  command-same : (c : Command) → IsCommandExplained airport state c reasons → IsCommandExplained airport state c other → reasons ≡ other
  command-same c a b = go (asking_due airport state c) refl a b where
    go : (o : Option Asking) → asking_due airport state c ≡ o
        → MatchOption o (IsRefusalExplained airport state c reasons) (λ asking. IsRouteExplained airport asking (without asking.name state) reasons)
        → MatchOption o (IsRefusalExplained airport state c other) (λ asking. IsRouteExplained airport asking (without asking.name state) other) → reasons ≡ other
    go None none a b = refusal-same c a b
    go (Some asking) due a b = route-same airport well asking (of-way airport state c asking (due-parts airport state c asking due).1) (without asking.name state) reasons other a b

  pub explained-same : (line : List ℕ) → IsExplained airport state line reasons → IsExplained airport state line other → reasons ≡ other
  explained-same line a b = go (command_of line) a b where
    go : (o : Option Command) → MatchOption o (reasons ≡ reason.Nothing ∷ []) (λ c. IsCommandExplained airport state c reasons)
        → MatchOption o (other ≡ reason.Nothing ∷ []) (λ c. IsCommandExplained airport state c other) → reasons ≡ other
    go None a b = a ∙ sym b
    go (Some c) a b = command-same c a b
