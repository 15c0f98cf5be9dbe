-- A line has one due reply: what carries a command out is one block and one state.
use Rattle.std.proofs.Common.{◌≡◌, ℕ, ◌+◌, ◌-◌, max, List, Option, Some, None, sym, ◌∙◌, ap, subst}
use Rattle.std.specs.Prelude.{MatchOption}
use Rattle.taxi_base.specs.declared.numbers.Class.{Class}
use Rattle.taxi_base.specs.declared.numbers.Node.{Node}
use Rattle.taxi_base.specs.declared.rows.Step.{Step}
use Rattle.taxi_base.specs.declared.answers.Flight.{Flight}
use Rattle.taxi_base.specs.declared.answers.Found.{Found}
use Rattle.taxi_base.specs.declared.answers.Request.{Request}
use Rattle.taxi_base.specs.declared.answers.Request.TheVariants as request
use Rattle.taxi_base.specs.declared.answers.Refusal.{Refusal}
use Rattle.taxi_base.specs.declared.answers.Refusal.TheVariants as refusal
use Rattle.taxi_base.specs.Airport.{Airport, IsWellFormed, layout_of, class_named, node_named, segment_named}
use Rattle.taxi_base.specs.Windows.{Hold}
use Rattle.taxi_base.specs.Walks.{Conditions, conditions_among, LeavesNodeWithin, ReachesNodeWithin, Resumes}
use Rattle.taxi_base.specs.Labels.{AnswersArrival}
use Rattle.taxi_base.specs.State.{State, with_route, without, holds_in, step_begun, steps_done}
use Rattle.taxi_base.specs.Again.{retargeted, IsTarget, after_steps, AnswersAgain}
use Rattle.taxi_base.specs.Reports.{AreHeldRows}
use Rattle.taxi_base.proofs.ReportLaws.{AreHeldRows-same}
use Rattle.taxi_base.proofs.LabelLaws.{HasOneFirstStep-resumes}
use Rattle.taxi_base.specs.declared.answers.Chosen.{Chosen}
use Rattle.taxi_base.proofs.ChoiceLaws.{AreNodes, AnswersArrivalChoice-same, AnswersDepartureChoice-same}
use Rattle.taxi_base.proofs.AnswerLaws.{AnswersArrival-same, AnswersDeparture-same}
use Rattle.taxi_text.specs.declared.command.Command.{Command}
use Rattle.taxi_text.specs.declared.command.Command.TheVariants as command
use Rattle.taxi_text.specs.Commands.{command_of}
use Rattle.replies.specs.declared.block.Block.{Block}
use Rattle.replies.specs.Asked.{route_filed, party_of, arrival_named, departure_named, Choice, arrival_any, departure_any, nodes_of, arrival_any_named, departure_any_named, AnswersChoice}
use Rattle.replies.specs.Refusals.{first_refusal}
use Rattle.replies.specs.CarriedOut.{IsOf, filed_reply, found_reply, IsRoutedAs, IsRouted, chosen_reply, IsRoutedToOne, IsRoutedAgain, shut_reply, opened_reply, cancelled_reply, windows_reply, occupancy_reply, timetable_reply, IsCarriedOut}
use Rattle.replies.specs.Replies.{refused, IsDueTo, IsDue}
use Rattle.replies.proofs.ChoiceNames.{arrival_any-is, departure_any-is}
use Rattle.replies.proofs.RoutedLaws.{one-some, one_first_step, AreSame, of_one, of_same, IsRoutedAs-same}
use Rattle.replies.proofs.OrderLaws.{IsBatched-same}
use Rattle.replies.proofs.LateTold.{IsRepairTold-same}

module _ (airport : Airport) (well : IsWellFormed airport) (class : Class) (holds : List Hold) where
  abbrev c : Conditions
  c = conditions_among airport class holds

  AnswersChoice-same : (choice : Choice) → AreNodes airport (nodes_of choice) → (f g : Chosen) → AnswersChoice c choice f → AnswersChoice c choice g → f ≡ g
  AnswersChoice-same (arrival_any from to time hold) are f g a b =
      AnswersArrivalChoice-same c (LeavesNodeWithin (layout_of airport) from time (time + hold)) to well are (one_first_step airport well class holds from time (time + hold)) f g a b
  AnswersChoice-same (departure_any from to time queue) are f g a b = AnswersDepartureChoice-same c from to (time - queue) time well are f g a b

  AnswersAgain-same : (old : List Step) (time : ℕ) (target : Node) (request : Request) (f g : Found)
      → AnswersAgain c old time target request f → AnswersAgain c old time target request g → f ≡ g
  AnswersAgain-same old time target request.Filed f g a b = absurd a
  AnswersAgain-same old time target (request.Departure from to asked queue) f g a b =
      AnswersDeparture-same c from (ReachesNodeWithin (layout_of airport) target (asked - queue) asked) f g a b
  AnswersAgain-same old time target (request.Arrival from to asked hold) f g a b = go (step_begun time old) a b where
    Leaves : Step → Type 0
    Leaves = LeavesNodeWithin (layout_of airport) from (max asked time) (asked + hold)

    GoesOn : Step → Found → Type 0
    GoesOn begun h = (rest : Found) × (h ≡ after_steps (steps_done time old) rest) × AnswersArrival c (Resumes begun time) target rest

    go : (o : Option Step) → MatchOption o (AnswersArrival c Leaves target f) (λ begun. GoesOn begun f) → MatchOption o (AnswersArrival c Leaves target g) (λ begun. GoesOn begun g) → f ≡ g
    go None a b = AnswersArrival-same c Leaves target (one_first_step airport well class holds from (max asked time) (asked + hold)) f g a b
    go (Some begun) a b =
        let rests : a.0 ≡ b.0 = AnswersArrival-same c (Resumes begun time) target (HasOneFirstStep-resumes c begun time) a.0 b.0 a.2 b.2 in
        a.1 ∙ ap (after_steps (steps_done time old)) rests ∙ sym b.1

-- ---- a command is carried out in one way

module _ (block : Block) (after : State) (other : Block) (others : State) where
  module _ (airport : Airport) (state : State) where
    IsRouted-same : IsWellFormed airport → (name class : List ℕ) (asked : Option Request)
        → IsRouted airport state name class asked block after → IsRouted airport state name class asked other others → AreSame block after other others
    IsRouted-same well name class asked a b =
        let classes : a.class ≡ b.class = one-some (class_named airport class) a.class b.class a.class_known b.class_known in
        let requests : a.request ≡ b.request = one-some asked a.request b.request a.nodes_known b.nodes_known in
        let routed : IsRoutedAs airport state name a.class a.request other others =
        subst (λ r. IsRoutedAs airport state name a.class r other others) (sym requests)
        (subst (λ k. IsRoutedAs airport state name k b.request other others) (sym classes) b.routed) in
        IsRoutedAs-same airport state well name a.class a.request a.routed routed

    -- where the nodes of what is asked are the airport's
    pub IsRoutedToOne-same : IsWellFormed airport → (name class : List ℕ) (asked : Option Choice) → ((choice : Choice) → asked ≡ Some choice → AreNodes airport (nodes_of choice))
        → IsRoutedToOne airport state name class asked block after → IsRoutedToOne airport state name class asked other others → AreSame block after other others
    IsRoutedToOne-same well name class asked are a b =
        let classes : a.class ≡ b.class = one-some (class_named airport class) a.class b.class a.class_known b.class_known in
        let choices : a.choice ≡ b.choice = one-some asked a.choice b.choice a.nodes_known b.nodes_known in
        let answers : AnswersChoice (conditions_among airport a.class (holds_in airport state)) a.choice b.chosen =
        subst (λ r. AnswersChoice (conditions_among airport a.class (holds_in airport state)) r b.chosen) (sym choices)
        (subst (λ k. AnswersChoice (conditions_among airport k (holds_in airport state)) b.choice b.chosen) (sym classes) b.answers) in
        let same : a.chosen ≡ b.chosen = AnswersChoice-same airport well a.class (holds_in airport state) a.choice (are a.choice a.nodes_known) a.chosen b.chosen a.answers answers in
        of_same (chosen_reply state name a.class a.choice a.chosen) (chosen_reply state name b.class b.choice b.chosen)
        (λ i. chosen_reply state name (classes i) (choices i) (same i)) a.reply b.reply

    -- where a request means one node
    pub IsRoutedAgain-same : IsWellFormed airport → (name : List ℕ) (time : ℕ) (IsMeant : Request → Node → Type 0)
        → ((request : Request) (m n : Node) → IsMeant request m → IsMeant request n → m ≡ n)
        → IsRoutedAgain airport state name time IsMeant block after → IsRoutedAgain airport state name time IsMeant other others → AreSame block after other others
    IsRoutedAgain-same well name time IsMeant one a b =
        let flights : a.flight ≡ b.flight = one-some _ a.flight b.flight a.in_force b.in_force in
        let meant : IsMeant a.flight.request b.target = subst (λ (f : Flight). IsMeant f.request b.target) (sym flights) b.meant in
        let targets : a.target ≡ b.target = one a.flight.request a.target b.target a.meant meant in
        let holds : List Hold = holds_in airport (without a.flight.name state) in
        let answers : AnswersAgain (conditions_among airport a.flight.class holds) a.flight.steps time a.target a.flight.request b.found =
        subst (λ n. AnswersAgain (conditions_among airport a.flight.class holds) a.flight.steps time n a.flight.request b.found) (sym targets)
        (subst (λ (f : Flight). AnswersAgain (conditions_among airport f.class (holds_in airport (without f.name state))) f.steps time b.target f.request b.found) (sym flights) b.answers) in
        let founds : a.found ≡ b.found = AnswersAgain-same airport well a.flight.class holds a.flight.steps time a.target a.flight.request a.found b.found a.answers answers in
        of_same (found_reply state name a.flight.request (λ steps. with_route a.flight (retargeted a.flight.request a.target) steps state) a.found)
        (found_reply state name b.flight.request (λ steps. with_route b.flight (retargeted b.flight.request b.target) steps state) b.found)
        (λ i. found_reply state name (flights i).request (λ steps. with_route (flights i) (retargeted (flights i).request (targets i)) steps state) (founds i)) a.reply b.reply

    one-target : (request : Request) (m n : Node) → IsTarget request m → IsTarget request n → m ≡ n
    one-target request.Filed m n a b = absurd a
    one-target (request.Arrival from to time hold) m n a b = sym a ∙ b
    one-target (request.Departure from to time queue) m n a b = sym a ∙ b

    pub IsCarriedOut-same : IsWellFormed airport → (c : Command) → IsCarriedOut airport state c block after → IsCarriedOut airport state c other others → AreSame block after other others
    IsCarriedOut-same well (command.File filed) a b =
        let classes : a.class ≡ b.class = one-some (class_named airport filed.class) a.class b.class a.class_known b.class_known in
        let steps : a.steps ≡ b.steps = one-some (route_filed airport filed) a.steps b.steps a.steps_known b.steps_known in
        of_same (filed_reply state filed.flight a.class a.steps) (filed_reply state filed.flight b.class b.steps) (λ i. filed_reply state filed.flight (classes i) (steps i)) a.reply b.reply
    IsCarriedOut-same well (command.Arrival asked) a b = IsRouted-same well asked.flight asked.class (arrival_named airport asked) a b
    IsCarriedOut-same well (command.Departure asked) a b = IsRouted-same well asked.flight asked.class (departure_named airport asked) a b
    IsCarriedOut-same well (command.Cancel flight) a b = of_one (cancelled_reply state flight) a b
    IsCarriedOut-same well (command.Reroute flight time) a b = IsRoutedAgain-same well flight time IsTarget one-target a b
    IsCarriedOut-same well (command.Divert flight time node) a b =
        IsRoutedAgain-same well flight time (λ asked target. node_named airport node ≡ Some target) (λ asked m n p q. one-some (node_named airport node) m n p q) a b
    IsCarriedOut-same well (command.Windows segment) a b =
        let segments : a.segment ≡ b.segment = one-some (segment_named airport segment) a.segment b.segment a.known b.known in
        of_same (windows_reply airport state a.segment) (windows_reply airport state b.segment) (ap (windows_reply airport state) segments) a.reply b.reply
    IsCarriedOut-same well (command.Occupancy segment) a b =
        let segments : a.segment ≡ b.segment = one-some (segment_named airport segment) a.segment b.segment a.known b.known in
        let held : AreHeldRows airport state a.segment b.rows = subst (λ s. AreHeldRows airport state s b.rows) (sym segments) b.held in
        let rows : a.rows ≡ b.rows = AreHeldRows-same airport state a.segment a.rows b.rows a.held held in
        of_same (occupancy_reply state a.segment a.rows) (occupancy_reply state b.segment b.rows) (λ i. occupancy_reply state (segments i) (rows i)) a.reply b.reply
    IsCarriedOut-same well command.Timetable a b = of_one (timetable_reply state) a b
    IsCarriedOut-same well (command.Work shut) a b =
        let segments : a.segment ≡ b.segment = one-some (segment_named airport shut.segment) a.segment b.segment a.segment_known b.segment_known in
        of_same (shut_reply state (party_of shut a.segment)) (shut_reply state (party_of shut b.segment)) (ap (λ s. shut_reply state (party_of shut s)) segments) a.reply b.reply
    IsCarriedOut-same well (command.WorkDone name) a b = of_one (opened_reply state name) a b
    IsCarriedOut-same well (command.ArrivalAny asked) a b =
        IsRoutedToOne-same well asked.flight asked.class (arrival_any_named airport asked) (λ choice named. (arrival_any-is airport asked choice named).exist) a b
    IsCarriedOut-same well (command.DepartureAny asked) a b =
        IsRoutedToOne-same well asked.flight asked.class (departure_any_named airport asked) (λ choice named. (departure_any-is airport asked choice named).exist) a b
    IsCarriedOut-same well (command.Batch requests) a b = IsBatched-same airport state well requests a b
    IsCarriedOut-same well (command.Late name time until) a b = IsRepairTold-same airport state well name time until block after other others a b

    IsDueTo-same : IsWellFormed airport → (c : Command) → IsDueTo airport state c block after → IsDueTo airport state c other others → AreSame block after other others
    IsDueTo-same well c a b = go (first_refusal airport state c) a b where
      go : (o : Option Refusal) → MatchOption o (IsCarriedOut airport state c block after) (λ why. IsOf (refused state why) block after)
          → MatchOption o (IsCarriedOut airport state c other others) (λ why. IsOf (refused state why) other others) → AreSame block after other others
      go None a b = IsCarriedOut-same well c a b
      go (Some why) a b = of_one (refused state why) a b

    -- a line is due one reply
    pub IsDue-same : IsWellFormed airport → (line : List ℕ) → IsDue airport state line block after → IsDue airport state line other others → AreSame block after other others
    unfolding IsDue
    IsDue-same well line a b = go (command_of line) a b where
      go : (o : Option Command) → MatchOption o (IsOf (refused state refusal.BadLine) block after) (λ c. IsDueTo airport state c block after)
          → MatchOption o (IsOf (refused state refusal.BadLine) other others) (λ c. IsDueTo airport state c other others) → AreSame block after other others
      go None a b = of_one (refused state refusal.BadLine) a b
      go (Some c) a b = IsDueTo-same well c a b
