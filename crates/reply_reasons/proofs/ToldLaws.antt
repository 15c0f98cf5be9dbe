-- The second that a reply tells is the best second of what its line asks for.
use Rattle.std.proofs.Common.{◌≡◌, ◌∙◌, ℕ, ◌<◌, List, [], ◌∷◌, length, Option, Some, None, IsFalse, refl, sym, ap, subst, arith}
use Rattle.std.specs.Prelude.{◌↔◌, slice_get, IfSome, MatchOption}
use Rattle.std.specs.Option.{option_map_or}
use Rattle.std.proofs.lemmas.Bool.{and_parts, ltb-true, ltb-false}
use Rattle.std.proofs.lemmas.Option.{none-some, same_Some}
use Rattle.std.proofs.Math.Nat.{le_antisymm}
use Rattle.taxi_base.specs.declared.numbers.Class.{Class}
use Rattle.taxi_base.specs.declared.numbers.Node.{Node}
use Rattle.taxi_base.specs.declared.rows.Step.{Step}
use Rattle.taxi_base.specs.declared.answers.Refusal.{Refusal}
use Rattle.taxi_base.specs.declared.answers.Refusal.TheVariants as refusal
use Rattle.taxi_base.specs.declared.answers.Request.{Request}
use Rattle.taxi_base.specs.declared.answers.Request.TheVariants as request
use Rattle.taxi_base.specs.declared.answers.Found.{Found}
use Rattle.taxi_base.specs.declared.answers.Found.TheVariants as found
use Rattle.taxi_base.specs.declared.answers.Chosen.{Chosen}
use Rattle.taxi_base.specs.declared.answers.Chosen.TheVariants as chosen
use Rattle.taxi_base.specs.Airport.{Airport, class_named, node_named}
use Rattle.taxi_base.specs.Walks.{Conditions}
use Rattle.taxi_base.specs.State.{State, has_holder, without}
use Rattle.taxi_base.specs.Faults.{conditions_in}
use Rattle.taxi_base.specs.Again.{retargeted, IsTarget, AnswersAgain}
use Rattle.taxi_text.specs.declared.command.Command.{Command}
use Rattle.taxi_text.specs.declared.command.Command.TheVariants as command
use Rattle.taxi_text.specs.Commands.{command_of}
use Rattle.replies.specs.declared.block.Block.{Block}
use Rattle.replies.specs.declared.block.Block.TheVariants.{Refused}
use Rattle.replies.specs.Asked.{IsInGrammar, arrival_named, departure_named, Choice, arrival_any, departure_any, nodes_of, request_for, arrival_any_named, departure_any_named, AnswersRequest, AnswersChoice}
use Rattle.replies.specs.Refusals.{first_refusal}
use Rattle.replies.specs.Replies.{refused, IsDueTo, IsDue}
use Rattle.replies.specs.CarriedOut.{IsOf, found_reply, second_of, chosen_reply, IsRouted, IsRoutedToOne, IsRoutedAgain, IsCarriedOut}
use Rattle.replies.proofs.FiledLaws.{and_then-some}
use Rattle.replies.proofs.FlightLaws.{flight_named-name, without-none}
use Rattle.replies.proofs.GrammarLaws.{command_of-in_grammar}
use Rattle.replies.proofs.RefusalLaws.{arrival-has_room, departure-has_room, arrival_any-has_room, departure_any-has_room}
use Rattle.replies.proofs.ChoiceNames.{arrival_any-is, departure_any-is}
use Rattle.reply_reasons.specs.declared.asking.Asking.{Asking}
use Rattle.reply_reasons.specs.declared.asking.Way.TheVariants.{ToAny}
use Rattle.reply_reasons.specs.declared.reason.Reason.{Reason}
use Rattle.reply_reasons.specs.declared.reason.Reason.TheVariants as reason
use Rattle.reply_reasons.specs.Asking.{asking_new, asking_any, asking_on, asking_by_class, asking_to_any, asking_of, asking_due}
use Rattle.reply_reasons.specs.Routes.{route_found, route_chosen, AnswersToAny, AnswersOn, IsFoundAmong, second_found, is_gain}
use Rattle.reply_reasons.specs.Taken.{Taking, taking_due, AreTakenReasons}
use Rattle.reply_reasons.specs.Explained.{IsRouteExplained, IsRefusalExplained, IsCommandExplained, IsExplained}
use Rattle.reply_reasons.specs.Told.{second_told}
use Rattle.reply_reasons.proofs.FewerLaws.{same-no_gain}

-- ---- one best second

same-second : (asked : Request) (a b : Option ℕ) → IsFalse (is_gain asked a b) → IsFalse (is_gain asked b a) → a ≡ b
same-second asked None None first next = refl
same-second asked (Some a) None first next = absurd (cc first)
same-second asked None (Some b) first next = absurd (cc next)
same-second request.Filed (Some a) (Some b) first next = ap Some (le_antisymm (ltb-false b a next) (ltb-false a b first))
same-second (request.Arrival from to time hold) (Some a) (Some b) first next = ap Some (le_antisymm (ltb-false b a next) (ltb-false a b first))
same-second (request.Departure from to time queue) (Some a) (Some b) first next = ap Some (le_antisymm (ltb-false b a first) (ltb-false a b next))

pub one-second : (airport : Airport) (asking : Asking) (state : State) (route other : Option (List Step)) → IsFoundAmong airport asking state route → IsFoundAmong airport asking state other
    → second_found asking.request route ≡ second_found asking.request other
one-second airport asking state route other found also =
    let a = second_found asking.request route in
    let b = second_found asking.request other in
    same-second asking.request a b (same-no_gain airport asking state a b (route, found, refl) (other, also, refl)) (same-no_gain airport asking state b a (other, also, refl) (route, found, refl))

answer-same : (a b : Option ℕ) → reason.Answer a ≡ reason.Answer b → a ≡ b
answer-same a b e = cc

-- ---- what a block tells

found-told : (state : State) (name : List ℕ) (asked : Request) (with_steps : List Step → State) (answer : Found)
    → second_told (found_reply state name asked with_steps answer).block ≡ Some (second_found asked (route_found answer))
found-told state name asked with_steps (found.Route steps labels) = refl
found-told state name asked with_steps (found.NoRoute labels) = refl

-- the node makes no difference
retargeted-second : (asked : Request) (target : Node) (route : Option (List Step)) → second_found asked route ≡ second_found (retargeted asked target) route
retargeted-second request.Filed target route = refl
retargeted-second (request.Arrival from to time hold) target route = refl
retargeted-second (request.Departure from to time queue) target route = refl

choice-second : (choice : Choice) (a b : Node) (steps : List Step) → second_of (request_for choice a) steps ≡ second_of (request_for choice b) steps
choice-second (arrival_any from to time hold) a b steps = refl
choice-second (departure_any from to time queue) a b steps = refl

chosen-told : (state : State) (name : List ℕ) (class : Class) (choice : Choice) (node : Node) (answer : Chosen)
    → second_told (chosen_reply state name class choice answer).block ≡ Some (second_found (request_for choice node) (route_chosen answer))
chosen-told state name class choice node (chosen.Route to steps labels) = ap (λ s. Some (Some s)) (choice-second choice to node steps)
chosen-told state name class choice node (chosen.NoRoute labels) = refl

-- ---- the answers that are told, as those of what is asked

answers-any : (c : Conditions) (choice : Choice) (node : Node) (nodes : List Node) (answer : Chosen) → nodes_of choice ≡ nodes → AnswersChoice c choice answer
    → AnswersToAny c (request_for choice node) nodes answer
answers-any c (arrival_any from to time hold) node nodes answer are answers = subst (λ (l : List Node). AnswersChoice c (arrival_any from l time hold) answer) are answers
answers-any c (departure_any from to time queue) node nodes answer are answers = subst (λ (l : List Node). AnswersChoice c (departure_any from l time queue) answer) are answers

answers-on : (c : Conditions) (asked : Request) (target : Node) (steps : List Step) (time : ℕ) (answer : Found) → IsTarget asked target → AnswersAgain c steps time target asked answer
    → AnswersOn c asked steps time answer
answers-on c request.Filed target steps time answer is answers = absurd is
answers-on c (request.Arrival from to asked hold) target steps time answer is answers =
    subst (λ (n : Node). AnswersAgain c steps time n (request.Arrival from to asked hold) answer) (sym is) answers
answers-on c (request.Departure from to asked queue) target steps time answer is answers =
    subst (λ (n : Node). AnswersAgain c steps time n (request.Departure from to asked queue) answer) (sym is) answers

answers-to : (c : Conditions) (asked : Request) (target : Node) (steps : List Step) (time : ℕ) (answer : Found) → AnswersAgain c steps time target asked answer
    → AnswersOn c (retargeted asked target) steps time answer
answers-to c request.Filed target steps time answer answers = absurd answers
answers-to c (request.Arrival from to asked hold) target steps time answer answers = answers
answers-to c (request.Departure from to asked queue) target steps time answer answers = answers

-- ---- of each command that asks for a route

module _ (airport : Airport) (state : State) (block : Block) (after : State) where
  -- a route is found for what is asked among the others, or none, and the block tells its second
  pub record IsTold (asking : Asking) : Type 0 where
    pub route : Option (List Step)
    pub found : IsFoundAmong airport asking (without asking.name state) route
    pub second : second_told block ≡ Some (second_found asking.request route)

  routed-told : (name class_name : List ℕ) (asked : Option Request) (asking : Asking) → IsFalse (has_holder name state) → asking_by_class airport name class_name asked ≡ Some asking
      → IsRouted airport state name class_name asked block after → IsTold asking
  routed-told name class_name asked asking absent is done =
      let same : asking_new name done.class done.request ≡ asking = same_Some _ _ (rw (done.class_known, done.nodes_known) at is) in
      subst IsTold same
      (record {
        route = route_found done.routed.found;
        found = (
          done.routed.found,
          subst (λ (s : State). AnswersRequest (conditions_in airport done.class s) done.request done.routed.found) (sym (without-none name state absent)) done.routed.answers,
          refl,
        );
        second = ap second_told done.routed.reply.0 ∙ found-told state name done.request _ done.routed.found;
      })

  to_one-told : (name class_name : List ℕ) (asked : Option Choice) (asking : Asking) → IsFalse (has_holder name state) → asking_to_any airport name class_name asked ≡ Some asking
      → IsRoutedToOne airport state name class_name asked block after → IsTold asking
  to_one-told name class_name asked asking absent is done = go (nodes_of done.choice) refl (rw (done.class_known, done.nodes_known) at is) where
    go : (nodes : List Node) → nodes_of done.choice ≡ nodes → asking_any name done.class done.choice (nodes_of done.choice) ≡ Some asking → IsTold asking
    go [] are e = absurd (none-some asking (rw are at e))
    go (node ∷ others) are e =
        subst IsTold (same_Some _ _ (rw are at e))
        (record {
          route = route_chosen done.chosen;
          found = (
            done.chosen,
            subst (λ (s : State). AnswersToAny (conditions_in airport done.class s) (request_for done.choice node) (node ∷ others) done.chosen) (sym (without-none name state absent))
                (answers-any (conditions_in airport done.class state) done.choice node (node ∷ others) done.chosen are done.answers),
            refl,
          );
          second = ap second_told done.reply.0 ∙ chosen-told state name done.class done.choice node done.chosen;
        })

  -- of a flight in force, for a request that asks for the node that is meant
  again-told : (name : List ℕ) (time : ℕ) (IsMeant : Request → Node → Type 0) (done : IsRoutedAgain airport state name time IsMeant block after) (asked : Request)
      → AnswersOn (conditions_in airport done.flight.class (without done.flight.name state)) asked done.flight.steps time done.found
      → second_found done.flight.request (route_found done.found) ≡ second_found asked (route_found done.found)
      → IsTold (asking_on name done.flight time asked)
  again-told name time IsMeant done asked answers same =
      let named : done.flight.name ≡ name = flight_named-name name state.flights done.flight done.in_force in
      record {
        route = route_found done.found;
        found = (
          done.found,
          subst (λ (n : List ℕ). AnswersOn (conditions_in airport done.flight.class (without n state)) asked done.flight.steps time done.found) named answers,
          refl,
        );
        second = ap second_told done.reply.0 ∙ found-told state name done.flight.request _ done.found ∙ ap Some same;
      }

  pub of-told : (command : Command) (asking : Asking) → first_refusal airport state command ≡ None → asking_of airport state command ≡ Some asking
      → IsCarriedOut airport state command block after → IsTold asking
  of-told (command.File filed) asking none is done = absurd (none-some asking is)
  of-told (command.Arrival asked) asking none is done = routed-told asked.flight asked.class (arrival_named airport asked) asking (arrival-has_room airport state asked none).absent is done
  of-told (command.Departure asked) asking none is done =
      routed-told asked.flight asked.class (departure_named airport asked) asking (departure-has_room airport state asked none).absent is done
  of-told (command.Cancel flight) asking none is done = absurd (none-some asking is)
  of-told (command.Reroute name time) asking none is done =
      let same : asking_on name done.flight time done.flight.request ≡ asking = same_Some _ _ (rw done.in_force at is) in
      subst IsTold same
      (again-told name time IsTarget done done.flight.request
      (answers-on (conditions_in airport done.flight.class (without done.flight.name state)) done.flight.request done.target done.flight.steps time done.found done.meant done.answers) refl)
  of-told (command.Divert name time node) asking none is done =
      let same : asking_on name done.flight time (retargeted done.flight.request done.target) ≡ asking = same_Some _ _ (rw (done.in_force, done.meant) at is) in
      subst IsTold same
      (again-told name time (λ asked target. node_named airport node ≡ Some target) done (retargeted done.flight.request done.target)
      (answers-to (conditions_in airport done.flight.class (without done.flight.name state)) done.flight.request done.target done.flight.steps time done.found done.answers)
      (retargeted-second done.flight.request done.target (route_found done.found)))
  of-told (command.Windows segment) asking none is done = absurd (none-some asking is)
  of-told (command.Occupancy segment) asking none is done = absurd (none-some asking is)
  of-told command.Timetable asking none is done = absurd (none-some asking is)
  of-told (command.Work shut) asking none is done = absurd (none-some asking is)
  of-told (command.WorkDone name) asking none is done = absurd (none-some asking is)
  of-told (command.ArrivalAny asked) asking none is done =
      to_one-told asked.flight asked.class (arrival_any_named airport asked) asking (arrival_any-has_room airport state asked none).absent is done
  of-told (command.DepartureAny asked) asking none is done =
      to_one-told asked.flight asked.class (departure_any_named airport asked) asking (departure_any-has_room airport state asked none).absent is done
  of-told (command.Batch requests) asking none is done = absurd (none-some asking is)
  of-told (command.Late name time until) asking none is done = absurd (none-some asking is)

  -- ---- where a second is told

  untold : (other : Block) (second : Option ℕ) → block ≡ other → second_told other ≡ None → second_told block ≡ Some second → ⊥
  untold other second is none told = none-some second (sym none ∙ sym (ap second_told is) ∙ told)

  any-there : (name class_name : List ℕ) (asked : Option Choice) (class : Class) (choice : Choice) → class_named airport class_name ≡ Some class → asked ≡ Some choice → 0 < length (nodes_of choice)
      → (asking : Asking) × (asking_to_any airport name class_name asked ≡ Some asking)
  any-there name class_name asked class choice known named some = let r = go (nodes_of choice) refl some in (r.0, rw (known, named) r.1) where
    go : (nodes : List Node) → nodes_of choice ≡ nodes → 0 < length nodes → (asking : Asking) × (asking_any name class choice (nodes_of choice) ≡ Some asking)
    go [] are some = absurd (omega arith)
    go (node ∷ others) are some = (record { name = name; class = class; request = request_for choice node; way = ToAny (node ∷ others) }, rw are refl)

  -- a route is asked for
  asking-there : (command : Command) (second : Option ℕ) → IsInGrammar command → IsCarriedOut airport state command block after → second_told block ≡ Some second
      → (asking : Asking) × (asking_of airport state command ≡ Some asking)
  asking-there (command.File filed) second spoken done told = absurd (untold _ second done.reply.0 refl told)
  asking-there (command.Arrival asked) second spoken done told = (asking_new asked.flight done.class done.request, rw (done.class_known, done.nodes_known) refl)
  asking-there (command.Departure asked) second spoken done told = (asking_new asked.flight done.class done.request, rw (done.class_known, done.nodes_known) refl)
  asking-there (command.Cancel flight) second spoken done told = absurd (untold _ second done.0 refl told)
  asking-there (command.Reroute name time) second spoken done told = (asking_on name done.flight time done.flight.request, rw done.in_force refl)
  asking-there (command.Divert name time node) second spoken done told = (asking_on name done.flight time (retargeted done.flight.request done.target), rw (done.in_force, done.meant) refl)
  asking-there (command.Windows segment) second spoken done told = absurd (untold _ second done.reply.0 refl told)
  asking-there (command.Occupancy segment) second spoken done told = absurd (untold _ second done.reply.0 refl told)
  asking-there command.Timetable second spoken done told = absurd (untold _ second done.0 refl told)
  asking-there (command.Work shut) second spoken done told = absurd (untold _ second done.reply.0 refl told)
  asking-there (command.WorkDone name) second spoken done told = absurd (untold _ second done.0 refl told)
  asking-there (command.ArrivalAny asked) second spoken done told =
      any-there asked.flight asked.class (arrival_any_named airport asked) done.class done.choice done.class_known done.nodes_known
      (let is = arrival_any-is airport asked done.choice done.nodes_known in omega (arith, ltb-true 0 (length asked.nodes) (and_parts _ _ spoken.3).0, is.as_many))
  asking-there (command.DepartureAny asked) second spoken done told =
      any-there asked.flight asked.class (departure_any_named airport asked) done.class done.choice done.class_known done.nodes_known
      (let is = departure_any-is airport asked done.choice done.nodes_known in omega (arith, ltb-true 0 (length asked.nodes) (and_parts _ _ spoken.3).0, is.as_many))
  asking-there (command.Batch requests) second spoken done told = absurd (untold _ second done.block_is refl told)
  asking-there (command.Late name time until) second spoken done told = absurd (untold _ second done.block_is refl told)

-- ---- the explanation of a reply

module _ (airport : Airport) (state : State) where
  -- nothing refuses what is asked for where a route is due
  pub due-parts : (command : Command) (asking : Asking) → asking_due airport state command ≡ Some asking → (first_refusal airport state command ≡ None) × (asking_of airport state command ≡ Some asking)
  due-parts command asking due =
      let found = and_then-some (λ asking. option_map_or (λ why. None) (first_refusal airport state command) (Some asking)) (asking_of airport state command) asking due in
      go found.0 found.1 (first_refusal airport state command) refl found.2
    where
      go : (other : Asking) → asking_of airport state command ≡ Some other → (o : Option Refusal) → first_refusal airport state command ≡ o → option_map_or (λ (why : Refusal). None) o (Some other) ≡ Some asking
          → (first_refusal airport state command ≡ None) × (asking_of airport state command ≡ Some asking)
      go other is None none same = (none, is ∙ same)
      go other is (Some why) some same = absurd (none-some asking same)

  -- the second told is that of the answer that is explained
  pub carried-told : (command : Command) (asking : Asking) (block : Block) (after : State) (reasons : List Reason) → asking_due airport state command ≡ Some asking
      → IsCarriedOut airport state command block after → (told : IsRouteExplained airport asking (without asking.name state) reasons) → second_told block ≡ Some (second_found asking.request told.answer)
  carried-told command asking block after reasons due done told =
      let parts = due-parts command asking due in
      let is = of-told airport state block after command asking parts.0 parts.1 done in
      is.second ∙ ap Some (one-second airport asking (without asking.name state) is.route told.answer is.found told.found)

  -- of a route that is explained
  first-line : (asking : Asking) (others : State) (reasons : List Reason) (told : IsRouteExplained airport asking others reasons)
      → slice_get reasons 0 ≡ Some (reason.Answer (second_found asking.request told.answer))
  first-line asking others reasons told = ap (λ r. slice_get r 0) told.whole

  command-told : (command : Command) (block : Block) (after : State) (reasons : List Reason) (second : Option ℕ) → IsInGrammar command → IsDueTo airport state command block after
      → IsCommandExplained airport state command reasons → (second_told block ≡ Some second) ↔ (slice_get reasons 0 ≡ Some (reason.Answer second))
  command-told command block after reasons second spoken due explained = (forward, backward) where
    forward : second_told block ≡ Some second → slice_get reasons 0 ≡ Some (reason.Answer second)
    forward told = go (first_refusal airport state command) refl due where
      go : (o : Option Refusal) → first_refusal airport state command ≡ o → MatchOption o (IsCarriedOut airport state command block after) (λ why. IsOf (refused state why) block after)
          → slice_get reasons 0 ≡ Some (reason.Answer second)
      go None none done =
          let asking = asking-there airport state block after command second spoken done told in
          let is_due : asking_due airport state command ≡ Some asking.0 = rw (asking.1, none) refl in
          let route : IsRouteExplained airport asking.0 (without asking.0.name state) reasons = rw is_due at explained in
          first-line asking.0 (without asking.0.name state) reasons route
          ∙ ap (λ s. Some (reason.Answer s)) (same_Some _ _ (sym (carried-told command asking.0 block after reasons is_due done route) ∙ told))
      go (Some why) some of = absurd (untold airport state block after (Refused why) second of.0 refl told)

    backward : slice_get reasons 0 ≡ Some (reason.Answer second) → second_told block ≡ Some second
    backward first = go (asking_due airport state command) refl explained where
      of_taking : (o : Option Taking) → MatchOption o (reasons ≡ reason.Nothing ∷ []) (λ taking. AreTakenReasons airport state taking reasons) → second_told block ≡ Some second
      of_taking None is = absurd (cc (rw is at first))
      of_taking (Some taking) (rows, held, is) = absurd (cc (rw is at first))

      of_refusal : (asking : Asking) → asking_due airport state command ≡ Some asking → IsRouteExplained airport asking (without asking.name state) reasons → (o : Option Refusal)
          → first_refusal airport state command ≡ o → MatchOption o (IsCarriedOut airport state command block after) (λ why. IsOf (refused state why) block after) → second_told block ≡ Some second
      of_refusal asking is_due route None none done =
          let same : reason.Answer (second_found asking.request route.answer) ≡ reason.Answer second = same_Some _ _ (sym (first-line asking (without asking.name state) reasons route) ∙ first) in
          carried-told command asking block after reasons is_due done route ∙ ap Some (answer-same _ _ same)
      of_refusal asking is_due route (Some why) some of = absurd (none-some why (sym (due-parts command asking is_due).0 ∙ some))

      go : (o : Option Asking) → asking_due airport state command ≡ o
          → MatchOption o (IsRefusalExplained airport state command reasons) (λ asking. IsRouteExplained airport asking (without asking.name state) reasons) → second_told block ≡ Some second
      go None none is = of_taking (taking_due airport state command) is
      go (Some asking) is_due route = of_refusal asking is_due route (first_refusal airport state command) refl due

  -- the first line is the answer just where the block tells of one
  pub line-told : (line : List ℕ) (block : Block) (after : State) (reasons : List Reason) (second : Option ℕ) → IsDue airport state line block after → IsExplained airport state line reasons
      → (second_told block ≡ Some second) ↔ (slice_get reasons 0 ≡ Some (reason.Answer second))
  unfolding IsDue
  line-told line block after reasons second due explained = go (command_of line) (command_of-in_grammar line) due explained where
    go : (o : Option Command) → IfSome o IsInGrammar → MatchOption o (IsOf (refused state refusal.BadLine) block after) (λ command. IsDueTo airport state command block after)
        → MatchOption o (reasons ≡ reason.Nothing ∷ []) (λ command. IsCommandExplained airport state command reasons) → (second_told block ≡ Some second) ↔ (slice_get reasons 0 ≡ Some (reason.Answer second))
    go None spoken of is = (λ told. absurd (untold airport state block after (Refused refusal.BadLine) second of.0 refl told), λ first. absurd (cc (rw is at first)))
    go (Some command) spoken due explained = command-told command block after reasons second spoken due explained
