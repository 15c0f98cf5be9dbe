-- The block that is due passes, and what passes is the best.
use Rattle.std.proofs.Common.{◌≡◌, ◌∙◌, ℕ, ◌<◌, Bool, true, false, List, [], ◌∷◌, length, inl, inr, Option, Some, None, refl, sym, ap, subst, arith}
use Rattle.std.specs.Prelude.{MatchOption, IsTrue, Contains}
use Rattle.std.proofs.lemmas.Bool.{and_parts, ltb-true}
use Rattle.std.proofs.lemmas.List.Elements.{All-contains}
use Rattle.taxi_base.specs.declared.numbers.Class.{Class}
use Rattle.taxi_base.specs.declared.numbers.Node.{Node}
use Rattle.taxi_base.specs.declared.rows.Step.{Step}
use Rattle.taxi_base.specs.declared.rows.LabelRow.{LabelRow}
use Rattle.taxi_base.specs.declared.answers.Flight.{Flight}
use Rattle.taxi_base.specs.declared.answers.Found.{Found}
use Rattle.taxi_base.specs.declared.answers.Found.TheVariants as found
use Rattle.taxi_base.specs.declared.answers.Chosen.{Chosen}
use Rattle.taxi_base.specs.declared.answers.Chosen.TheVariants as chosen
use Rattle.taxi_base.specs.declared.answers.Request.{Request}
use Rattle.taxi_base.specs.declared.answers.Request.TheVariants as request
use Rattle.taxi_base.specs.declared.answers.Refusal.{Refusal}
use Rattle.taxi_base.specs.declared.answers.Refusal.TheVariants as refusal
use Rattle.taxi_base.specs.Airport.{Airport, IsWellFormed, class_named, node_named}
use Rattle.taxi_base.specs.Walks.{Conditions, IsFeasibleWalk, Meets, begin_of, end_of}
use Rattle.taxi_base.specs.State.{State, flight_named, with_flight, with_route, holds_in, without, conditions_of, IsFrozenWalk, IsSound}
use Rattle.taxi_base.specs.Faults.{conditions_in}
use Rattle.taxi_base.specs.Again.{retargeted, IsTarget, MayGoAgain, AnswersAgain}
use Rattle.taxi_base.specs.Reports.{timetable_rows}
use Rattle.taxi_base.proofs.AgainLaws.{again-best, old-frozen}
use Rattle.taxi_base.proofs.WalkLaws.{Meets-IsFeasibleWalk}
use Rattle.taxi_text.specs.declared.command.Command.{Command}
use Rattle.taxi_text.specs.declared.command.Command.TheVariants as command
use Rattle.taxi_text.specs.Commands.{command_of, is_choice_count}
use Rattle.walk_labels.specs.Places.{AreFit}
use Rattle.walk_labels.proofs.FitConditions.{among_fit}
use Rattle.replies.specs.declared.block.Block.{Block}
use Rattle.replies.specs.declared.block.Block.TheVariants.{Refused, Filed, Cancelled, Route, NoRoute, Windows, Occupancy, Timetable}
use Rattle.replies.specs.Asked.{arrival_named, departure_named, IsInGrammar, Choice, nodes_of, request_for, arrival_any_named, departure_any_named, AnswersChoice}
use Rattle.replies.specs.Refusals.{first_refusal}
use Rattle.replies.specs.CarriedOut.{IsOf, second_of, found_reply, routed_flight, IsRouted, chosen_reply, IsRoutedToOne, IsRoutedAgain, windows_among, IsCarriedOut}
use Rattle.replies.specs.Replies.{refused, IsDueTo, IsDue, IsReply, as_due, no_memory}
use Rattle.replies.specs.Sought.{UnderWay, Sought, sought_new, sought_again, sought_by_class, sought_any, sought_to_one, sought_of, sought_by, search_of, IsWalkOnFor}
use Rattle.replies.specs.Turns.{told_in, after_told}
use Rattle.replies.specs.Passes.{KeepsReply, IsAfter, IsPassed}
use Rattle.replies.proofs.BatchPasses.{batch-passes}
use Rattle.replies.proofs.LatePasses.{late-passes}
use Rattle.replies.proofs.SoughtPasses.{PassesSought, sought-keeps, passes-by, new-fit, as-passes}
use Rattle.replies.proofs.TurnLaws.{IsAlone, asked-alone, no_turns-after, plain-keeps, one-keeps, after-is}
use Rattle.replies.proofs.FlightLaws.{flight_named-there}
use Rattle.replies.proofs.AgainRefusals.{reroute-may, divert-before}
use Rattle.replies.proofs.FoundLaws.{best-one, second-retargeted}
use Rattle.replies.proofs.TablesKept.{HasKeptTable, choice-table, again-table, IsBefore}
use Rattle.replies.proofs.ChoiceNames.{IsChoiceOf, arrival_any-is, departure_any-is, meets-one, met-reaches, second-same, chosen-among, chosen-meets}
use Rattle.replies.proofs.GrammarLaws.{command_of-in_grammar}

module _ (airport : Airport) (state : State) (well : IsWellFormed airport) (sound : IsSound airport state) where
  -- ---- what is carried out for a new flight

  new-sought : (name class_name : List ℕ) (asked : Option Request) (class : Class) (request : Request) → class_named airport class_name ≡ Some class → asked ≡ Some request
      → sought_by_class airport state name class_name asked ≡ Some (sought_new airport state name class request)
  new-sought name class_name asked class request known named = rw (known, named) refl

  new-passes : (name class_name : List ℕ) (asked : Option Request) (block : Block) (after : State) → IsRouted airport state name class_name asked block after
      → (s : Sought) × (sought_by_class airport state name class_name asked ≡ Some s) × PassesSought s block after
  new-passes name class_name asked block after done = (
    sought_new airport state name done.class done.request,
    new-sought name class_name asked done.class done.request done.class_known done.nodes_known,
    as-passes airport state well name done.class done.request block after done.routed,
  )

  -- ---- what is carried out for a choice of nodes

  choice-sought : (name class_name : List ℕ) (asked : Option Choice) (class : Class) (choice : Choice) (node : Node) (others : List Node)
      → class_named airport class_name ≡ Some class → asked ≡ Some choice → nodes_of choice ≡ node ∷ others
      → sought_to_one airport state name class_name asked ≡ Some (sought_any airport state name class choice node others)
  choice-sought name class_name asked class choice node others known named are = rw (known, named, are) refl

  choice-passes : (name class_name : List ℕ) (asked : Option Choice) (block : Block) (after : State) → ((choice : Choice) → asked ≡ Some choice → 0 < length (nodes_of choice))
      → IsRoutedToOne airport state name class_name asked block after → (s : Sought) × (sought_to_one airport state name class_name asked ≡ Some s) × PassesSought s block after
  choice-passes name class_name asked block after some done = with_nodes (nodes_of done.choice) refl (some done.choice done.nodes_known) where
    c : Conditions
    c = conditions_in airport done.class state

    with_nodes : (nodes : List Node) → nodes_of done.choice ≡ nodes → 0 < length nodes → (s : Sought) × (sought_to_one airport state name class_name asked ≡ Some s) × PassesSought s block after
    with_nodes [] are none = absurd (omega arith)
    with_nodes (node ∷ others) are _ = (s, choice-sought name class_name asked done.class done.choice node others done.class_known done.nodes_known are, go done.chosen done.answers done.reply) where
      s : Sought
      s = sought_any airport state name done.class done.choice node others

      go : (answer : Chosen) → AnswersChoice c done.choice answer → IsOf (chosen_reply state name done.class done.choice answer) block after → PassesSought s block after
      go (chosen.Route to steps labels) answers of =
          let met : Meets c (request_for done.choice to) steps = chosen-meets c done.choice to steps labels answers in
          let among : Contains (node ∷ others) to = subst (λ (ns : List Node). Contains ns to) are (chosen-among c done.choice to steps labels answers) in
          let second = second-same done.choice node to steps in
          passes-by s (record { block = Route name (second_of (request_for done.choice to) steps) steps labels; after = with_flight (routed_flight name done.class (request_for done.choice to) steps) state }) block after of (record {
            form = refl;
            walk = (meets-one c done.choice node others steps to among met, second);
            table = choice-table c (new-fit airport state well done.class) done.choice node others are (chosen.Route to steps labels) answers;
            after_it = ap (λ n. with_flight (routed_flight name done.class (request_for done.choice n) steps) state) (sym (met-reaches c done.choice to node steps met));
          })
      go (chosen.NoRoute labels) answers of =
          passes-by s (record { block = NoRoute labels; after = state }) block after of (record {
            form = refl;
            walk = tt;
            table = choice-table c (new-fit airport state well done.class) done.choice node others are (chosen.NoRoute labels) answers;
            after_it = refl;
          })

  -- ---- what is carried out for a flight in force

  module _ (name : List ℕ) (time : ℕ) (flight : Flight) (in_force : flight_named name state.flights ≡ Some flight) where
    abbrev c : Conditions
    c = conditions_of airport state flight

    abbrev way : UnderWay
    way = record { steps = flight.steps; time = time }

    fit : AreFit c
    fit = among_fit airport flight.class (holds_in airport (without flight.name state)) well

    met : Meets c flight.request flight.steps
    met = All-contains (λ f. Meets (conditions_of airport state f) f.request f.steps) state.flights flight sound.requests (flight_named-there name state.flights flight in_force)

    walk : IsFeasibleWalk c flight.steps
    walk = Meets-IsFeasibleWalk c flight.request flight.steps met

    -- what is meant of a request with another target
    frozen-meant : (target : Node) (r : Request) (steps : List Step) → IsFrozenWalk c flight.steps time target r steps → IsWalkOnFor c (retargeted r target) way steps
    frozen-meant target request.Filed steps frozen = absurd frozen
    frozen-meant target (request.Arrival from to asked hold) steps frozen = frozen
    frozen-meant target (request.Departure from to asked queue) steps frozen = frozen

    again-passes : (may_be_none : Bool) (target : Node) → IsBefore flight.steps time flight.request → (answer : Found) → AnswersAgain c flight.steps time target flight.request answer
        → (((labels : List LabelRow) → answer ≡ found.NoRoute labels → IsTrue may_be_none)) → (block : Block) (after : State)
        → IsOf (found_reply state name flight.request (λ steps. with_route flight (retargeted flight.request target) steps state) answer) block after
        → PassesSought (sought_again airport state name time may_be_none flight (retargeted flight.request target)) block after
    again-passes may_be_none target before (found.Route steps labels) answers none block after of =
        let second = second-retargeted flight.request target steps in
        passes-by (sought_again airport state name time may_be_none flight (retargeted flight.request target))
        (record { block = Route name (second_of flight.request steps) steps labels; after = with_route flight (retargeted flight.request target) steps state }) block after of (record {
          form = refl;
          walk = (
            frozen-meant target flight.request steps
                (best-one flight.request (IsFrozenWalk c flight.steps time target flight.request) steps (again-best c flight.steps time target walk flight.request (found.Route steps labels) answers)),
            second,
          );
          table = subst (λ n. HasKeptTable c (search_of (retargeted flight.request target) [] (Some way)) (Some n) labels) second
              (again-table c fit flight.steps (λ some. walk) time target flight.request before (found.Route steps labels) answers);
          after_it = refl;
        })
    again-passes may_be_none target before (found.NoRoute labels) answers none block after of =
        passes-by (sought_again airport state name time may_be_none flight (retargeted flight.request target)) (record { block = NoRoute labels; after = state }) block after of (record {
          form = none labels refl;
          walk = tt;
          table = again-table c fit flight.steps (λ some. walk) time target flight.request before (found.NoRoute labels) answers;
          after_it = refl;
        })

    -- a reroute is never answered that there is no walk: the old steps are one
    old-none : (target : Node) → MayGoAgain time flight.request flight.steps → IsTarget flight.request target → (labels : List LabelRow)
        → AnswersAgain c flight.steps time target flight.request (found.NoRoute labels) → ⊥
    old-none target may same labels answers =
        again-best c flight.steps time target walk flight.request (found.NoRoute labels) answers flight.steps
        (old-frozen c flight.steps time target flight.request met may same)

    same-request : (r : Request) (target : Node) → IsTarget r target → retargeted r target ≡ r
    same-request request.Filed target same = refl
    same-request (request.Arrival from to asked hold) target same = λ i. request.Arrival from (sym same i) asked hold
    same-request (request.Departure from to asked queue) target same = λ i. request.Departure from (sym same i) asked queue

    may-before : (r : Request) → MayGoAgain time r flight.steps → IsBefore flight.steps time r
    may-before request.Filed may = tt
    may-before (request.Arrival from to asked hold) may = λ some. omega (arith, may)
    may-before (request.Departure from to asked queue) may = tt

    ended-before : (r : Request) → time < end_of flight.steps → IsBefore flight.steps time r
    ended-before request.Filed before = tt
    ended-before (request.Arrival from to asked hold) before = λ some. omega (arith, before)
    ended-before (request.Departure from to asked queue) before = tt

  reroute-passes : (name : List ℕ) (time : ℕ) (block : Block) (after : State) → first_refusal airport state (command.Reroute name time) ≡ None
      → IsRoutedAgain airport state name time IsTarget block after
      → (s : Sought) × (sought_of airport state (command.Reroute name time) ≡ Some s) × PassesSought s block after
  reroute-passes name time block after none done =
      let flight = done.flight in
      let may = reroute-may airport state name time flight done.in_force none in
      let same = same-request name time flight done.in_force flight.request done.target done.meant in (
        sought_again airport state name time false flight flight.request,
        rw done.in_force refl,
        subst (λ r. PassesSought (sought_again airport state name time false flight r) block after) same
            (again-passes name time flight done.in_force false done.target (may-before name time flight done.in_force flight.request may) done.found done.answers
            (λ labels e. absurd (old-none name time flight done.in_force done.target may done.meant labels
            (subst (AnswersAgain (conditions_of airport state flight) flight.steps time done.target flight.request) e done.answers)))
            block after done.reply),
      )

  divert-passes : (name : List ℕ) (time : ℕ) (node : List ℕ) (block : Block) (after : State) → first_refusal airport state (command.Divert name time node) ≡ None
      → IsRoutedAgain airport state name time (λ asked target. node_named airport node ≡ Some target) block after
      → (s : Sought) × (sought_of airport state (command.Divert name time node) ≡ Some s) × PassesSought s block after
  divert-passes name time node block after none done =
      let flight = done.flight in (
        sought_again airport state name time true flight (retargeted flight.request done.target),
        rw (done.in_force, done.meant) refl,
        again-passes name time flight done.in_force true done.target
            (ended-before name time flight done.in_force flight.request (divert-before airport state name time flight done.in_force node none)) done.found done.answers
            (λ labels e. refl) block after done.reply,
      )

  -- ---- the due block passes

  -- a choice of 1 to 16 nodes has one
  some-nodes : (count : ℕ) (choice : Choice) → IsTrue (is_choice_count count) → IsChoiceOf airport count choice → 0 < length (nodes_of choice)
  some-nodes count choice few is = omega (arith, ltb-true 0 count (and_parts _ _ few).0, is.as_many)

  module _ (line : List ℕ) (block : Block) (after : State) where
    -- what tells of no search
    plain-passes : (told : Block) → block ≡ told → told_in told ≡ [] → IsAfter airport state line told after → KeepsReply airport state line block → IsPassed airport state line block after
    plain-passes told is none after_told reply = subst (λ b. IsPassed airport state line b after) (sym is) (record {
      keeps = plain-keeps airport state line told none (subst (KeepsReply airport state line) is reply);
      after_it = after_told;
    })

    refused-passes : (why : Refusal) → IsOf (refused state why) block after → KeepsReply airport state line block → IsPassed airport state line block after
    refused-passes why of reply = plain-passes (Refused why) of.0 refl (of.1 ∙ sym (no_turns-after airport state line (Refused why) refl tt)) reply

    -- what tells of what is sought
    sought-passes : (c : Command) → IsAlone c → command_of line ≡ Some c → first_refusal airport state c ≡ None → (s : Sought) × (sought_of airport state c ≡ Some s) × PassesSought s block after
        → IsPassed airport state line block after
    sought-passes c alone read none p =
        let s = p.0 in
        let by : sought_by airport state line ≡ Some p.0 = rw read p.1 in
        let reply : KeepsReply airport state line block = inr (rw (read, none) (asked-alone airport state c block alone (rw p.1 p.2.form))) in
        record {
          keeps = one-keeps airport state line s by block p.2.form reply (sought-keeps s block p.2.form p.2.walk p.2.table);
          after_it = after-is airport state line s by block after p.2.form p.2.after_it;
        }

    carried-passes : (c : Command) → IsInGrammar c → command_of line ≡ Some c → first_refusal airport state c ≡ None → IsDue airport state line block after
        → IsCarriedOut airport state c block after → IsPassed airport state line block after
    carried-passes (command.File filed) spoken read none due done =
        plain-passes (Filed filed.flight (begin_of done.steps) (end_of done.steps)) done.reply.0 refl
        (subst (λ b. IsDue airport state line b after) done.reply.0 due) (inr (rw (read, none) (after, done)))
    carried-passes (command.Arrival asked) spoken read none due done =
        sought-passes (command.Arrival asked) tt read none (new-passes asked.flight asked.class (arrival_named airport asked) block after done)
    carried-passes (command.Departure asked) spoken read none due done =
        sought-passes (command.Departure asked) tt read none (new-passes asked.flight asked.class (departure_named airport asked) block after done)
    carried-passes (command.Cancel flight) spoken read none due done =
        plain-passes (Cancelled flight) done.0 refl (subst (λ b. IsDue airport state line b after) done.0 due) (inr (rw (read, none) (after, done)))
    carried-passes (command.Reroute flight time) spoken read none due done =
        sought-passes (command.Reroute flight time) tt read none (reroute-passes flight time block after none done)
    carried-passes (command.Divert flight time node) spoken read none due done =
        sought-passes (command.Divert flight time node) tt read none (divert-passes flight time node block after none done)
    carried-passes (command.Windows segment) spoken read none due done =
        plain-passes (Windows done.segment (windows_among airport state done.segment)) done.reply.0 refl
        (done.reply.1 ∙ sym (no_turns-after airport state line (Windows done.segment (windows_among airport state done.segment)) refl tt)) (inr (rw (read, none) (after, done)))
    carried-passes (command.Occupancy segment) spoken read none due done =
        plain-passes (Occupancy done.segment done.rows) done.reply.0 refl (done.reply.1 ∙ sym (no_turns-after airport state line (Occupancy done.segment done.rows) refl tt)) (inr (rw (read, none) (after, done)))
    carried-passes command.Timetable spoken read none due done =
        plain-passes (Timetable (timetable_rows state)) done.0 refl (done.1 ∙ sym (no_turns-after airport state line (Timetable (timetable_rows state)) refl tt)) (inr (rw read (after, done)))
    carried-passes (command.Work shut) spoken read none due done =
        plain-passes (Filed shut.name shut.from shut.until) done.reply.0 refl
        (subst (λ b. IsDue airport state line b after) done.reply.0 due) (inr (rw (read, none) (after, done)))
    carried-passes (command.WorkDone name) spoken read none due done =
        plain-passes (Cancelled name) done.0 refl (subst (λ b. IsDue airport state line b after) done.0 due) (inr (rw (read, none) (after, done)))
    carried-passes (command.ArrivalAny asked) spoken read none due done =
        sought-passes (command.ArrivalAny asked) tt read none
        (choice-passes asked.flight asked.class (arrival_any_named airport asked) block after
        (λ choice named. some-nodes (length asked.nodes) choice spoken.3 (arrival_any-is airport asked choice named)) done)
    carried-passes (command.DepartureAny asked) spoken read none due done =
        sought-passes (command.DepartureAny asked) tt read none
        (choice-passes asked.flight asked.class (departure_any_named airport asked) block after
        (λ choice named. some-nodes (length asked.nodes) choice spoken.3 (departure_any-is airport asked choice named)) done)
    carried-passes (command.Batch requests) spoken read none due done = batch-passes airport well state line requests block after read none done
    carried-passes (command.Late name time until) spoken read none due done = late-passes airport state well sound line name time until block after read none done

    pub due-passes : IsDue airport state line block after → IsPassed airport state line block after
    unfolding IsDue
    due-passes due = go (command_of line) refl due where
      go : (o : Option Command) → command_of line ≡ o → MatchOption o (IsOf (refused state refusal.BadLine) block after) (λ c. IsDueTo airport state c block after) → IsPassed airport state line block after
      go None read of = refused-passes refusal.BadLine of (inr (rw read of.0))
      go (Some c) read due_to = by (first_refusal airport state c) refl due_to where
        by : (o : Option Refusal) → first_refusal airport state c ≡ o → MatchOption o (IsCarriedOut airport state c block after) (λ why. IsOf (refused state why) block after) → IsPassed airport state line block after
        by None none done = carried-passes c (rw read at (command_of-in_grammar line)) read none due done
        by (Some why) is of = refused-passes why of (inr (rw (read, is) of.0))

-- a reply to a line passes
pub reply-passes : (airport : Airport) (state : State) (line : List ℕ) (block : Block) (after : State) → IsWellFormed airport → IsSound airport state
    → IsReply airport state line block after → IsPassed airport state line block after
reply-passes airport state line _ _ well sound (as_due block after due) = due-passes airport state well sound line block after due
reply-passes airport state line _ _ well sound (no_memory other) = refused-passes airport state well sound line (Refused refusal.Memory) state refusal.Memory (refl, refl) (inl (other, refl))
