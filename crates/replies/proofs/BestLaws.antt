-- A route that passes is the best walk that is sought, and where it passes that there is none there is none.
use Rattle.std.proofs.Common.{◌≡◌, ℕ, ◌<◌, Bool, true, false, List, [], ◌∷◌, ◌∙◌, length, map, All, Option, Some, None, option_map, inl, inr, refl, sym, ap, subst, arith}
use Rattle.std.specs.Prelude.{◌⊎◌, MatchOption, Contains, option_and_then, ⊤}
use Rattle.std.proofs.lemmas.Option.{none-some, same_Some}
use Rattle.std.proofs.lemmas.Bool.{and_parts, ltb-true}
use Rattle.std.proofs.lemmas.List.Elements.{All-contains, All-nil}
use Rattle.taxi_base.specs.declared.numbers.Class.{Class}
use Rattle.taxi_base.specs.declared.numbers.Node.{Node}
use Rattle.taxi_base.specs.declared.rows.Step.{Step}
use Rattle.taxi_base.specs.declared.rows.LabelRow.{LabelRow}
use Rattle.taxi_base.specs.declared.answers.Flight.{Flight}
use Rattle.taxi_base.specs.declared.answers.Request.{Request}
use Rattle.taxi_base.specs.declared.answers.Request.TheVariants as request
use Rattle.taxi_base.specs.declared.answers.Refusal.{Refusal}
use Rattle.taxi_base.specs.declared.answers.Refusal.TheVariants as refusal
use Rattle.taxi_base.specs.Airport.{Airport, IsWellFormed, class_named, node_named}
use Rattle.taxi_base.specs.Walks.{Conditions, Meets}
use Rattle.taxi_base.specs.State.{State, flight_named, with_flight, without, holds_in, conditions_of, IsSound}
use Rattle.taxi_base.specs.Faults.{conditions_in}
use Rattle.taxi_base.specs.Again.{retargeted}
use Rattle.taxi_base.proofs.AgainLaws.{frozen-meets}
use Rattle.taxi_base.proofs.StateLaws.{IsSound-with_flight, IsSound-with_route}
use Rattle.taxi_base.proofs.WalkLaws.{Meets-IsFeasibleWalk}
use Rattle.taxi_text.specs.declared.command.BatchRequest.{BatchRequest}
use Rattle.taxi_text.specs.declared.command.Command.{Command}
use Rattle.taxi_text.specs.declared.command.Command.TheVariants as command
use Rattle.taxi_text.specs.Commands.{command_of}
use Rattle.walk_labels.proofs.FitConditions.{among_fit}
use Rattle.replies.specs.declared.block.Block.{Block}
use Rattle.replies.specs.declared.block.Block.TheVariants.{Refused, Filed, Cancelled, Route, NoRoute, Windows, Occupancy, Timetable, Batch, Late}
use Rattle.replies.specs.declared.entries.Entry.{Entry}
use Rattle.replies.specs.declared.rule.Rule.{Rule}
use Rattle.replies.specs.declared.rule.Rule.TheVariants as rule
use Rattle.replies.specs.Asked.{IsInGrammar, arrival_named, departure_named, Choice, nodes_of, request_for, arrival_any_named, departure_any_named}
use Rattle.replies.specs.Refusals.{first_refusal}
use Rattle.replies.specs.CarriedOut.{routed_flight, IsCarriedOut}
use Rattle.replies.specs.Batches.{TellsBatch}
use Rattle.replies.specs.Repairs.{TellsRepair}
use Rattle.replies.specs.Sought.{UnderWay, Sought, sought_new, sought_again, sought_by_class, sought_any, sought_choice, sought_to_one, sought_of, sought_by, IsWalkOnFor}
use Rattle.replies.specs.Passes.{IsFormOf, IsAsAskedAlone, IsAsAsked, KeepsReply, KeepsSought, Keeps, IsPassed, IsBestTold, TellsBest}
use Rattle.replies.specs.Turns.{told_in, turns_of, begins_of, after_turns}
use Rattle.replies.proofs.FiledLaws.{and_then-some, map-some}
use Rattle.replies.proofs.FlightLaws.{flight_named-there}
use Rattle.replies.proofs.RefusalLaws.{HasRoom, arrival-has_room, departure-has_room, arrival_any-has_room, departure_any-has_room}
use Rattle.replies.proofs.ReplyLaws.{due-kept}
use Rattle.replies.proofs.GrammarLaws.{command_of-in_grammar}
use Rattle.replies.proofs.ChoiceNames.{arrival_any-is, departure_any-is, one-met, met-reaches}
use Rattle.replies.proofs.BatchBest.{batch-best, batch-sound}
use Rattle.replies.proofs.LateBest.{late-best, late-sound}
use Rattle.replies.proofs.RightSearches.{IsSearched, IsRight, no-floor, new-right, route-best, no_route-best}
use Rattle.replies.proofs.TurnLaws.{IsAlone, IsNotLate, all-one, no_turns, no_turns-after, one_turn, keeps-one, is-after}

module _ (airport : Airport) (state : State) (well : IsWellFormed airport) (sound : IsSound airport state) where
  -- ---- what is sought is sought rightly

  class-right : (name class_name : List ℕ) (asked : Option Request) (s : Sought) → HasRoom state name → sought_by_class airport state name class_name asked ≡ Some s → IsRight airport s
  class-right name class_name asked s room e =
      let class = and_then-some (λ class. option_map (sought_new airport state name class) asked) (class_named airport class_name) s e in
      let request = map-some (sought_new airport state name class.0) asked s class.2 in
      subst (IsRight airport) request.2 (new-right airport state well sound name class.0 request.0 room)

  -- with the node that it reaches
  any-right : (name : List ℕ) (class : Class) (choice : Choice) (node : Node) (others : List Node) → HasRoom state name → IsRight airport (sought_any airport state name class choice node others)
  any-right name class choice node others room = record {
    searched = record { fit = among_fit airport class (holds_in airport state) well; way = tt; floor = no-floor (request_for choice node) };
    none_sound = sound;
    stays_sound = λ steps met.
        (let one = one-met (conditions_in airport class state) choice node others steps met in
        subst (λ n. IsSound airport (with_flight (routed_flight name class (request_for choice n) steps) state)) (sym (met-reaches (conditions_in airport class state) choice one.0 node steps one.2))
        (IsSound-with_flight airport (routed_flight name class (request_for choice one.0) steps) state sound room.room room.absent one.2));
  }

  choice-right : (name class_name : List ℕ) (asked : Option Choice) (s : Sought) → HasRoom state name → sought_to_one airport state name class_name asked ≡ Some s → IsRight airport s
  choice-right name class_name asked s room e =
      let class = and_then-some (λ class. option_and_then (λ choice. sought_choice airport state name class choice (nodes_of choice)) asked) (class_named airport class_name) s e in
      let choice = and_then-some (λ choice. sought_choice airport state name class.0 choice (nodes_of choice)) asked s class.2 in
      go class.0 choice.0 (nodes_of choice.0) choice.2
    where
      go : (class : Class) (choice : Choice) (nodes : List Node) → sought_choice airport state name class choice nodes ≡ Some s → IsRight airport s
      go class choice [] e = absurd (none-some s e)
      go class choice (node ∷ others) e = subst (IsRight airport) (same_Some (sought_any airport state name class choice node others) s e) (any-right name class choice node others room)

  -- and there is one, where there are nodes
  choice-there : (name class_name : List ℕ) (asked : Option Choice) (class : Class) (choice : Choice) → class_named airport class_name ≡ Some class → asked ≡ Some choice → 0 < length (nodes_of choice)
      → sought_to_one airport state name class_name asked ≡ None → ⊥
  choice-there name class_name asked class choice known named some none = go (nodes_of choice) refl some (rw (known, named) at none) where
    go : (nodes : List Node) → nodes_of choice ≡ nodes → 0 < length nodes → sought_choice airport state name class choice (nodes_of choice) ≡ None → ⊥
    go [] are some e = absurd (omega arith)
    go (node ∷ others) are some e = none-some (sought_any airport state name class choice node others) (sym (rw are at e))

  module _ (name : List ℕ) (time : ℕ) (flight : Flight) (in_force : flight_named name state.flights ≡ Some flight) where
    abbrev c : Conditions
    c = conditions_of airport state flight

    abbrev way : UnderWay
    way = record { steps = flight.steps; time = time }

    there : Contains state.flights flight
    there = flight_named-there name state.flights flight in_force

    met : Meets c flight.request flight.steps
    met = All-contains (λ f. Meets (conditions_of airport state f) f.request f.steps) state.flights flight sound.requests there

    again-right : (may_be_none : Bool) (r : Request) → ((steps : List Step) → IsWalkOnFor c r way steps → Meets c r steps) → IsRight airport (sought_again airport state name time may_be_none flight r)
    again-right may_be_none r meets = record {
      searched = record {
        fit = among_fit airport flight.class (holds_in airport (without flight.name state)) well;
        way = (refl, λ some. Meets-IsFeasibleWalk c flight.request flight.steps met);
        floor = no-floor r;
      };
      none_sound = sound;
      stays_sound = λ steps on. IsSound-with_route airport flight state r steps sound there (meets steps on);
    }

    own-meets : (r : Request) → Meets c r flight.steps → (steps : List Step) → IsWalkOnFor c r way steps → Meets c r steps
    own-meets request.Filed _ steps on = absurd on
    own-meets (request.Arrival from to asked hold) met steps on = frozen-meets c flight.steps time to (request.Arrival from to asked hold) steps met on
    own-meets (request.Departure from to asked queue) met steps on = frozen-meets c flight.steps time to (request.Departure from to asked queue) steps met on

    other-meets : (r : Request) (target : Node) → Meets c r flight.steps → (steps : List Step) → IsWalkOnFor c (retargeted r target) way steps → Meets c (retargeted r target) steps
    other-meets request.Filed target _ steps on = absurd on
    other-meets (request.Arrival from to asked hold) target met steps on = frozen-meets c flight.steps time target (request.Arrival from to asked hold) steps met on
    other-meets (request.Departure from to asked queue) target met steps on = frozen-meets c flight.steps time target (request.Departure from to asked queue) steps met on

  sought-right : (command : Command) (s : Sought) → first_refusal airport state command ≡ None → sought_of airport state command ≡ Some s → IsRight airport s
  sought-right (command.File filed) s none e = absurd (none-some s e)
  sought-right (command.Arrival asked) s none e = class-right asked.flight asked.class (arrival_named airport asked) s (arrival-has_room airport state asked none) e
  sought-right (command.Departure asked) s none e = class-right asked.flight asked.class (departure_named airport asked) s (departure-has_room airport state asked none) e
  sought-right (command.Cancel flight) s none e = absurd (none-some s e)
  sought-right (command.Reroute name time) s none e =
      let flight = map-some (λ flight. sought_again airport state name time false flight flight.request) (flight_named name state.flights) s e in
      subst (IsRight airport) flight.2 (again-right name time flight.0 flight.1 false flight.0.request (own-meets name time flight.0 flight.1 flight.0.request (met name time flight.0 flight.1)))
  sought-right (command.Divert name time node) s none e =
      let flight = and_then-some (λ flight. option_map (λ target. sought_again airport state name time true flight (retargeted flight.request target)) (node_named airport node))
      (flight_named name state.flights) s e in
      let target = map-some (λ target. sought_again airport state name time true flight.0 (retargeted flight.0.request target)) (node_named airport node) s flight.2 in
      subst (IsRight airport) target.2
      (again-right name time flight.0 flight.1 true (retargeted flight.0.request target.0) (other-meets name time flight.0 flight.1 flight.0.request target.0 (met name time flight.0 flight.1)))
  sought-right (command.Windows segment) s none e = absurd (none-some s e)
  sought-right (command.Occupancy segment) s none e = absurd (none-some s e)
  sought-right command.Timetable s none e = absurd (none-some s e)
  sought-right (command.Work shut) s none e = absurd (none-some s e)
  sought-right (command.WorkDone name) s none e = absurd (none-some s e)
  sought-right (command.ArrivalAny asked) s none e = choice-right asked.flight asked.class (arrival_any_named airport asked) s (arrival_any-has_room airport state asked none) e
  sought-right (command.DepartureAny asked) s none e = choice-right asked.flight asked.class (departure_any_named airport asked) s (departure_any-has_room airport state asked none) e
  sought-right (command.Batch requests) s none e = absurd (none-some s e)
  sought-right (command.Late name time until) s none e = absurd (none-some s e)

  -- ---- a route, or that there is none, answers a command that seeks a walk, and several a batch or a late flight

  -- whether a block tells of searches
  abbrev IsFound : Block → Type 0
  IsFound (Route name second steps labels) = ⊤
  IsFound (NoRoute labels) = ⊤
  IsFound (Batch total entries) = ⊤
  IsFound (Late flight entries) = ⊤
  IsFound _ = ⊥

  -- what answers a command that seeks none tells of no search
  plain-none : (command : Command) (block : Block) (after : State) → IsAlone command → IsInGrammar command → first_refusal airport state command ≡ None → sought_of airport state command ≡ None
      → IsCarriedOut airport state command block after → IsFound block → ⊥
  plain-none (command.File filed) block after alone spoken none e done told = subst IsFound done.reply.0 told
  plain-none (command.Arrival asked) block after alone spoken none e done told = absurd (cc (rw (done.class_known, done.nodes_known) at e))
  plain-none (command.Departure asked) block after alone spoken none e done told = absurd (cc (rw (done.class_known, done.nodes_known) at e))
  plain-none (command.Cancel flight) block after alone spoken none e done told = subst IsFound done.0 told
  plain-none (command.Reroute flight time) block after alone spoken none e done told = absurd (cc (rw done.in_force at e))
  plain-none (command.Divert flight time node) block after alone spoken none e done told = absurd (cc (rw (done.in_force, done.meant) at e))
  plain-none (command.Windows segment) block after alone spoken none e done told = subst IsFound done.reply.0 told
  plain-none (command.Occupancy segment) block after alone spoken none e done told = subst IsFound done.reply.0 told
  plain-none command.Timetable block after alone spoken none e done told = subst IsFound done.0 told
  plain-none (command.Work shut) block after alone spoken none e done told = subst IsFound done.reply.0 told
  plain-none (command.WorkDone name) block after alone spoken none e done told = subst IsFound done.0 told
  plain-none (command.ArrivalAny asked) block after alone spoken none e done told =
      choice-there asked.flight asked.class (arrival_any_named airport asked) done.class done.choice done.class_known done.nodes_known
      (let is = arrival_any-is airport asked done.choice done.nodes_known in omega (arith, ltb-true 0 (length asked.nodes) (and_parts _ _ spoken.3).0, is.as_many)) e
  plain-none (command.DepartureAny asked) block after alone spoken none e done told =
      choice-there asked.flight asked.class (departure_any_named airport asked) done.class done.choice done.class_known done.nodes_known
      (let is = departure_any-is airport asked done.choice done.nodes_known in omega (arith, ltb-true 0 (length asked.nodes) (and_parts _ _ spoken.3).0, is.as_many)) e
  plain-none (command.Batch requests) block after alone spoken none e done told = alone
  plain-none (command.Late name time until) block after alone spoken none e done told = alone

  -- what is sought by a line that is answered so
  record IsSoughtBy (line : List ℕ) (block : Block) : Type 0 where
    s : Sought
    by : sought_by airport state line ≡ Some s
    form : IsFormOf s block
    right : IsRight airport s

  -- a batch that is answered so
  record IsBatchBy (line : List ℕ) (block : Block) : Type 0 where
    requests : List BatchRequest
    read : command_of line ≡ Some (command.Batch requests)
    none : first_refusal airport state (command.Batch requests) ≡ None
    tells : TellsBatch airport requests block

  -- and a late flight
  record IsLateBy (line : List ℕ) (block : Block) : Type 0 where
    name : List ℕ
    time : ℕ
    until : ℕ
    read : command_of line ≡ Some (command.Late name time until)
    none : first_refusal airport state (command.Late name time until) ≡ None
    tells : TellsRepair airport state name time until block

  abbrev IsAnsweredBy : List ℕ → Block → Type 0
  IsAnsweredBy line block = IsSoughtBy line block ⊎ (IsBatchBy line block ⊎ IsLateBy line block)

  alone-there : (line : List ℕ) (command : Command) (block : Block) → command_of line ≡ Some command → first_refusal airport state command ≡ None → IsAlone command → IsFound block
      → IsAsAskedAlone airport state command block → IsSoughtBy line block
  alone-there line command block read none alone told asked = go (sought_of airport state command) refl asked where
    go : (o : Option Sought) → sought_of airport state command ≡ o → MatchOption o ((after : State) × IsCarriedOut airport state command block after) (λ s. IsFormOf s block) → IsSoughtBy line block
    go None e done = absurd (plain-none command block done.0 alone (rw read at (command_of-in_grammar line)) none e done.1 told)
    go (Some s) e form = record { s = s; by = rw read e; form = form; right = sought-right command s none e }

  asked-there : (line : List ℕ) (command : Command) (block : Block) → command_of line ≡ Some command → first_refusal airport state command ≡ None → IsFound block
      → IsAsAsked airport state command block → IsAnsweredBy line block
  asked-there line (command.Batch requests) block read none told tells = inr (inl (record { requests = requests; read = read; none = none; tells = tells }))
  asked-there line (command.Late name time until) block read none told tells =
      inr (inr (record { name = name; time = time; until = until; read = read; none = none; tells = tells }))
  asked-there line command block read none told asked = inl (alone-there line command block read none tt told asked)

  found-there : (line : List ℕ) (block : Block) → IsFound block → KeepsReply airport state line block → IsAnsweredBy line block
  found-there line block told (inl memory) = absurd (subst IsFound memory.1 told)
  found-there line block told (inr form) = go (command_of line) refl form where
    go : (o : Option Command) → command_of line ≡ o
        → MatchOption o (block ≡ Refused refusal.BadLine) (λ command. MatchOption (first_refusal airport state command) (IsAsAsked airport state command block) (λ why. block ≡ Refused why))
        → IsAnsweredBy line block
    go None read is = absurd (subst IsFound is told)
    go (Some command) read form = by_refusal (first_refusal airport state command) refl form where
      by_refusal : (o : Option Refusal) → first_refusal airport state command ≡ o → MatchOption o (IsAsAsked airport state command block) (λ why. block ≡ Refused why)
          → IsAnsweredBy line block
      by_refusal None none asked = asked-there line command block read none told asked
      by_refusal (Some why) e is = absurd (subst IsFound is told)

  -- of a block with no entries
  abbrev IsOfNone : Block → Type 0
  IsOfNone block = ((requests : List BatchRequest) → TellsBatch airport requests block → ⊥)
      × ((name : List ℕ) (time until : ℕ) → TellsRepair airport state name time until block → ⊥)

  sought-there : (line : List ℕ) (block : Block) → IsFound block → IsOfNone block → KeepsReply airport state line block → IsSoughtBy line block
  sought-there line block told none reply = elim (found-there line block told reply) [
    | inl there ↦ there
    | inr several ↦ elim several [
      | inl batch ↦ absurd (none.0 batch.requests batch.tells)
      | inr late ↦ absurd (none.1 late.name late.time late.until late.tells)
    ]
  ]

  route-there : (line name : List ℕ) (second : ℕ) (steps : List Step) (labels : List LabelRow) → KeepsReply airport state line (Route name second steps labels)
      → IsSoughtBy line (Route name second steps labels)
  route-there line name second steps labels = sought-there line (Route name second steps labels) tt (λ requests tells. tells, λ name time until tells. absurd (cc tells.block_is))

  no_route-there : (line : List ℕ) (labels : List LabelRow) → KeepsReply airport state line (NoRoute labels) → IsSoughtBy line (NoRoute labels)
  no_route-there line labels = sought-there line (NoRoute labels) tt (λ requests tells. tells, λ name time until tells. absurd (cc tells.block_is))

  -- of a batch, and of a late flight
  batch-there : (line : List ℕ) (total : ℕ) (entries : List (List ℕ × Entry)) → KeepsReply airport state line (Batch total entries) → IsBatchBy line (Batch total entries)
  batch-there line total entries reply = elim (found-there line (Batch total entries) tt reply) [
    | inl there ↦ absurd there.form
    | inr several ↦ elim several [
      | inl batch ↦ batch
      | inr late ↦ absurd (cc late.tells.block_is)
    ]
  ]

  late-there : (line flight : List ℕ) (entries : List (List ℕ × Entry)) → KeepsReply airport state line (Late flight entries) → IsLateBy line (Late flight entries)
  late-there line flight entries reply = elim (found-there line (Late flight entries) tt reply) [
    | inl there ↦ absurd there.form
    | inr several ↦ elim several [
      | inl batch ↦ absurd batch.tells
      | inr late ↦ late
    ]
  ]

  -- what is told of a search
  told-best : (line : List ℕ) (block : Block) → IsSoughtBy line block → ((s : Sought) → IsSearched s → ((r : Rule) → KeepsSought r s block) → IsBestTold s block) → ((r : Rule) → Keeps airport state line block r)
      → told_in block ≡ block ∷ [] → TellsBest airport state line block
  told-best line block there best keeps is =
      let turn = one_turn airport state line there.s there.by block there.form in
      record {
        all_told = ap (map (λ t. t.told)) turn ∙ sym is;
        best = subst (All (λ t. IsBestTold t.sought t.told)) (sym turn) (all-one (λ t. IsBestTold t.sought t.told) (record { sought = there.s; told = block })
            (best there.s there.right.searched (keeps-one airport state line there.s there.by block there.form keeps)));
      }

  -- a block that tells of no search
  plain-best : (line : List ℕ) (block : Block) → told_in block ≡ [] → TellsBest airport state line block
  plain-best line block none =
      let turns = no_turns airport state line block none in
      record { all_told = ap (map (λ t. t.told)) turns ∙ sym none; best = subst (All (λ t. IsBestTold t.sought t.told)) (sym turns) (All-nil (λ t. IsBestTold t.sought t.told)) }

  -- what passes tells the best walk that is sought, or that there is none
  pub passed-best : (line : List ℕ) (block : Block) (after : State) → IsPassed airport state line block after → TellsBest airport state line block
  passed-best line (Route name second steps labels) after passed =
      told-best line (Route name second steps labels) (route-there line name second steps labels (passed.keeps rule.Reply)) (route-best name second steps labels) passed.keeps refl
  passed-best line (NoRoute labels) after passed = told-best line (NoRoute labels) (no_route-there line labels (passed.keeps rule.Reply)) (no_route-best labels) passed.keeps refl
  passed-best line (Refused why) after passed = plain-best line (Refused why) refl
  passed-best line (Filed name start end) after passed = plain-best line (Filed name start end) refl
  passed-best line (Cancelled name) after passed = plain-best line (Cancelled name) refl
  passed-best line (Windows segment windows) after passed = plain-best line (Windows segment windows) refl
  passed-best line (Occupancy segment held) after passed = plain-best line (Occupancy segment held) refl
  passed-best line (Timetable flights) after passed = plain-best line (Timetable flights) refl
  passed-best line (Batch total entries) after passed =
      let batch = batch-there line total entries (passed.keeps rule.Reply) in
      batch-best airport well state sound line batch.requests batch.read batch.none total entries batch.tells after passed
  passed-best line (Late flight entries) after passed =
      let late = late-there line flight entries (passed.keeps rule.Reply) in
      late-best airport well state sound line late.name late.time late.until late.read late.none (Late flight entries) late.tells after passed

  plain-sound : (line : List ℕ) (block : Block) (after : State) → told_in block ≡ [] → IsNotLate block → after ≡ after_turns (begins_of airport state line block) (turns_of airport state line block)
      → IsSound airport after
  plain-sound line block after none other is = subst (IsSound airport) (sym (is ∙ no_turns-after airport state line block none other)) sound

  -- and leaves the state sound
  pub passed-sound : (line : List ℕ) (block : Block) (after : State) → IsPassed airport state line block after → IsSound airport after
  passed-sound line (Route name second steps labels) after passed =
      let there = route-there line name second steps labels (passed.keeps rule.Reply) in
      let walk = keeps-one airport state line there.s there.by (Route name second steps labels) there.form passed.keeps rule.Walk in
      let is = is-after airport state line there.s there.by (Route name second steps labels) after there.form passed.after_it in
      subst (IsSound airport) (sym is) (there.right.stays_sound steps walk.0)
  passed-sound line (NoRoute labels) after passed =
      let there = no_route-there line labels (passed.keeps rule.Reply) in
      let is = is-after airport state line there.s there.by (NoRoute labels) after there.form passed.after_it in
      subst (IsSound airport) (sym is) there.right.none_sound
  passed-sound line (Refused why) after passed = plain-sound line (Refused why) after refl tt passed.after_it
  passed-sound line (Filed name start end) after passed = (due-kept airport state sound line (Filed name start end) after passed.after_it).stays_sound
  passed-sound line (Cancelled name) after passed = (due-kept airport state sound line (Cancelled name) after passed.after_it).stays_sound
  passed-sound line (Windows segment windows) after passed = plain-sound line (Windows segment windows) after refl tt passed.after_it
  passed-sound line (Occupancy segment held) after passed = plain-sound line (Occupancy segment held) after refl tt passed.after_it
  passed-sound line (Timetable flights) after passed = plain-sound line (Timetable flights) after refl tt passed.after_it
  passed-sound line (Batch total entries) after passed =
      let batch = batch-there line total entries (passed.keeps rule.Reply) in
      batch-sound airport well state sound line batch.requests batch.read batch.none total entries batch.tells after passed
  passed-sound line (Late flight entries) after passed =
      let late = late-there line flight entries (passed.keeps rule.Reply) in
      late-sound airport well state sound line late.name late.time late.until late.read late.none (Late flight entries) late.tells after passed
