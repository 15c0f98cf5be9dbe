-- A reply keeps the state sound, and what it says is so.
use Rattle.std.proofs.Common.{◌≡◌, ℕ, ◌<◌, Bool, true, false, List, [], length, IsTrue, inl, inr, Option, Some, None, refl, sym, ap, subst, arith}
use Rattle.std.specs.Prelude.{◌⊎◌, Contains, IfSome, MatchOption}
use Rattle.std.proofs.lemmas.Bool.{and_parts, or_left, or_right, ltb-true}
use Rattle.taxi_base.specs.declared.numbers.Node.{Node}
use Rattle.taxi_base.specs.declared.answers.Flight.{Flight}
use Rattle.taxi_base.specs.declared.answers.Party.{Party}
use Rattle.taxi_base.specs.declared.answers.Found.{Found}
use Rattle.taxi_base.specs.declared.answers.Found.TheVariants as found
use Rattle.taxi_base.specs.declared.answers.Chosen.{Chosen}
use Rattle.taxi_base.specs.declared.answers.Chosen.TheVariants as chosen
use Rattle.taxi_base.specs.declared.answers.Request.{Request}
use Rattle.taxi_base.specs.declared.answers.Refusal.{Refusal}
use Rattle.taxi_base.specs.declared.answers.Refusal.TheVariants as refusal
use Rattle.taxi_base.specs.Airport.{Airport, node_named}
use Rattle.taxi_base.specs.Walks.{IsFeasibleWalk, Meets}
use Rattle.taxi_base.specs.State.{State, with_flight, with_route, without, party_hold, conditions_of, IsFeasibleHold, IsSound}
use Rattle.taxi_base.specs.Faults.{conditions_in, route_fault}
use Rattle.taxi_base.specs.Again.{retargeted, IsTarget, AnswersAgain}
use Rattle.taxi_base.proofs.FaultLaws.{route_fault-None, hold_fault-None}
use Rattle.taxi_base.proofs.StateLaws.{IsSound-with_flight, IsSound-with_party, IsSound-with_route, IsSound-without, IsClashFree-feasible}
use Rattle.std.proofs.lemmas.List.Elements.{All-contains}
use Rattle.std.proofs.lemmas.List.Sorted.{IsPermutation-map}
use Rattle.taxi_text.specs.declared.command.BatchRequest.{BatchRequest}
use Rattle.taxi_text.specs.declared.command.Filed as filing
use Rattle.taxi_text.specs.declared.command.Shut.{Shut}
use Rattle.taxi_text.specs.declared.command.Command.{Command}
use Rattle.taxi_text.specs.declared.command.Command.TheVariants as command
use Rattle.taxi_text.specs.Commands.{command_of}
use Rattle.replies.specs.declared.block.Block.{Block}
use Rattle.replies.specs.declared.block.Block.TheVariants.{Refused, Route, NoRoute}
use Rattle.replies.specs.declared.wish.Wish.{Wish}
use Rattle.replies.specs.Batches.{names_of, IsBatched}
use Rattle.replies.specs.Asked.{IsInGrammar, party_of, Choice, request_for, arrival_any_named, departure_any_named, AnswersChoice}
use Rattle.replies.specs.Refusals.{is_in_force, is_at_work, not_in_force, not_at_work, first_refusal}
use Rattle.replies.specs.CarriedOut.{Reply, IsOf, filed_flight, filed_reply, IsFiled, second_of, found_reply, routed_flight, chosen_reply, IsRoutedToOne, IsRoutedAgain, shut_reply, IsShut, opened_reply, cancelled_reply, windows_reply, occupancy_reply, timetable_reply, IsCarriedOut}
use Rattle.replies.specs.Replies.{refused, IsDueTo, IsDue, NeedsNoMemory, IsReply, as_due, no_memory, IsAnswered}
use Rattle.replies.proofs.FiledLaws.{filed_steps-length, filed_steps-arcs, filed_steps-joined}
use Rattle.replies.proofs.FlightLaws.{flight_named-there, flight_named-name, without-none, without-party}
use Rattle.replies.proofs.RefusalLaws.{none-first, is-in_force, is-at_work, none-fails, none-holds, HasRoom, file-has_room, file-does_not_fail, arrival-has_room, departure-has_room, arrival_any-has_room, departure_any-has_room, work-has_room, work-does_not_fail}
use Rattle.replies.proofs.GrammarLaws.{command_of-in_grammar}
use Rattle.replies.proofs.WindowsTold.{windows_among-are, segment_named-exists}
use Rattle.replies.proofs.ChoiceNames.{chosen-meets}
use Rattle.replies.proofs.FoundLaws.{found_again-meets, second-retargeted}
use Rattle.replies.proofs.NewNames.{new-permutation}
use Rattle.replies.proofs.BatchNames.{batch-new}
use Rattle.replies.proofs.ServedKept.{served-kept}
use Rattle.replies.proofs.LateKept.{late-kept}
use Rattle.replies.proofs.OrderLaws.{ends-permutation}
use Rattle.replies.proofs.RoutedKept.{IsKept, kept-by, routed-kept}
use Rattle.replies.proofs.PrintableLaws.{due-printable, says-names}

module _ (airport : Airport) (state : State) (sound : IsSound airport state) where
  refused-kept : (why : Refusal) → IsKept airport state (Refused why) state
  refused-kept why = record { as_it_says = refl; stays_sound = sound }

  file-kept : (filed : filing.Filed) (block : Block) (after : State) → 0 < length filed.steps
      → first_refusal airport state (command.File filed) ≡ None → IsFiled airport state filed block after → IsKept airport state block after
  file-kept filed block after some none done =
      let steps = done.steps in
      let made = done.steps_known in
      let name = filed.flight in
      let room : HasRoom state filed.flight = file-has_room airport state filed none in
      let faultless : route_fault airport done.class state steps ≡ None =
      none-fails airport state filed done.class steps done.class_known made (file-does_not_fail airport state filed none) in
      let walk : IsFeasibleWalk (conditions_in airport done.class state) steps =
      (route_fault-None airport done.class state steps (omega (arith, some, filed_steps-length airport filed.start filed.steps steps made))
      (filed_steps-arcs airport filed.start filed.steps steps made) (filed_steps-joined airport filed.start filed.steps steps made)).0 faultless in
      kept-by airport state (filed_reply state name done.class steps) block after done.reply (record {
        as_it_says = inl (record { flight = filed_flight name done.class steps; name_told = refl; goes_in = refl; walk = walk; start_told = refl; end_told = refl });
        stays_sound = IsSound-with_flight airport (filed_flight name done.class steps) state sound room.room room.absent walk;
      })

  chosen-kept : (name class : List ℕ) (asked : Option Choice) (block : Block) (after : State) → HasRoom state name
      → IsRoutedToOne airport state name class asked block after → IsKept airport state block after
  chosen-kept name class asked block after room done = go done.chosen done.answers done.reply where
    go : (answer : Chosen) → AnswersChoice (conditions_in airport done.class state) done.choice answer → IsOf (chosen_reply state name done.class done.choice answer) block after → IsKept airport state block after
    go (chosen.NoRoute labels) answers of = kept-by airport state (record { block = NoRoute labels; after = state }) block after of (record { as_it_says = refl; stays_sound = sound })
    go (chosen.Route to steps labels) answers of =
        let request : Request = request_for done.choice to in
        let flight : Flight = routed_flight name done.class request steps in
        let met : Meets (conditions_in airport done.class state) request steps = chosen-meets (conditions_in airport done.class state) done.choice to steps labels answers in
        let same : without name state ≡ state = without-none name state room.absent in
        kept-by airport state (record { block = Route name (second_of request steps) steps labels; after = with_flight flight state }) block after of (record {
          as_it_says = (flight, refl, refl, ap (with_flight flight) (sym same), subst (λ s. Meets (conditions_in airport done.class s) request steps) (sym same) met, refl);
          stays_sound = IsSound-with_flight airport flight state sound room.room room.absent met;
        })

  again-kept : (name : List ℕ) (time : ℕ) (IsMeant : Request → Node → Type 0) (block : Block) (after : State)
      → IsRoutedAgain airport state name time IsMeant block after → IsKept airport state block after
  again-kept name time IsMeant block after done = go done.found done.answers done.reply where
    flight : Flight
    flight = done.flight

    asked : Request
    asked = retargeted flight.request done.target

    go : (found : Found) → AnswersAgain (conditions_of airport state flight) flight.steps time done.target flight.request found
        → IsOf (found_reply state name flight.request (λ steps. with_route flight asked steps state) found) block after → IsKept airport state block after
    go (found.NoRoute labels) answers of = kept-by airport state (record { block = NoRoute labels; after = state }) block after of (record { as_it_says = refl; stays_sound = sound })
    go (found.Route steps labels) answers of =
        let there : Contains state.flights flight = flight_named-there name state.flights flight done.in_force in
        let old : Meets (conditions_of airport state flight) flight.request flight.steps =
        All-contains (λ f. Meets (conditions_of airport state f) f.request f.steps) state.flights flight sound.requests there in
        let met : Meets (conditions_of airport state flight) asked steps =
        found_again-meets (conditions_of airport state flight) flight.steps time done.target flight.request steps labels old answers in
        kept-by airport state (record { block = Route name (second_of flight.request steps) steps labels; after = with_route flight asked steps state }) block after of (record {
          as_it_says = (record flight { request = asked; steps = steps }, flight_named-name name state.flights flight done.in_force, refl, refl, met, second-retargeted flight.request done.target steps);
          stays_sound = IsSound-with_route airport flight state asked steps sound there met;
        })

  work-kept : (shut : Shut) (block : Block) (after : State) → first_refusal airport state (command.Work shut) ≡ None
      → IsShut airport state shut block after → IsKept airport state block after
  work-kept shut block after none done =
      let party : Party = party_of shut done.segment in
      let room : HasRoom state shut.name = work-has_room airport state shut none in
      let hold : IsFeasibleHold airport state (party_hold party) =
      (hold_fault-None airport state (party_hold party) (segment_named-exists airport shut.segment done.segment done.segment_known)).0
      (none-holds airport state shut done.segment done.segment_known (work-does_not_fail airport state shut none)) in
      kept-by airport state (shut_reply state party) block after done.reply (record {
        as_it_says = inr (record { party = party; name_told = refl; goes_in = refl; hold = hold; start_told = refl; end_told = refl });
        stays_sound = IsSound-with_party airport party state sound room.room room.absent hold;
      })

  -- leaving the party out leaves the holder out
  work_done-kept : (name : List ℕ) (block : Block) (after : State) → IsTrue (is_at_work name state) → IsOf (opened_reply state name) block after → IsKept airport state block after
  work_done-kept name block after there done =
      let same = without-party airport name state sound.feasible there in
      kept-by airport state (opened_reply state name) block after done (record {
        as_it_says = (or_left (is_at_work name state) (is_in_force name state) there, same);
        stays_sound = subst (IsSound airport) (sym same) (IsSound-without airport name state sound);
      })

  -- the flights of a batch have new names, in the order in which they are served too
  batch-kept : (requests : List BatchRequest) (block : Block) (after : State) → first_refusal airport state (command.Batch requests) ≡ None
      → IsBatched airport state requests block after → IsKept airport state block after
  batch-kept requests block after none done =
      let order = done.sequenced.order in
      let same = IsPermutation-map (λ (w : Wish). w.name) done.wishes order (ends-permutation airport state done.wishes done.wishes order done.sequenced.ends_at) in
      let new = new-permutation state (names_of done.wishes) (names_of order) same (batch-new airport state requests done.wishes done.known none) in
      let kept = served-kept airport state order done.entries after sound new done.sequenced.served in
      subst (λ (b : Block). IsKept airport state b after) (sym done.block_is) (record { as_it_says = kept.0; stays_sound = kept.1 })

  -- a command that is refused nothing and is carried out keeps the state sound
  pub carried_out-kept : (c : Command) (block : Block) (after : State) → IsInGrammar c → first_refusal airport state c ≡ None
      → IsCarriedOut airport state c block after → IsKept airport state block after
  carried_out-kept (command.File filed) block after spoken none done = file-kept filed block after (ltb-true 0 (length filed.steps) (and_parts _ _ spoken.1).0) none done
  carried_out-kept (command.Arrival asked) block after spoken none done =
      routed-kept airport state sound asked.flight done.class done.request block after (arrival-has_room airport state asked none) done.routed
  carried_out-kept (command.Departure asked) block after spoken none done =
      routed-kept airport state sound asked.flight done.class done.request block after (departure-has_room airport state asked none) done.routed
  carried_out-kept (command.Cancel flight) block after spoken none done =
      kept-by airport state (cancelled_reply state flight) block after done (record {
        as_it_says = (or_right (is_at_work flight state) (is_in_force flight state) (is-in_force state flight (none-first (not_in_force state flight) [] none)), refl);
        stays_sound = IsSound-without airport flight state sound;
      })
  carried_out-kept (command.Reroute flight time) block after spoken none done = again-kept flight time IsTarget block after done
  carried_out-kept (command.Divert flight time node) block after spoken none done = again-kept flight time (λ asked target. node_named airport node ≡ Some target) block after done
  carried_out-kept (command.Windows segment) block after spoken none done =
      kept-by airport state (windows_reply airport state done.segment) block after done.reply (record { as_it_says = (windows_among-are airport state done.segment, refl); stays_sound = sound })
  carried_out-kept (command.Occupancy segment) block after spoken none done =
      kept-by airport state (occupancy_reply state done.segment done.rows) block after done.reply (record { as_it_says = (done.held, refl); stays_sound = sound })
  carried_out-kept command.Timetable block after spoken none done =
      kept-by airport state (timetable_reply state) block after done (record { as_it_says = (refl, refl); stays_sound = sound })
  carried_out-kept (command.Work shut) block after spoken none done = work-kept shut block after none done
  carried_out-kept (command.WorkDone name) block after spoken none done =
      work_done-kept name block after (is-at_work state name (none-first (not_at_work state name) [] none)) done
  carried_out-kept (command.ArrivalAny asked) block after spoken none done =
      chosen-kept asked.flight asked.class (arrival_any_named airport asked) block after (arrival_any-has_room airport state asked none) done
  carried_out-kept (command.DepartureAny asked) block after spoken none done =
      chosen-kept asked.flight asked.class (departure_any_named airport asked) block after (departure_any-has_room airport state asked none) done
  carried_out-kept (command.Batch requests) block after spoken none done = batch-kept requests block after none done
  carried_out-kept (command.Late name time until) block after spoken none done = late-kept airport state sound name time until block after none done

  of-refusal : (why : Refusal) (block : Block) (after : State) → IsOf (refused state why) block after → IsKept airport state block after
  of-refusal why block after of = kept-by airport state (refused state why) block after of (refused-kept why)

  -- what a command is due
  due_to-kept : (c : Command) (block : Block) (after : State) → IsInGrammar c → IsDueTo airport state c block after → IsKept airport state block after
  due_to-kept c block after spoken due = go (first_refusal airport state c) refl due where
    go : (o : Option Refusal) → first_refusal airport state c ≡ o → MatchOption o (IsCarriedOut airport state c block after) (λ why. IsOf (refused state why) block after)
        → IsKept airport state block after
    go None none done = carried_out-kept c block after spoken none done
    go (Some why) some of = of-refusal why block after of

  -- what a line is due
  pub due-kept : (line : List ℕ) (block : Block) (after : State) → IsDue airport state line block after → IsKept airport state block after
  unfolding IsDue
  due-kept line block after due = go (command_of line) (command_of-in_grammar line) due where
    go : (o : Option Command) → IfSome o IsInGrammar
        → MatchOption o (IsOf (refused state refusal.BadLine) block after) (λ c. IsDueTo airport state c block after) → IsKept airport state block after
    go None spoken due = of-refusal refusal.BadLine block after due
    go (Some c) spoken due = due_to-kept c block after spoken due

-- A reply to a line, where the state is sound, answers it as is promised, and leaves the state sound.
pub IsAnswered-sound : (airport : Airport) (state : State) (line : List ℕ) (block : Block) (after : State) → IsSound airport state
    → IsReply airport state line block after → IsAnswered airport state line block after
IsAnswered-sound airport state line _ _ sound (as_due block after due) =
    let kept = due-kept airport state sound line block after due in
    record {
      reply = as_due block after due;
      as_it_says = kept.as_it_says;
      sound = kept.stays_sound;
      clash_free = IsClashFree-feasible airport after kept.stays_sound.feasible;
      printable = λ well names. due-printable airport state well names sound line block after due;
      named = λ well names. says-names airport state block after names kept.as_it_says (due-printable airport state well names sound line block after due);
    }
IsAnswered-sound airport state line _ _ sound (no_memory other) =
    record { reply = no_memory other; as_it_says = refl; sound = sound; clash_free = IsClashFree-feasible airport state sound.feasible; printable = λ well names. tt; named = λ well names. names }

-- ---- the reply by what is read

-- of a line that is a command
pub due-command : (airport : Airport) (state : State) (line : List ℕ) (c : Command) (block : Block) (after : State) → command_of line ≡ Some c
    → IsDueTo airport state c block after → IsDue airport state line block after
unfolding IsDue
due-command airport state line c block after e due = rw e due

-- and of one that is none
pub due-bad_line : (airport : Airport) (state : State) (line : List ℕ) → command_of line ≡ None → IsDue airport state line (Refused refusal.BadLine) state
unfolding IsDue
due-bad_line airport state line e = rw e (refl, refl)

-- ---- there is a reply

-- whether a command needs no memory
pub needs_no_memory-or : (o : Option Command) → NeedsNoMemory o ⊎ (NeedsNoMemory o → ⊥)
needs_no_memory-or None = inr (λ needs. needs)
needs_no_memory-or (Some (command.File filed)) = inr (λ needs. needs)
needs_no_memory-or (Some (command.Arrival asked)) = inr (λ needs. needs)
needs_no_memory-or (Some (command.Departure asked)) = inr (λ needs. needs)
needs_no_memory-or (Some (command.Cancel flight)) = inl tt
needs_no_memory-or (Some (command.Reroute flight time)) = inr (λ needs. needs)
needs_no_memory-or (Some (command.Divert flight time node)) = inr (λ needs. needs)
needs_no_memory-or (Some (command.Windows segment)) = inr (λ needs. needs)
needs_no_memory-or (Some (command.Occupancy segment)) = inr (λ needs. needs)
needs_no_memory-or (Some command.Timetable) = inr (λ needs. needs)
needs_no_memory-or (Some (command.Work shut)) = inr (λ needs. needs)
needs_no_memory-or (Some (command.WorkDone name)) = inl tt
needs_no_memory-or (Some (command.ArrivalAny asked)) = inr (λ needs. needs)
needs_no_memory-or (Some (command.DepartureAny asked)) = inr (λ needs. needs)
needs_no_memory-or (Some (command.Batch requests)) = inr (λ needs. needs)
needs_no_memory-or (Some (command.Late name time until)) = inr (λ needs. needs)

cancel-due : (airport : Airport) (state : State) (name : List ℕ) → (reply : Reply) × IsDueTo airport state (command.Cancel name) reply.block reply.after
cancel-due airport state name = go (is_in_force name state) refl where
  go : (b : Bool) → is_in_force name state ≡ b → (reply : Reply) × IsDueTo airport state (command.Cancel name) reply.block reply.after
  go true e = (cancelled_reply state name, rw e (refl, refl))
  go false e = (refused state refusal.NotInForce, rw e (refl, refl))

work_done-due : (airport : Airport) (state : State) (name : List ℕ) → (reply : Reply) × IsDueTo airport state (command.WorkDone name) reply.block reply.after
work_done-due airport state name = go (is_at_work name state) refl where
  go : (b : Bool) → is_at_work name state ≡ b → (reply : Reply) × IsDueTo airport state (command.WorkDone name) reply.block reply.after
  go true e = (opened_reply state name, rw e (refl, refl))
  go false e = (refused state refusal.NotInForce, rw e (refl, refl))

-- each line has a reply
pub reply-is_there : (airport : Airport) (state : State) (line : List ℕ) → (reply : Reply) × IsReply airport state line reply.block reply.after
reply-is_there airport state line = go (command_of line) refl where
  by_memory : (NeedsNoMemory (command_of line) → ⊥) → (reply : Reply) × IsReply airport state line reply.block reply.after
  by_memory needs = (refused state refusal.Memory, no_memory needs)

  go : (o : Option Command) → command_of line ≡ o → (reply : Reply) × IsReply airport state line reply.block reply.after
  go o e = elim (needs_no_memory-or o) [
    | inl needs ↦ by_due o e needs
    | inr not_so ↦ by_memory (λ needs. not_so (subst NeedsNoMemory e needs))
  ] where
    by_due : (o : Option Command) → command_of line ≡ o → NeedsNoMemory o → (reply : Reply) × IsReply airport state line reply.block reply.after
    by_due None e needs = absurd needs
    by_due (Some (command.File filed)) e needs = absurd needs
    by_due (Some (command.Arrival asked)) e needs = absurd needs
    by_due (Some (command.Departure asked)) e needs = absurd needs
    by_due (Some (command.Cancel flight)) e needs =
        let due = cancel-due airport state flight in
        (due.0, as_due due.0.block due.0.after (due-command airport state line (command.Cancel flight) due.0.block due.0.after e due.1))
    by_due (Some (command.Reroute flight time)) e needs = absurd needs
    by_due (Some (command.Divert flight time node)) e needs = absurd needs
    by_due (Some (command.Windows segment)) e needs = absurd needs
    by_due (Some (command.Occupancy segment)) e needs = absurd needs
    by_due (Some command.Timetable) e needs = absurd needs
    by_due (Some (command.Work shut)) e needs = absurd needs
    by_due (Some (command.ArrivalAny asked)) e needs = absurd needs
    by_due (Some (command.DepartureAny asked)) e needs = absurd needs
    by_due (Some (command.Batch requests)) e needs = absurd needs
    by_due (Some (command.Late name time until)) e needs = absurd needs
    by_due (Some (command.WorkDone name)) e needs =
        let due = work_done-due airport state name in
        (due.0, as_due due.0.block due.0.after (due-command airport state line (command.WorkDone name) due.0.block due.0.after e due.1))
