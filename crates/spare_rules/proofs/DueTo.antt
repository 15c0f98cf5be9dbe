-- Each line is due the same reply at two such airports, so each run is the same.
use Rattle.std.proofs.Common.{◌≡◌, ℕ, List, [], ◌∷◌, Option, Some, None, refl, subst}
use Rattle.std.specs.Prelude.{MatchOption}
use Rattle.taxi_base.specs.declared.numbers.Node.{Node}
use Rattle.taxi_base.specs.declared.answers.Refusal.{Refusal}
use Rattle.taxi_base.specs.declared.answers.Refusal.TheVariants as refusal
use Rattle.taxi_base.specs.declared.answers.Request.{Request}
use Rattle.taxi_base.specs.Airport.{node_named, class_named, segment_named, arc_named, ends}
use Rattle.taxi_base.specs.Walks.{Conditions, conditions_among}
use Rattle.taxi_base.specs.State.{State, holds_in, without, IsSound}
use Rattle.taxi_base.specs.Again.{IsTarget, AnswersAgain}
use Rattle.taxi_text.specs.declared.command.Command.{Command}
use Rattle.taxi_text.specs.declared.command.Command.TheVariants as command
use Rattle.taxi_text.specs.Commands.{command_of}
use Rattle.replies.specs.declared.block.Block.{Block}
use Rattle.replies.specs.declared.block.Block.TheVariants.{Windows}
use Rattle.replies.specs.Asked.{Choice, AnswersChoice, arrival_named, departure_named, arrival_any_named, departure_any_named}
use Rattle.replies.specs.Refusals.{first_refusal}
use Rattle.replies.specs.CarriedOut.{Reply, IsOf, IsRouted, IsRoutedToOne, IsRoutedAgain, IsCarriedOut}
use Rattle.replies.specs.Replies.{refused, IsDueTo, IsDue, IsReply}
use Rattle.replies.proofs.ReplyLaws.{IsAnswered-sound}
use Rattle.transcripts.specs.Runs.{IsRun}
use Rattle.spare_rules.proofs.Pairs.{Pair, one, other}
use Rattle.spare_rules.proofs.AnswersTo.{choice-to, again-to}
use Rattle.spare_rules.proofs.HoldersTo.{among, refusal-same, held-to, windows-same}
use Rattle.spare_rules.proofs.LateTo.{repair-to}
use Rattle.spare_rules.proofs.BatchTo.{routed-to, batched-to}

module _ (p : Pair) (state : State) (block : Block) (after : State) where
  is_routed-to : (name class_name : List ℕ) (asked : Option Request) → IsRouted (one p) state name class_name asked block after → IsRouted (other p) state name class_name asked block after
  unfolding class_named
  is_routed-to name class_name asked is = record {
    class = is.class;
    request = is.request;
    class_known = is.class_known;
    nodes_known = is.nodes_known;
    routed = routed-to p state name is.class is.request block after is.routed;
  }

  to_one-to : (name class_name : List ℕ) (asked : Option Choice) → IsRoutedToOne (one p) state name class_name asked block after → IsRoutedToOne (other p) state name class_name asked block after
  unfolding class_named
  to_one-to name class_name asked is = record {
    class = is.class;
    choice = is.choice;
    class_known = is.class_known;
    nodes_known = is.nodes_known;
    chosen = is.chosen;
    answers = subst (λ (c : Conditions). AnswersChoice c is.choice is.chosen) (among p is.class (holds_in (one p) state))
        (choice-to p (conditions_among (one p) is.class (holds_in (one p) state)) is.choice is.chosen is.answers);
    reply = is.reply;
  }

  again_in-to : (name : List ℕ) (time : ℕ) (IsMeant : Request → Node → Type 0) → IsRoutedAgain (one p) state name time IsMeant block after → IsRoutedAgain (other p) state name time IsMeant block after
  again_in-to name time IsMeant is =
      let holds = holds_in (one p) (without is.flight.name state) in record {
        flight = is.flight;
        target = is.target;
        in_force = is.in_force;
        meant = is.meant;
        found = is.found;
        answers = subst (λ (c : Conditions). AnswersAgain c is.flight.steps time is.target is.flight.request is.found) (among p is.flight.class holds)
            (again-to p (conditions_among (one p) is.flight.class holds) is.flight.steps time is.target is.flight.request is.found is.answers);
        reply = is.reply;
      }

  node-same : (name : List ℕ) → node_named (one p) name ≡ node_named (other p) name
  unfolding node_named
  node-same name = refl

  arrival-same : (asked : _) → arrival_named (one p) asked ≡ arrival_named (other p) asked
  unfolding node_named
  arrival-same asked = refl

  carried-to : (c : Command) → IsCarriedOut (one p) state c block after → IsCarriedOut (other p) state c block after
  unfolding node_named class_named segment_named arc_named ends
  carried-to (command.File filed) is = record { class = is.class; steps = is.steps; class_known = is.class_known; steps_known = is.steps_known; reply = is.reply }
  carried-to (command.Arrival asked) is = is_routed-to asked.flight asked.class (arrival_named (one p) asked) is
  carried-to (command.Departure asked) is = is_routed-to asked.flight asked.class (departure_named (one p) asked) is
  carried-to (command.Cancel flight) is = is
  carried-to (command.Reroute flight time) is = again_in-to flight time IsTarget is
  carried-to (command.Divert flight time node) is = again_in-to flight time (λ asked target. node_named (one p) node ≡ Some target) is
  carried-to (command.Windows segment) is = record {
    segment = is.segment;
    known = is.known;
    reply = subst (λ (r : Reply). IsOf r block after) (λ i. record { block = Windows is.segment (windows-same p state is.segment i); after = state }) is.reply;
  }
  carried-to (command.Occupancy segment) is = record { segment = is.segment; rows = is.rows; known = is.known; held = held-to p state is.segment is.rows is.held; reply = is.reply }
  carried-to command.Timetable is = is
  carried-to (command.Work shut) is = record { segment = is.segment; segment_known = is.segment_known; reply = is.reply }
  carried-to (command.WorkDone name) is = is
  carried-to (command.ArrivalAny asked) is = to_one-to asked.flight asked.class (arrival_any_named (one p) asked) is
  carried-to (command.DepartureAny asked) is = to_one-to asked.flight asked.class (departure_any_named (one p) asked) is
  carried-to (command.Batch requests) is = batched-to p state requests block after is
  carried-to (command.Late flight time until) is = repair-to p state flight time until block after is

  due_to-to : (c : Command) → IsDueTo (one p) state c block after → IsDueTo (other p) state c block after
  due_to-to c due =
      subst (λ (o : Option Refusal). MatchOption o (IsCarriedOut (other p) state c block after) (λ why. IsOf (refused state why) block after)) (refusal-same p state c)
      (go (first_refusal (one p) state c) due)
    where
      go : (o : Option Refusal) → MatchOption o (IsCarriedOut (one p) state c block after) (λ why. IsOf (refused state why) block after)
          → MatchOption o (IsCarriedOut (other p) state c block after) (λ why. IsOf (refused state why) block after)
      go None is = carried-to c is
      go (Some why) is = is

  pub due-to : (line : List ℕ) → IsDue (one p) state line block after → IsDue (other p) state line block after
  unfolding IsDue
  due-to line due = go (command_of line) due where
    go : (o : Option Command) → MatchOption o (IsOf (refused state refusal.BadLine) block after) (λ c. IsDueTo (one p) state c block after)
        → MatchOption o (IsOf (refused state refusal.BadLine) block after) (λ c. IsDueTo (other p) state c block after)
    go None is = is
    go (Some c) is = due_to-to c is

-- ---- runs

reply-to : (p : Pair) (state : State) (line : List ℕ) (block : Block) (after : State) → IsReply (one p) state line block after → IsReply (other p) state line block after
reply-to p state line block after (IsReply.as_due _ _ due) = IsReply.as_due block after (due-to p state block after line due)
reply-to p state line block after (IsReply.no_memory may) = IsReply.no_memory may

pub run-to : (p : Pair) (before : State) (lines : List (List ℕ)) (blocks : List Block) (after : State) → IsSound (other p) before → IsRun (one p) before lines blocks after → IsRun (other p) before lines blocks after
run-to p before [] [] after sound run = run
run-to p before [] (block ∷ blocks) after sound run = run
run-to p before (line ∷ lines) [] after sound run = run
run-to p before (line ∷ lines) (block ∷ blocks) after sound (mid, answered, rest) =
    let there = IsAnswered-sound (other p) before line block mid sound (reply-to p before line block mid answered.reply) in
    (mid, there, run-to p mid lines blocks after there.sound rest)
