-- A route that is given by hand and not refused: its flight can be put in force, and how the block that answers it is judged.
use Rattle.std.proofs.Common.{◌≡◌, ◌∙◌, ℕ, ◌<◌, List, length, IsTrue, refl, sym, ap, subst}
use Rattle.std.specs.Prelude.{Ok, All, MatchOption}
use Rattle.taxi_base.specs.declared.answers.Flight.{Flight}
use Rattle.taxi_base.specs.Airport.{Airport, layout_of, arc_exists}
use Rattle.taxi_base.specs.Walks.{IsFeasibleWalk, Meets, begin_of, end_of}
use Rattle.taxi_base.specs.State.{State, with_flight}
use Rattle.taxi_base.specs.Faults.{conditions_in}
use Rattle.taxi_base.proofs.FaultLaws.{route_fault-None}
use Rattle.taxi_text.specs.declared.command.Filed.{Filed}
use Rattle.taxi_text.specs.declared.command.Command.TheVariants as command
use Rattle.taxi_text.specs.Commands.{is_step_count}
use Rattle.replies.specs.declared.block.Block.{Block}
use Rattle.replies.specs.declared.block.Block.TheVariants as told
use Rattle.replies.specs.CarriedOut.{filed_flight, IsFiled}
use Rattle.replies.specs.Replies.{refused, IsDueTo}
use Rattle.replies.proofs.FiledLaws.{filed_steps-arcs, filed_steps-joined}
use Rattle.replies.proofs.RefusalLaws.{HasRoom, none-fails, file-has_room, file-does_not_fail}
use Rattle.replies.specs.CarriedOut.{IsOf}
use Rattle.due_refusals.specs.Filing.{IsAccepted}
use Rattle.due_refusals.proofs.FiledLaws.{few-made}
use Rattle.certificate_check.specs.Judged.{IsAfterFor, IsJudged}
use Rattle.certificate_check.proofs.JudgedLaws.{done-judged}

module _ (airport : Airport) (state : State) (filed : Filed) (count : IsTrue (is_step_count (length filed.steps))) (flight : Flight) (accepted : IsAccepted airport state filed flight) where
  pub accepted-some : 0 < length flight.steps
  accepted-some = (few-made airport filed.start filed.steps flight.steps accepted.steps_known count).0

  pub accepted-arcs : All (λ step. IsTrue (arc_exists (layout_of airport) step.arc)) flight.steps
  accepted-arcs = filed_steps-arcs airport filed.start filed.steps flight.steps accepted.steps_known

  accepted-walk : IsFeasibleWalk (conditions_in airport flight.class state) flight.steps
  accepted-walk =
      (route_fault-None airport flight.class state flight.steps accepted-some accepted-arcs (filed_steps-joined airport filed.start filed.steps flight.steps accepted.steps_known)).0
      (none-fails airport state filed flight.class flight.steps accepted.class_known accepted.steps_known (file-does_not_fail airport state filed accepted.unrefused))

  pub accepted-room : HasRoom state flight.name
  accepted-room = subst (HasRoom state) (sym accepted.same_name) (file-has_room airport state filed accepted.unrefused)

  pub accepted-meets : Meets (conditions_in airport flight.class state) flight.request flight.steps
  accepted-meets = subst (λ r. Meets (conditions_in airport flight.class state) r flight.steps) (sym accepted.by_hand) accepted-walk

  flight-is : flight ≡ filed_flight filed.flight flight.class flight.steps
  flight-is = λ i. record { name = accepted.same_name i; class = flight.class; request = accepted.by_hand i; steps = flight.steps }

  done : (block : Block) (after : State) → block ≡ told.Filed filed.flight (begin_of flight.steps) (end_of flight.steps) → after ≡ with_flight flight state → IsFiled airport state filed block after
  done block after is left = record {
    class = flight.class;
    steps = flight.steps;
    class_known = accepted.class_known;
    steps_known = accepted.steps_known;
    reply = (is, left ∙ ap (λ (f : Flight). with_flight f state) flight-is);
  }

  -- a block that tells it keeps every rule
  pub accepted-judged : (block : Block) (after : State) → block ≡ told.Filed flight.name (begin_of flight.steps) (end_of flight.steps) → after ≡ with_flight flight state
      → IsJudged airport (command.File filed) block state (Ok tt) after
  accepted-judged block after tells left =
      let answer : Block = told.Filed filed.flight (begin_of flight.steps) (end_of flight.steps) in
      let is : block ≡ answer = tells ∙ ap (λ (n : List ℕ). told.Filed n (begin_of flight.steps) (end_of flight.steps)) accepted.same_name in
      let due : IsDueTo airport state (command.File filed) answer after =
      subst (λ o. MatchOption o (IsFiled airport state filed answer after) (λ why. IsOf (refused state why) answer after)) (sym accepted.unrefused) (done answer after refl left) in
      done-judged airport state (command.File filed) block accepted.unrefused tt after (done block after is left)
      (subst (λ b. IsAfterFor airport state (command.File filed) b after) (sym is) due)
