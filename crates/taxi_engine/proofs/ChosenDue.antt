-- When a route to the best of several nodes is due, and what was chosen is told.
use Rattle.std.proofs.Common.{◌≡◌, List, None, refl, subst, inl, inr}
use Rattle.std.specs.Prelude.{All, IfOk, Result}
use Rattle.taxi_base.specs.declared.collections.Memory.{Memory}
use Rattle.taxi_base.specs.declared.numbers.Class.{Class}
use Rattle.taxi_base.specs.declared.rows.LabelRow.{LabelRow}
use Rattle.taxi_base.specs.declared.answers.Chosen.{Chosen}
use Rattle.taxi_base.specs.declared.answers.Refusal.{Refusal}
use Rattle.taxi_base.specs.declared.answers.Refusal.TheVariants as refusal
use Rattle.taxi_base.specs.Airport.{Airport, IsWellFormed}
use Rattle.taxi_base.specs.Windows.{Hold}
use Rattle.taxi_base.specs.Walks.{conditions_among}
use Rattle.taxi_base.specs.Faults.{conditions_in}
use Rattle.taxi_base.proofs.WalkLaws.{conditions_among-bounded}
use Rattle.taxi_text.specs.declared.command.AskedAny.{AskedAny}
use Rattle.taxi_text.specs.declared.command.Command.{Command}
use Rattle.taxi_text.specs.declared.command.Command.TheVariants as command
use Rattle.replies.specs.Printable.{HasArc}
use Rattle.replies.specs.Asked.{Choice, arrival_any, departure_any, AnswersChoice}
use Rattle.replies.specs.Refusals.{first_refusal}
use Rattle.replies.specs.CarriedOut.{chosen_reply}
use Rattle.replies.specs.Replies.{refused}
use Rattle.replies.proofs.FoundLaws.{labels_of_chosen, chosen-printable}
use Rattle.command_refusals.specs.declared.choosing.TripToAny.{TripToAny}
use Rattle.taxi_engine.specs.Engine.{EngineState, MayWantMemory}
use Rattle.command_refusals.specs.Accepted.{IsRefused}
use Rattle.taxi_engine.specs.Done.{IsDone, IsDoneOrMemory}
use Rattle.command_refusals.specs.Named.{IsTripOfAny}
use Rattle.taxi_engine.specs.Choosing.{IsChosenTold}
use Rattle.taxi_engine.proofs.DueLaws.{refusal-due}
use Rattle.taxi_engine.proofs.RouteLaws.{printable-arcs}

module _ (old new : EngineState) (asked : AskedAny) (trip : TripToAny) (named : IsTripOfAny old.airport asked trip) (chosen : Result Chosen Memory) where
  pub arrival_any-done : first_refusal old.airport old.state (command.ArrivalAny asked) ≡ None
      → IfOk chosen (AnswersChoice (conditions_in old.airport trip.class old.state) (arrival_any trip.from trip.nodes trip.time trip.slack))
      → IsChosenTold asked.flight trip.class (arrival_any trip.from trip.nodes trip.time trip.slack) chosen old new → IsDoneOrMemory (command.ArrivalAny asked) old new
  arrival_any-done none answers (inr memory) = inr (tt, memory)
  arrival_any-done none answers (inl told) =
      let choice = arrival_any trip.from trip.nodes trip.time trip.slack in
      inl (record {
        reply = chosen_reply old.state asked.flight trip.class choice told.0;
        due = rw none (record {
          class = trip.class;
          choice = choice;
          class_known = named.class_known;
          nodes_known = rw (named.from_known, named.nodes_known, named.time, named.slack) refl;
          chosen = told.0;
          answers = subst (λ r. IfOk r (AnswersChoice (conditions_in old.airport trip.class old.state) choice)) told.1 answers;
          reply = (refl, refl);
        });
        done = told.2;
      })

  pub departure_any-done : first_refusal old.airport old.state (command.DepartureAny asked) ≡ None
      → IfOk chosen (AnswersChoice (conditions_in old.airport trip.class old.state) (departure_any trip.from trip.nodes trip.time trip.slack))
      → IsChosenTold asked.flight trip.class (departure_any trip.from trip.nodes trip.time trip.slack) chosen old new → IsDoneOrMemory (command.DepartureAny asked) old new
  departure_any-done none answers (inr memory) = inr (tt, memory)
  departure_any-done none answers (inl told) =
      let choice = departure_any trip.from trip.nodes trip.time trip.slack in
      inl (record {
        reply = chosen_reply old.state asked.flight trip.class choice told.0;
        due = rw none (record {
          class = trip.class;
          choice = choice;
          class_known = named.class_known;
          nodes_known = rw (named.from_known, named.nodes_known, named.time, named.slack) refl;
          chosen = told.0;
          answers = subst (λ r. IfOk r (AnswersChoice (conditions_in old.airport trip.class old.state) choice)) told.1 answers;
          reply = (refl, refl);
        });
        done = told.2;
      })

-- the labels of what was chosen are by arcs of the airport
pub chosen-arcs : (airport : Airport) (class : Class) (holds : List Hold) → IsWellFormed airport → (choice : Choice) (answer : Chosen) → AnswersChoice (conditions_among airport class holds) choice answer
    → All (λ (label : LabelRow). HasArc airport label.arc) (labels_of_chosen answer)
chosen-arcs airport class holds well choice answer answers =
    printable-arcs airport (labels_of_chosen answer) (chosen-printable (conditions_among airport class holds) well (conditions_among-bounded airport class holds) choice answer answers)

-- a refusal that is due, or stands for want of memory, is told
pub refused-so : (old new : EngineState) (asks : Command) (why : Refusal) → (why ≡ refusal.Memory → MayWantMemory old.airport old.state asks) → IsRefused old.airport old.state asks why
    → IsDone (refused old.state why) old new → IsDoneOrMemory asks old new
refused-so old new asks why may (inl memory) done = inr (may memory, subst (λ w. IsDone (refused old.state w) old new) memory done)
refused-so old new asks why may (inr first) done = inl (record { reply = refused old.state why; due = refusal-due old.airport old.state asks why first; done = done })
