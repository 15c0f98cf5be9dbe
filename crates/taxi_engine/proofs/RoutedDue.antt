-- When a route that was searched for is due, and what was found of it is told.
use Rattle.std.proofs.Common.{◌≡◌, None, refl, subst, inl, inr}
use Rattle.std.specs.Prelude.{IfOk, Result}
use Rattle.taxi_base.specs.declared.collections.Memory.{Memory}
use Rattle.taxi_base.specs.declared.answers.Found.{Found}
use Rattle.taxi_base.specs.declared.answers.Request.TheVariants as request
use Rattle.taxi_base.specs.State.{with_flight}
use Rattle.taxi_base.specs.Faults.{conditions_in}
use Rattle.taxi_text.specs.declared.command.Asked.{Asked}
use Rattle.taxi_text.specs.declared.command.Command.TheVariants as command
use Rattle.replies.specs.Asked.{AnswersRequest}
use Rattle.replies.specs.Refusals.{first_refusal}
use Rattle.replies.specs.CarriedOut.{found_reply, routed_flight}
use Rattle.command_refusals.specs.declared.asking.Trip.{Trip}
use Rattle.taxi_engine.specs.Engine.{EngineState}
use Rattle.taxi_engine.specs.Done.{IsDoneOrMemory}
use Rattle.command_refusals.specs.Named.{IsTripOf}
use Rattle.taxi_engine.specs.Routed.{IsFoundTold}

module _ (old new : EngineState) (asked : Asked) (trip : Trip) (named : IsTripOf old.airport asked trip) (found : Result Found Memory) where
  pub arrival-done : first_refusal old.airport old.state (command.Arrival asked) ≡ None
      → IfOk found (AnswersRequest (conditions_in old.airport trip.class old.state) (request.Arrival trip.from trip.to trip.time trip.slack))
      → IsFoundTold asked.flight trip.class (request.Arrival trip.from trip.to trip.time trip.slack) found old new → IsDoneOrMemory (command.Arrival asked) old new
  arrival-done none answers (inr memory) = inr (none, memory)
  arrival-done none answers (inl told) =
      let asks = request.Arrival trip.from trip.to trip.time trip.slack in
      inl (record {
        reply = found_reply old.state asked.flight asks (λ steps. with_flight (routed_flight asked.flight trip.class asks steps) old.state) told.0;
        due = rw none (record {
          class = trip.class;
          request = asks;
          class_known = named.class_known;
          nodes_known = rw (named.from_known, named.to_known, named.time, named.slack) refl;
          routed = record {
            found = told.0;
            answers = subst (λ r. IfOk r (AnswersRequest (conditions_in old.airport trip.class old.state) asks)) told.1 answers;
            reply = (refl, refl);
          };
        });
        done = told.2;
      })

  pub departure-done : first_refusal old.airport old.state (command.Departure asked) ≡ None
      → IfOk found (AnswersRequest (conditions_in old.airport trip.class old.state) (request.Departure trip.from trip.to trip.time trip.slack))
      → IsFoundTold asked.flight trip.class (request.Departure trip.from trip.to trip.time trip.slack) found old new → IsDoneOrMemory (command.Departure asked) old new
  departure-done none answers (inr memory) = inr (none, memory)
  departure-done none answers (inl told) =
      let asks = request.Departure trip.from trip.to trip.time trip.slack in
      inl (record {
        reply = found_reply old.state asked.flight asks (λ steps. with_flight (routed_flight asked.flight trip.class asks steps) old.state) told.0;
        due = rw none (record {
          class = trip.class;
          request = asks;
          class_known = named.class_known;
          nodes_known = rw (named.from_known, named.to_known, named.time, named.slack) refl;
          routed = record {
            found = told.0;
            answers = subst (λ r. IfOk r (AnswersRequest (conditions_in old.airport trip.class old.state) asks)) told.1 answers;
            reply = (refl, refl);
          };
        });
        done = told.2;
      })
