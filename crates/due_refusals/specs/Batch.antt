-- What do the words of a batch ask for?
use Rattle.std.specs.Prelude.{◌≡◌, List, Some, None}
use Rattle.taxi_base.specs.Airport.{Airport}
use Rattle.taxi_base.specs.State.{State}
use Rattle.taxi_text.specs.declared.command.BatchRequest.{BatchRequest}
use Rattle.taxi_text.specs.declared.command.Command.TheVariants as command
use Rattle.replies.specs.Batches.{wishes_of}
use Rattle.replies.specs.Refusals.{first_refusal}
use Rattle.due_refusals.specs.declared.batch.NamedBatch.{NamedBatch}
use Rattle.due_refusals.specs.declared.batch.NamedBatch.TheVariants.{Named, Refused}

-- the wishes are those of the requests, and the batch is not refused; or it is refused so
abbrev pub AreBatchNamed : Airport → State → List BatchRequest → NamedBatch → Type 0
AreBatchNamed airport state requests (Named wishes) = (wishes_of airport requests ≡ Some wishes) × (first_refusal airport state (command.Batch requests) ≡ None)
AreBatchNamed airport state requests (Refused why) = first_refusal airport state (command.Batch requests) ≡ Some why
