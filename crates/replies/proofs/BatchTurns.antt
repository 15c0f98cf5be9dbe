-- The searches of a batch: one for each entry, which seeks what the wish of its name asks for.
use Rattle.std.proofs.Common.{◌≡◌, ◌∙◌, ℕ, List, [], Option, Some, ap}
use Rattle.std.specs.Prelude.{option_map, option_and_then}
use Rattle.std.specs.Option.{option_map_or}
use Rattle.taxi_base.specs.Airport.{Airport}
use Rattle.taxi_base.specs.State.{State}
use Rattle.taxi_text.specs.declared.command.BatchRequest.{BatchRequest}
use Rattle.taxi_text.specs.declared.command.Command.{Command}
use Rattle.taxi_text.specs.declared.command.Command.TheVariants as command
use Rattle.taxi_text.specs.Commands.{command_of}
use Rattle.replies.specs.declared.block.Block.TheVariants.{Batch}
use Rattle.replies.specs.declared.entries.Entry.{Entry}
use Rattle.replies.specs.declared.wish.Wish.{Wish}
use Rattle.replies.specs.Batches.{wishes_of, wish_named}
use Rattle.replies.specs.Sought.{sought_wish}
use Rattle.replies.specs.Turns.{sought_for, turns_for, turns_of}
use Rattle.replies.proofs.EntryTurns.{turns_from}

-- what is sought for a name is what its wish asks for
pub wish-sought : (airport : Airport) (before : State) (requests : List BatchRequest) (wishes : List Wish) → wishes_of airport requests ≡ Some wishes → (state : State) (name : List ℕ) (wish : Wish)
    → wish_named name wishes ≡ Some wish → sought_for airport before (command.Batch requests) name state ≡ Some (sought_wish airport state wish)
wish-sought airport before requests wishes known state name wish named =
    ap (λ (o : Option (List Wish)). option_map (sought_wish airport state) (option_and_then (wish_named name) o)) known ∙ ap (option_map (sought_wish airport state)) named

-- the searches of a line that is a batch
pub batch-turns : (airport : Airport) (state : State) (line : List ℕ) (requests : List BatchRequest) (total : ℕ) (entries : List (List ℕ × Entry)) → command_of line ≡ Some (command.Batch requests)
    → turns_of airport state line (Batch total entries) ≡ turns_from airport state (command.Batch requests) state entries
batch-turns airport state line requests total entries read = ap (λ (o : Option Command). option_map_or (λ c. turns_for airport state c (Batch total entries)) o []) read
