-- A new flight that is routed does as its block says, and leaves the state sound.
use Rattle.std.proofs.Common.{◌≡◌, ℕ, List, refl, sym, ap, subst}
use Rattle.taxi_base.specs.declared.numbers.Class.{Class}
use Rattle.taxi_base.specs.declared.answers.Flight.{Flight}
use Rattle.taxi_base.specs.declared.answers.Found.{Found}
use Rattle.taxi_base.specs.declared.answers.Found.TheVariants as found
use Rattle.taxi_base.specs.declared.answers.Request.{Request}
use Rattle.taxi_base.specs.Airport.{Airport}
use Rattle.taxi_base.specs.Walks.{Meets}
use Rattle.taxi_base.specs.State.{State, with_flight, without, IsSound}
use Rattle.taxi_base.specs.Faults.{conditions_in}
use Rattle.taxi_base.proofs.StateLaws.{IsSound-with_flight}
use Rattle.replies.specs.declared.block.Block.{Block}
use Rattle.replies.specs.declared.block.Block.TheVariants.{Route, NoRoute}
use Rattle.replies.specs.Asked.{AnswersRequest}
use Rattle.replies.specs.CarriedOut.{Reply, IsOf, second_of, found_reply, routed_flight, IsRoutedAs}
use Rattle.replies.specs.Replies.{DoesAsItSays}
use Rattle.replies.proofs.FlightLaws.{without-none}
use Rattle.replies.proofs.RefusalLaws.{HasRoom}
use Rattle.replies.proofs.FoundLaws.{found-meets}

-- what the block says is so, and the state is sound afterwards
pub record IsKept (airport : Airport) (state : State) (block : Block) (after : State) : Type 0 where
  pub as_it_says : DoesAsItSays airport state block after
  pub stays_sound : IsSound airport after

-- a block and a state are those of a reply of which this is so
pub kept-by : (airport : Airport) (state : State) (reply : Reply) (block : Block) (after : State) → IsOf reply block after → IsKept airport state reply.block reply.after → IsKept airport state block after
kept-by airport state reply block after of kept = rw (of.0, of.1) kept

module _ (airport : Airport) (state : State) (sound : IsSound airport state) where
  pub routed-kept : (name : List ℕ) (class : Class) (request : Request) (block : Block) (after : State) → HasRoom state name
      → IsRoutedAs airport state name class request block after → IsKept airport state block after
  routed-kept name class request block after room done = go done.found done.answers done.reply where
    go : (found : Found) → AnswersRequest (conditions_in airport class state) request found
        → IsOf (found_reply state name request (λ steps. with_flight (routed_flight name class request steps) state) found) block after → IsKept airport state block after
    go (found.NoRoute labels) answers of = kept-by airport state (record { block = NoRoute labels; after = state }) block after of (record { as_it_says = refl; stays_sound = sound })
    go (found.Route steps labels) answers of =
        let flight : Flight = routed_flight name class request steps in
        let met : Meets (conditions_in airport class state) request steps = found-meets (conditions_in airport class state) request steps labels answers in
        let same : without name state ≡ state = without-none name state room.absent in
        kept-by airport state (record { block = Route name (second_of request steps) steps labels; after = with_flight flight state }) block after of (record {
          as_it_says = (flight, refl, refl, ap (with_flight flight) (sym same), subst (λ s. Meets (conditions_in airport class s) request steps) (sym same) met, refl);
          stays_sound = IsSound-with_flight airport flight state sound room.room room.absent met;
        })
