-- What holds of an order while it is served and exchanged. No public clause cites these.
use Rattle.std.specs.Prelude.{ℕ, ◌≡◌, ◌+◌, ◌<◌, ◌≤◌, List, length, take, All}
use Rattle.taxi_base.specs.Airport.{Airport}
use Rattle.taxi_base.specs.State.{State, holder_count}
use Rattle.replies.specs.declared.entries.Entry.{Entry}
use Rattle.replies.specs.declared.wish.Wish.{Wish}
use Rattle.replies.specs.Batches.{IsServed, exchanged}
use Rattle.sequence_exchange.specs.declared.order.Order.{Order}
use Rattle.sequence_exchange.specs.Serving.{IsShortRequest, AreNew, AreFairFor, all_seconds_lost}

-- the flights of an order are new, and few enough
pub record CanBeServed (before : State) (wishes : List Wish) : Type 0 where
  pub asked : All (λ wish. IsShortRequest wish.request) wishes
  pub new : AreNew before wishes
  pub few : holder_count before + length wishes ≤ 4096
  pub count : length wishes ≤ 6

-- they are told entries, of which these are the costs
pub record IsTotal (airport : Airport) (before : State) (wishes : List Wish) (entries : List (List ℕ × Entry)) (total : ℕ) (now : State) : Type 0 where
  pub served : IsServed airport before wishes entries now
  pub fair : AreFairFor wishes entries
  pub total_is : total ≡ all_seconds_lost wishes entries

-- the order is served from a state on
pub record IsServedFrom (airport : Airport) (before : State) (order : Order) (now : State) : Type 0 where
  pub can_be : CanBeServed before order.wishes.items
  pub comes_to : IsTotal airport before order.wishes.items order.entries.items order.total now

-- and its flights from a place on are taken out
pub record IsTakenOut (airport : Airport) (before : State) (place : ℕ) (order : Order) (mid now : State) : Type 0 where
  pub whole : IsServedFrom airport before order now
  pub front : IsServed airport before (take place order.wishes.items) (take place order.entries.items) mid

-- the exchange at a place is cheaper, and stands
pub record IsExchanged (airport : Airport) (before : State) (place : ℕ) (old new : Order) (now : State) : Type 0 where
  pub order : new.wishes.items ≡ exchanged place old.wishes.items
  pub served : IsServedFrom airport before new now
  pub cheaper : new.total < old.total

-- the exchange at a place is not cheaper, and does not stand
pub record IsKept (airport : Airport) (before : State) (place : ℕ) (old new : Order) : Type 0 where
  pub wishes : new.wishes.items ≡ old.wishes.items
  pub entries : new.entries.items ≡ old.entries.items
  pub total_is : new.total ≡ old.total
  pub others : List (List ℕ × Entry)
  pub others_total : ℕ
  pub after : State
  pub tried : IsTotal airport before (exchanged place old.wishes.items) others others_total after
  pub as_cheap : old.total ≤ others_total
