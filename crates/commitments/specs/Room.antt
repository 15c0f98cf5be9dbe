-- For whose holders a ledger has room, though some of them are out; and that none of the room is lost.
use Rattle.std.specs.Prelude.{◌≡◌, ◌+◌, ◌<◌, ◌≤◌, length}
use Rattle.taxi_base.specs.declared.numbers.Segment.{Segment}
use Rattle.taxi_base.specs.Airport.{Airport}
use Rattle.taxi_base.specs.State.{State, holds_in}
use Rattle.window_store.specs.Spans.{nodes}
use Rattle.window_store.specs.Store.{list_at}
use Rattle.window_store.specs.Stands.{conflicting}
use Rattle.commitments.specs.Book.{Book}

-- There is room for all holders of a state, whoever of them is out: for as many flights and parties as it has, and in each list for one
-- window more than there are holds of theirs in conflict.
pub record HasRoomForAll (airport : Airport) (state : State) (book : Book) : Type 0 where
  pub flights : length state.flights ≤ length book.state.flights + book.room
  pub parties : length state.parties ≤ length book.state.parties + book.party_room
  pub windows : (segment : Segment) → segment.0 < length book.store.lists
      → 1 + conflicting airport.conflicts segment (holds_in airport state) ≤ nodes (list_at book.store segment)

-- No room is lost: the flights in force and those that there is room for are no fewer together, nor are the parties, and each list has
-- at least as many nodes.
pub record LosesNoRoom (old new : Book) : Type 0 where
  pub flights : length old.state.flights + old.room ≤ length new.state.flights + new.room
  pub parties : length old.state.parties + old.party_room ≤ length new.state.parties + new.party_room
  pub lists : length new.store.lists ≡ length old.store.lists
  pub nodes : (segment : Segment) → segment.0 < length old.store.lists → nodes (list_at old.store segment) ≤ nodes (list_at new.store segment)
