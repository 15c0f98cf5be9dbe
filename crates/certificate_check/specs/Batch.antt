-- How is the block of a batch checked: which entries tell of each wish once, and what do they seek one after the other?
use Rattle.std.specs.Prelude.{ℕ, ◌≡◌, ◌+◌, ◌≤◌, pos, List, map, filter, length, All, AllPairs, IsPermutation, IsFalse, IsSome, bytes_eq, Option, option_map, is_none}
use Rattle.taxi_base.specs.Airport.{Airport}
use Rattle.taxi_base.specs.State.{State, has_holder, holder_count}
use Rattle.replies.specs.declared.entries.Entry.{Entry}
use Rattle.replies.specs.declared.wish.Wish.{Wish}
use Rattle.replies.specs.Printable.{IsTold}
use Rattle.replies.specs.Batches.{wish_named, names_of, total_of}
use Rattle.replies.specs.Sought.{Sought, sought_wish}
use Rattle.replies.specs.Turns.{Turn}
use Rattle.certificate_check.specs.Entries.{turns_by}

-- ---- the form

-- each wish is told of exactly once, in any order, and none is dropped
abbrev pub TellsOfEach : List Wish → List (List ℕ × Entry) → Type 0
TellsOfEach wishes entries = IsPermutation (map (λ told. told.0) entries) (names_of wishes) × All IsTold entries

-- and the total is the sum of the costs
abbrev pub TellsWishes : List Wish → ℕ → List (List ℕ × Entry) → Type 0
TellsWishes wishes total entries = IsPermutation (map (λ told. told.0) entries) (names_of wishes) × All IsTold entries × (pos total ≡ total_of wishes entries)

-- ---- the searches

-- what is sought for the wish of a name
abbrev pub sought_named : Airport → List Wish → List ℕ → State → Option Sought
sought_named airport wishes name state = option_map (sought_wish airport state) (wish_named name wishes)

-- the searches of entries, each for its own wish
abbrev pub turns_among : Airport → State → List Wish → List (List ℕ × Entry) → List Turn
turns_among airport state wishes entries = turns_by (sought_named airport wishes) state entries

-- the state without the flights that wishes name
abbrev pub without_all : List Wish → State → State
without_all wishes state = record { flights = filter (λ f. is_none (wish_named f.name wishes)) state.flights; parties = state.parties }

-- ---- entries in turn

-- in each something is told for a wish; the names differ, no holder has one, and there is room for all
pub record CanBeChecked (wishes : List Wish) (state : State) (entries : List (List ℕ × Entry)) : Type 0 where
  pub told : All IsTold entries
  pub named : All (λ told. IsSome (wish_named told.0 wishes)) entries
  pub new : All (λ told. IsFalse (has_holder told.0 state)) entries
  pub differ : AllPairs (λ a b. IsFalse (bytes_eq b.0 a.0)) entries
  pub fit : holder_count state + length entries ≤ 4096
