-- In which order is a batch served, what is each of its flights told, and what do all of them cost together?
use Rattle.std.specs.Prelude.{ℕ, zero, suc, ◌≡◌, ◌<◌, ℤ, pos, ◌+ℤ◌, ◌-ℤ◌, ◌<ℤ◌, ◌≤ℤ◌, List, [], ◌∷◌, length, map, All, IsPermutation, Option, Some, option_map, option_and_then}
use Rattle.std.specs.Option.{option_map_or}
use Rattle.taxi_base.specs.declared.answers.Request.{Request}
use Rattle.taxi_base.specs.declared.answers.Request.TheVariants as request
use Rattle.taxi_base.specs.Airport.{Airport, class_named}
use Rattle.taxi_base.specs.State.{State, named}
use Rattle.taxi_text.specs.declared.command.Asked.{Asked}
use Rattle.taxi_text.specs.declared.command.BatchRequest.{BatchRequest}
use Rattle.taxi_text.specs.declared.command.BatchRequest.TheVariants as requested
use Rattle.replies.specs.declared.entries.Entry.{Entry}
use Rattle.replies.specs.declared.entries.Entry.TheVariants as entry
use Rattle.replies.specs.declared.wish.Wish.{Wish}
use Rattle.replies.specs.declared.block.Block.{Block}
use Rattle.replies.specs.declared.block.Block.TheVariants.{Route, NoRoute, Batch}
use Rattle.replies.specs.Asked.{arrival_named, departure_named}
use Rattle.replies.specs.Printable.{IsTold}
use Rattle.replies.specs.Routed.{IsRoutedAs}

-- ---- what is wished

-- the wish of a request; none where a name is no class's or no node's
abbrev pub wish_for : Airport → Asked → Option Request → Option Wish
wish_for airport asked request =
    option_and_then (λ class. option_map (λ r. record { name = asked.flight; class = class; request = r }) request) (class_named airport asked.class)

abbrev pub wish_of : Airport → BatchRequest → Option Wish
wish_of airport (requested.Arrival asked) = wish_for airport asked (arrival_named airport asked)
wish_of airport (requested.Departure asked) = wish_for airport asked (departure_named airport asked)

abbrev pub wishes_of : Airport → List BatchRequest → Option (List Wish)
wishes_of airport [] = Some []
wishes_of airport (r ∷ later) = option_and_then (λ wish. option_map (λ wishes. wish ∷ wishes) (wishes_of airport later)) (wish_of airport r)

abbrev pub wish_named : List ℕ → List Wish → Option Wish
wish_named name wishes = named (λ w. w.name) name wishes

abbrev pub names_of : List Wish → List (List ℕ)
names_of wishes = map (λ w. w.name) wishes

-- ---- serving one after the other

-- one flight is served: it is routed as it wishes among the holders in force, and is in force afterwards; or there is no route
abbrev pub IsServedAs : Airport → State → Wish → List ℕ × Entry → State → Type 0
IsServedAs airport state wish (name, entry.Route second steps labels) after =
    (name ≡ wish.name) × IsRoutedAs airport state wish.name wish.class wish.request (Route name second steps labels) after
IsServedAs airport state wish (name, entry.NoRoute labels) after =
    (name ≡ wish.name) × IsRoutedAs airport state wish.name wish.class wish.request (NoRoute labels) after
IsServedAs airport state wish (name, entry.Dropped) after = ⊥

-- flights are served in turn, each in the state after the one before
abbrev pub IsServed : Airport → State → List Wish → List (List ℕ × Entry) → State → Type 0
IsServed airport state [] [] after = after ≡ state
IsServed airport state (wish ∷ wishes) (told ∷ entries) after =
    (mid : State) × IsServedAs airport state wish told mid × IsServed airport mid wishes entries after
IsServed airport state [] (told ∷ entries) after = ⊥
IsServed airport state (wish ∷ wishes) [] after = ⊥

-- ---- what it costs

-- An arrival costs its end less its TIME, a departure its TIME less its pushback, and no route 1,000,000.
abbrev pub cost_of : Request → Entry → ℤ
cost_of (request.Arrival from to time hold) (entry.Route second steps labels) = pos second -ℤ pos time
cost_of (request.Departure from to time queue) (entry.Route second steps labels) = pos time -ℤ pos second
cost_of asked (entry.NoRoute labels) = pos 1000000
cost_of asked told = pos 0

abbrev pub cost_among : List Wish → List ℕ × Entry → ℤ
cost_among wishes (name, told) = option_map_or (λ wish. cost_of wish.request told) (wish_named name wishes) (pos 0)

-- the sum of the costs of entries, each by the wish of its name
abbrev pub total_of : List Wish → List (List ℕ × Entry) → ℤ
total_of wishes [] = pos 0
total_of wishes (told ∷ entries) = cost_among wishes told +ℤ total_of wishes entries

-- ---- the order

-- two neighbours exchanged: those at a place and behind it
abbrev pub exchanged : {X : Type 0} → ℕ → List X → List X
exchanged zero (a ∷ b ∷ later) = b ∷ a ∷ later
exchanged (suc k) (a ∷ later) = a ∷ exchanged k later
exchanged k items = items

-- an order of the wishes comes to a total
pub record ComesTo (airport : Airport) (state : State) (wishes order : List Wish) (total : ℤ) : Type 0 where
  pub entries : List (List ℕ × Entry)
  pub after : State
  pub served : IsServed airport state order entries after
  pub total_is : total ≡ total_of wishes entries

-- one order is cheaper than another
pub record IsCheaper (airport : Airport) (state : State) (wishes order other : List Wish) : Type 0 where
  pub less : ℤ
  pub more : ℤ
  pub comes_to_less : ComesTo airport state wishes order less
  pub comes_to_more : ComesTo airport state wishes other more
  pub cheaper : less <ℤ more

-- one order is at most as dear as another
pub record IsAsCheap (airport : Airport) (state : State) (wishes order other : List Wish) : Type 0 where
  pub total : ℤ
  pub others : ℤ
  pub comes_to : ComesTo airport state wishes order total
  pub other_comes_to : ComesTo airport state wishes other others
  pub as_cheap : total ≤ℤ others

-- no exchange of neighbours makes an order cheaper
abbrev pub IsSettled : Airport → State → List Wish → List Wish → Type 0
IsSettled airport state wishes order = (k : ℕ) → suc k < length order → IsAsCheap airport state wishes order (exchanged k order)

-- From an order on, the first two neighbours whose exchange is cheaper are exchanged, again and again, until no exchange is. This is
-- the order at which it ends.
pub data EndsAt (airport : Airport) (state : State) (wishes : List Wish) : List Wish → List Wish → Type 0 where
  settled : (order : List Wish) → IsSettled airport state wishes order → EndsAt airport state wishes order order
  exchanging : (order last : List Wish) → (k : ℕ) → suc k < length order → IsCheaper airport state wishes (exchanged k order) order
      → ((j : ℕ) → j < k → IsAsCheap airport state wishes order (exchanged j order))
      → EndsAt airport state wishes (exchanged k order) last → EndsAt airport state wishes order last

-- wishes are served in the order at which the exchange of neighbours ends, from the given one on
pub record IsSequenced (airport : Airport) (state : State) (wishes : List Wish) (total : ℕ) (entries : List (List ℕ × Entry)) (after : State) : Type 0 where
  pub order : List Wish
  pub ends_at : EndsAt airport state wishes wishes order
  pub served : IsServed airport state order entries after
  pub total_is : pos total ≡ total_of wishes entries

-- They are served in an order of the same wishes that is at most as dear as the given one. No exchange of neighbours makes it cheaper.
pub record IsNoDearer (airport : Airport) (state : State) (wishes : List Wish) (total : ℕ) (entries : List (List ℕ × Entry)) (after : State) : Type 0 where
  pub order : List Wish
  pub same_wishes : IsPermutation order wishes
  pub served : IsServed airport state order entries after
  pub total_is : pos total ≡ total_of wishes entries
  pub as_cheap : IsAsCheap airport state wishes order wishes
  pub no_exchange : IsSettled airport state wishes order

-- a batch is answered: its wishes are sequenced, and the block tells what comes of it
pub record IsBatched (airport : Airport) (state : State) (requests : List BatchRequest) (block : Block) (after : State) : Type 0 where
  pub wishes : List Wish
  pub known : wishes_of airport requests ≡ Some wishes
  pub total : ℕ
  pub entries : List (List ℕ × Entry)
  pub sequenced : IsSequenced airport state wishes total entries after
  pub block_is : block ≡ Batch total entries

-- ---- the form of a reply to a batch

-- Each request is told of exactly once, in any order, none is dropped, and the total is the sum of the costs.
abbrev pub TellsBatch : Airport → List BatchRequest → Block → Type 0
TellsBatch airport requests (Batch total entries) =
    (wishes : List Wish) × (wishes_of airport requests ≡ Some wishes) × IsPermutation (map (λ told. told.0) entries) (names_of wishes)
    × All IsTold entries × (pos total ≡ total_of wishes entries)
TellsBatch airport requests block = ⊥
