-- What can be served, and what serving costs in whole seconds.
use Rattle.std.specs.Prelude.{ℕ, ◌+◌, ◌-◌, ◌≤◌, List, [], ◌∷◌, All, IsFalse, bytes_eq, ⊤}
use Rattle.taxi_base.specs.declared.answers.Request.{Request}
use Rattle.taxi_base.specs.declared.answers.Request.TheVariants as request
use Rattle.taxi_base.specs.State.{State, has_holder}
use Rattle.replies.specs.declared.entries.Entry.{Entry}
use Rattle.replies.specs.declared.entries.Entry.TheVariants as entry
use Rattle.replies.specs.declared.wish.Wish.{Wish}
use Rattle.replies.specs.Printable.{IsShort}

-- an arrival or a departure, whose TIME has at most 7 digits, and an arrival's hold too
abbrev pub IsShortRequest : Request → Type 0
IsShortRequest request.Filed = ⊥
IsShortRequest (request.Arrival from to time hold) = IsShort time × IsShort hold
IsShortRequest (request.Departure from to time queue) = IsShort time

-- flights are new: no holder has the name of one of them, and no two have the same
abbrev pub AreNew : State → List Wish → Type 0
AreNew state [] = ⊤
AreNew state (wish ∷ later) = IsFalse (has_holder wish.name state) × All (λ other. IsFalse (bytes_eq other.name wish.name)) later × AreNew state later

-- ---- no public clause cites these

-- what an entry costs, where an arrival ends no sooner than its TIME, and a departure begins no later
abbrev pub seconds_lost : Request → Entry → ℕ
seconds_lost (request.Arrival from to time hold) (entry.Route second steps labels) = second - time
seconds_lost (request.Departure from to time queue) (entry.Route second steps labels) = time - second
seconds_lost asked (entry.NoRoute labels) = 1000000
seconds_lost asked told = 0

-- an entry says so
abbrev pub IsFairFor : Request → Entry → Type 0
IsFairFor (request.Arrival from to time hold) (entry.Route second steps labels) = (time ≤ second) × IsShort second
IsFairFor (request.Departure from to time queue) (entry.Route second steps labels) = (second ≤ time) × IsShort time
IsFairFor asked told = ⊤

abbrev pub AreFairFor : List Wish → List (List ℕ × Entry) → Type 0
AreFairFor (wish ∷ wishes) (told ∷ entries) = IsFairFor wish.request told.1 × AreFairFor wishes entries
AreFairFor wishes entries = ⊤

-- what entries cost together, each for the wish at its place
abbrev pub all_seconds_lost : List Wish → List (List ℕ × Entry) → ℕ
all_seconds_lost (wish ∷ wishes) (told ∷ entries) = seconds_lost wish.request told.1 + all_seconds_lost wishes entries
all_seconds_lost wishes entries = 0
