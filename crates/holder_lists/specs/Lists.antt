-- What contracts see of the two lists: flights or parties in the order of their names, and for how many more there is room.
use Rattle.std.specs.Prelude.{ℕ, ◌≤◌, List, length, IsTrue, All, AllPairs}
use Rattle.taxi_base.specs.declared.answers.Flight.{Flight}
use Rattle.taxi_base.specs.declared.answers.Party.{Party}
use Rattle.taxi_base.specs.State.{name_precedes}

-- the names rise
abbrev pub AreInOrder : {X : Type 0} → (X → List ℕ) → List X → Type 0
AreInOrder name_of xs = AllPairs (λ x y. IsTrue (name_precedes (name_of x) (name_of y))) xs

-- flights by rising names, each with at least one step
pub record IsBook (flights : List Flight) : Type 0 where
  pub ordered : AreInOrder (λ f. f.name) flights
  pub routed : All (λ f. 1 ≤ length f.steps) flights

-- parties by rising names
abbrev pub AreParties : List Party → Type 0
AreParties parties = AreInOrder (λ p. p.name) parties

-- the flights, and for how many more there is room; and so the parties
pub record Listing : Type 0 where
  pub flights : List Flight
  pub room : ℕ

pub record PartyListing : Type 0 where
  pub parties : List Party
  pub room : ℕ
