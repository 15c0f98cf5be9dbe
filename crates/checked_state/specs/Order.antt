-- Flights and work parties by rising names, and the place of a name among them.
use Rattle.std.specs.Prelude.{ℕ, ◌≡◌, ◌<◌, ◌≤◌, List, length, Result, IfOk, IfErr, IsTrue, AllPairs}
use Rattle.std.specs.List.{AllWithin, HoldsAt}
use Rattle.taxi_base.specs.declared.answers.Flight.{Flight}
use Rattle.taxi_base.specs.declared.answers.Party.{Party}
use Rattle.taxi_base.specs.State.{name_precedes}

-- flights, and parties, by rising names
abbrev pub AreInOrder : List Flight → Type 0
AreInOrder flights = AllPairs (λ f g. IsTrue (name_precedes f.name g.name)) flights

abbrev pub ArePartiesInOrder : List Party → Type 0
ArePartiesInOrder parties = AllPairs (λ p q. IsTrue (name_precedes p.name q.name)) parties

-- the place of a name among things that have names, or else of the gap that it would go into
pub record IsPlace {X : Type 0} (name_of : X → List ℕ) (xs : List X) (name : List ℕ) (place : Result ℕ ℕ) : Type 0 where
  pub here : IfOk place (λ k. k < length xs)
  pub named : IfOk place (HoldsAt (λ x. name_of x ≡ name) xs)
  pub gap : IfErr place (λ k. k ≤ length xs)
  pub before : IfErr place (AllWithin (λ x. IsTrue (name_precedes (name_of x) name)) xs 0)
  pub after : IfErr place (λ k. AllWithin (λ x. IsTrue (name_precedes name (name_of x))) xs k (length xs))
