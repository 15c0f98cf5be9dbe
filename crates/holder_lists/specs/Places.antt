-- Where a name stands among things in the order of their names.
use Rattle.std.specs.Prelude.{◌≡◌, ℕ, ◌<◌, ◌≤◌, List, length, remove, slice_get, Option, None, Result, IfSome, IfNone, IfOk, IfErr, IsTrue}
use Rattle.std.specs.List.{AllWithin, HoldsAt}
use Rattle.taxi_base.specs.declared.answers.Flight.{Flight}
use Rattle.taxi_base.specs.declared.answers.Party.{Party}
use Rattle.taxi_base.specs.State.{name_precedes, named, left_out}

-- the place of a name, or else of the gap that it would go into
pub record IsPlace {X : Type 0} (name_of : X → List ℕ) (xs : List X) (name : List ℕ) (place : Result ℕ ℕ) : Type 0 where
  pub here : IfOk place (λ k. k < length xs)
  pub there : IfOk place (HoldsAt (λ x. name_of x ≡ name) xs)
  pub gap : IfErr place (λ k. k ≤ length xs)
  pub before : IfErr place (AllWithin (λ x. IsTrue (name_precedes (name_of x) name)) xs 0)
  pub after : IfErr place (λ k. AllWithin (λ x. IsTrue (name_precedes name (name_of x))) xs k (length xs))

-- the place of what has a name; none where nothing has it
pub record IsNamedPlace {X : Type 0} (name_of : X → List ℕ) (xs : List X) (name : List ℕ) (place : Option ℕ) : Type 0 where
  pub here : IfSome place (λ k. k < length xs)
  pub found : IfSome place (λ k. slice_get xs k ≡ named name_of name xs)
  pub others : IfSome place (λ k. remove xs k ≡ left_out name_of name xs)
  pub none : IfNone place (named name_of name xs ≡ None)
  pub all : IfNone place (left_out name_of name xs ≡ xs)

abbrev pub IsFlightPlace : List Flight → List ℕ → Option ℕ → Type 0
IsFlightPlace flights name place = IsNamedPlace (λ f. f.name) flights name place

abbrev pub IsPartyPlace : List Party → List ℕ → Option ℕ → Type 0
IsPartyPlace parties name place = IsNamedPlace (λ p. p.name) parties name place
