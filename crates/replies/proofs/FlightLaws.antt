-- Holders by their names: the one that is found is there, without a name that no holder has the state is as it was, and without
-- that of a party its flights are.
use Rattle.std.proofs.Common.{◌≡◌, ℕ, Bool, List, [], ◌∷◌, IsTrue, IsFalse, Option, Some, None, is_some, refl, sym, ap, subst, inl, inr, bytes_eq}
use Rattle.std.specs.Prelude.{All, Contains, find}
use Rattle.std.specs.Cmp.Lexicographic.{bytes_decides}
use Rattle.std.proofs.lemmas.Bool.{cases_Bool, or_parts}
use Rattle.std.proofs.lemmas.List.Elements.{All-contains, All-head, All-tail}
use Rattle.std.proofs.lemmas.Option.{none-some}
use Rattle.taxi_base.specs.declared.answers.Flight.{Flight}
use Rattle.taxi_base.specs.declared.answers.Party.{Party}
use Rattle.taxi_base.specs.Airport.{Airport}
use Rattle.taxi_base.specs.State.{State, flight_named, party_named, parties_without, named, left_out, has_holder, without, IsFeasibleState}
use Rattle.taxi_base.proofs.ListLaws.{Contains-first, Contains-rest}
use Rattle.taxi_base.proofs.NameLaws.{none_named}

same-some : {X : Type 0} (x y : X) → ◌≡◌ {A = Option X} (Some x) (Some y) → x ≡ y
same-some x y e = cc

module _ {X : Type 0} (p : X → Bool) where
  pub find-there : (xs : List X) (x : X) → find p xs ≡ Some x → Contains xs x
  find-there [] x e = absurd (none-some x e)
  find-there (y ∷ ys) x e =
      elim (cases_Bool (p y)) [
        | inl here ↦ rw (same-some y x (rw here at e)) (Contains-first x ys)
        | inr other ↦ Contains-rest y x ys (find-there ys x (rw other at e))
      ]

  find-passes : (xs : List X) (x : X) → find p xs ≡ Some x → IsTrue (p x)
  find-passes [] x e = absurd (none-some x e)
  find-passes (y ∷ ys) x e =
      elim (cases_Bool (p y)) [
        | inl here ↦ rw (← same-some y x (rw here at e)) here
        | inr other ↦ find-passes ys x (rw other at e)
      ]

pub flight_named-there : (name : List ℕ) (flights : List Flight) (flight : Flight) → flight_named name flights ≡ Some flight → Contains flights flight
flight_named-there name flights flight e = find-there (λ (f : Flight). bytes_eq f.name name) flights flight e

pub flight_named-name : (name : List ℕ) (flights : List Flight) (flight : Flight) → flight_named name flights ≡ Some flight → flight.name ≡ name
flight_named-name name flights flight e = (bytes_decides flight.name name).0 (find-passes (λ (f : Flight). bytes_eq f.name name) flights flight e)

-- where each has another name, nothing is left out
left_out-others : {X : Type 0} (name_of : X → List ℕ) (name : List ℕ) (xs : List X) → All (λ x. IsFalse (bytes_eq (name_of x) name)) xs → left_out name_of name xs ≡ xs
left_out-others name_of name [] others = refl
left_out-others name_of name (x ∷ xs) others =
    rw (All-head (λ x. IsFalse (bytes_eq (name_of x) name)) x xs others)
    (ap (λ ys. x ∷ ys) (left_out-others name_of name xs (All-tail (λ x. IsFalse (bytes_eq (name_of x) name)) x xs others)))

left_out-none : {X : Type 0} (name_of : X → List ℕ) (name : List ℕ) (xs : List X) → IsFalse (is_some (named name_of name xs)) → left_out name_of name xs ≡ xs
left_out-none name_of name xs none = left_out-others name_of name xs (none_named name_of name xs none)

pub without-none : (name : List ℕ) (state : State) → IsFalse (has_holder name state) → without name state ≡ state
without-none name state none =
    let neither = or_parts _ _ none in
    let parties = left_out-none (λ p. p.name) name state.parties neither.0 in
    let flights = left_out-none (λ f. f.name) name state.flights neither.1 in
    λ i. record { flights = flights i; parties = parties i }

-- a party's name is no flight's
pub without-party : (airport : Airport) (name : List ℕ) (state : State) → IsFeasibleState airport state → IsTrue (is_some (party_named name state.parties))
    → record state { parties = parties_without name state.parties } ≡ without name state
without-party airport name state feasible some = go (party_named name state.parties) refl some where
  go : (o : Option Party) → party_named name state.parties ≡ o → IsTrue (is_some o) → record state { parties = parties_without name state.parties } ≡ without name state
  go None e there = absurd (cc there)
  go (Some party) e there =
      let named : party.name ≡ name = (bytes_decides party.name name).0 (find-passes (λ (p : Party). bytes_eq p.name name) state.parties party e) in
      let differ : All (λ f. IsFalse (bytes_eq f.name party.name)) state.flights =
      All-contains (λ p. All (λ f. IsFalse (bytes_eq f.name p.name)) state.flights) state.parties party feasible.differ (find-there (λ (p : Party). bytes_eq p.name name) state.parties party e) in
      let same = left_out-others (λ (f : Flight). f.name) name state.flights (subst (λ n. All (λ (f : Flight). IsFalse (bytes_eq f.name n)) state.flights) named differ) in
      λ i. record { flights = sym same i; parties = parties_without name state.parties }
