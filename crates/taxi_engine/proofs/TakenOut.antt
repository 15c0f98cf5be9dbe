-- The state once a flight or a work party that was in force is taken out.
use Rattle.std.proofs.Common.{◌≡◌, ℕ, true, false, List, Option, Some, None, is_some, sym, subst}
use Rattle.std.specs.Prelude.{IfNone, IfSome}
use Rattle.taxi_base.specs.declared.answers.Flight.{Flight}
use Rattle.taxi_base.specs.declared.answers.Party.{Party}
use Rattle.taxi_base.specs.State.{flight_named, party_named, without}
use Rattle.commitments.specs.Book.{Book}

-- what was done with what was found was done, where something was
was-done : {X : Type 0} (o found : Option X) (P : Type 0) → o ≡ found → IfSome o (λ _. P) → is_some found ≡ true → P
was-done None found P e h some = absurd (cc (subst (λ (x : Option _). is_some x ≡ true) (sym e) some))
was-done (Some x) found P e h some = h

-- and what nothing was found for stayed
pub not-done : {X : Type 0} (o found : Option X) (P : Type 0) → o ≡ found → IfNone o P → is_some found ≡ false → P
not-done None found P e h none = h
not-done (Some x) found P e h none = absurd (cc (subst (λ (x : Option _). is_some x ≡ false) (sym e) none))

pub cancelled-state : (name : List ℕ) (old new : Book) (o : Option Flight) → o ≡ flight_named name old.state.flights → IfSome o (λ _. new.state ≡ without name old.state)
    → is_some (flight_named name old.state.flights) ≡ true → new.state ≡ without name old.state
cancelled-state name old new o found done there = was-done o (flight_named name old.state.flights) (new.state ≡ without name old.state) found done there

pub removed-state : (name : List ℕ) (old new : Book) (o : Option Party) → o ≡ party_named name old.state.parties → IfSome o (λ _. new.state ≡ without name old.state)
    → is_some (party_named name old.state.parties) ≡ true → new.state ≡ without name old.state
removed-state name old new o found done there = was-done o (party_named name old.state.parties) (new.state ≡ without name old.state) found done there
