-- What is feasible among the other holders is feasible among any part of them.
use Rattle.std.proofs.Common.{◌≡◌, ℕ, List, map, inl, inr, sym, subst}
use Rattle.std.specs.Prelude.{Contains, IsFalse, bytes_eq, flat_map}
use Rattle.std.proofs.lemmas.Bool.{and_parts, and_from}
use Rattle.std.proofs.lemmas.List.Elements.{Contains-append_cases}
use Rattle.taxi_base.specs.declared.answers.Request.TheVariants as request
use Rattle.taxi_base.specs.declared.answers.Flight.{Flight}
use Rattle.taxi_base.specs.declared.answers.Party.{Party}
use Rattle.taxi_base.specs.Airport.{Airport}
use Rattle.taxi_base.specs.Windows.{Hold}
use Rattle.taxi_base.specs.Walks.{IsFeasibleWalk}
use Rattle.taxi_base.specs.State.{State, without, holds_in, flight_holds, party_hold, conditions_of, IsFeasibleHold}
use Rattle.taxi_base.specs.Faults.{conditions_in}
use Rattle.taxi_base.proofs.ListLaws.{map-Contains, flat_map-Contains}
use Rattle.taxi_base.proofs.HoldLaws.{is_free-fewer}
use Rattle.taxi_base.proofs.StateLaws.{Meets-fewer}
use Rattle.taxi_base.proofs.OtherHolds.{of-other}
use Rattle.checkpoint_file.specs.Restored.{as_filed}

-- Each holder of a part is one of the state that has another name: a flight of it as filed, or a party.
pub record IsPartWithout (state : State) (name : List ℕ) (part : State) : Type 0 where
  pub flights : (f : Flight) → Contains part.flights f → (flight : Flight) × Contains state.flights flight × IsFalse (bytes_eq flight.name name) × (as_filed flight ≡ f)
  pub parties : (p : Party) → Contains part.parties p → Contains state.parties p × IsFalse (bytes_eq p.name name)

module _ (airport : Airport) (state : State) (name : List ℕ) (part : State) (is : IsPartWithout state name part) where
  part-held : (h : Hold) → Contains (holds_in airport part) h → Contains (holds_in airport (without name state)) h
  part-held h held = elim (Contains-append_cases (map party_hold part.parties) (flat_map (flight_holds airport) part.flights) h held) [
    | inl by_party ↦
        let found = map-Contains party_hold part.parties h by_party in
        let party = is.parties found.0 found.1 in
        of-other airport state name h (inl (found.0, party.0, party.1, found.2))
    | inr by_flight ↦
        let found = flat_map-Contains (flight_holds airport) part.flights h by_flight in
        let flight = is.flights found.0 found.1 in
        of-other airport state name h (inr (flight.0, flight.1, flight.2, subst (λ (f : Flight). Contains (flight_holds airport f) h) (sym flight.3) found.2))
  ]

  pub part-walk : (flight : Flight) → flight.name ≡ name → IsFeasibleWalk (conditions_of airport state flight) flight.steps
      → IsFeasibleWalk (conditions_in airport flight.class part) flight.steps
  part-walk flight named walk =
      Meets-fewer airport flight.class (holds_in airport (without flight.name state)) (holds_in airport part)
      (λ h held. subst (λ (n : List ℕ). Contains (holds_in airport (without n state)) h) (sym named) (part-held h held)) request.Filed flight.steps walk

  pub part-hold : (hold : Hold) → IsFeasibleHold airport (without name state) hold → IsFeasibleHold airport part hold
  part-hold hold feasible = record {
    on_segment = feasible.on_segment;
    some = feasible.some;
    in_time = feasible.in_time;
    free = λ t low high.
        let parts = and_parts _ _ (feasible.free t low high) in
        and_from _ _ parts.0
        (is_free-fewer airport.conflicts airport.horizon (holds_in airport (without name state)) (holds_in airport part) part-held hold.segment t parts.1);
  }
