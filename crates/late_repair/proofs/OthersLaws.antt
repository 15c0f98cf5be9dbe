-- Some of the holders of a feasible state: another of them is feasible among those.
use Rattle.std.proofs.Common.{ℕ, List, map, IsFalse, inl, inr}
use Rattle.std.specs.Prelude.{Contains, bytes_eq, flat_map}
use Rattle.std.proofs.lemmas.List.Elements.{All-contains, Contains-append_cases}
use Rattle.taxi_base.specs.declared.answers.Flight as flights
use Rattle.taxi_base.specs.declared.answers.Party as parties
use Rattle.taxi_base.specs.declared.answers.Request.TheVariants.{Filed}
use Rattle.taxi_base.specs.Airport.{Airport}
use Rattle.taxi_base.specs.Windows.{Hold}
use Rattle.taxi_base.specs.Walks.{IsFeasibleWalk}
use Rattle.taxi_base.specs.State.{State, has_holder, without, flight_holds, party_hold, holds_in, conditions_of, IsFeasibleHold, IsFeasibleState}
use Rattle.taxi_base.proofs.ListLaws.{map-Contains, flat_map-Contains}
use Rattle.taxi_base.proofs.HoldLaws.{IsFree-more}
use Rattle.taxi_base.proofs.StateLaws.{Meets-fewer, no_holder-flights, no_holder-parties}
use Rattle.taxi_base.proofs.OtherHolds.{of-other}
use Rattle.late_repair.specs.declared.holder.Holder.{Holder}
use Rattle.late_repair.specs.declared.holder.Holder.TheVariants.{Flight, Party}
use Rattle.late_repair.specs.TakenOut.{name_of, IsIn, IsFeasibleAmong}

module _ (airport : Airport) (whole : State) (feasible : IsFeasibleState airport whole) (part : State) (among : (h : Holder) → IsIn part h → IsIn whole h) where
  -- what they hold is held by others than one of a name that none of them has
  part-held : (name : List ℕ) → IsFalse (has_holder name part) → (hold : Hold) → Contains (holds_in airport part) hold → Contains (holds_in airport (without name whole)) hold
  part-held name out hold held = elim (Contains-append_cases (map party_hold part.parties) (flat_map (flight_holds airport) part.flights) hold held) [
    | inl by_party ↦
        let found = map-Contains party_hold part.parties hold by_party in
        of-other airport whole name hold (inl (
          found.0,
          among (Party found.0) found.1,
          All-contains (λ (q : parties.Party). IsFalse (bytes_eq q.name name)) part.parties found.0 (no_holder-parties name part out) found.1,
          found.2,
        ))
    | inr by_flight ↦
        let found = flat_map-Contains (flight_holds airport) part.flights hold by_flight in
        of-other airport whole name hold (inr (
          found.0,
          among (Flight found.0) found.1,
          All-contains (λ (g : flights.Flight). IsFalse (bytes_eq g.name name)) part.flights found.0 (no_holder-flights name part out) found.1,
          found.2,
        ))
  ]

  -- So a flight that is out is on a walk among them, and a party is where its segment may be shut.
  pub feasible-among : (h : Holder) → IsFalse (has_holder (name_of h) part) → IsIn whole h → IsFeasibleAmong airport part h
  feasible-among (Flight f) out there =
      Meets-fewer airport f.class (holds_in airport (without f.name whole)) (holds_in airport part) (part-held f.name out) Filed f.steps
      (All-contains (λ (g : flights.Flight). IsFeasibleWalk (conditions_of airport whole g) g.steps) whole.flights f feasible.walks there)
  feasible-among (Party p) out there =
      let shut : IsFeasibleHold airport (without p.name whole) (party_hold p) =
      All-contains (λ (q : parties.Party). IsFeasibleHold airport (without q.name whole) (party_hold q)) whole.parties p feasible.shut there in
      record {
        on_segment = shut.on_segment;
        some = shut.some;
        in_time = shut.in_time;
        free = IsFree-more airport (holds_in airport (without p.name whole)) (holds_in airport part) (party_hold p) shut.free (λ hold held. inl (part-held p.name out hold held));
      }
