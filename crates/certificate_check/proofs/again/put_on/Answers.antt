use Rattle.std.proofs.Common.{◌≡◌, inl, inr, Some, refl, sym, subst}
use Rattle.std.specs.Prelude.{IsSome}
use Rattle.taxi_base.specs.State.{State, holds_in, flight_holds, without, flight_named, conditions_of, IsSound}
use Rattle.taxi_base.proofs.WalkLaws.{Meets-IsFeasibleWalk}
use Rattle.check_rows.specs.Known.{HaveMore}
use Rattle.checked_state.specs.Flights.{state_of}
use Rattle.due_refusals.proofs.HeldLaws.{more-without}
use Rattle.certificate_check.proofs.RoutedLaws.{walk-arcs, either-way}
use Rattle.certificate_check.proofs.AgainLaws.{some-there, force-arcs, force-alone, again-sound, again-after, again-more, again-there}
use Rattle.certificate_check.proofs.again.put_on.Goals as goal

pub replace-replaced-requires-clause-alone : goal.replace-replaced-requires-clause-alone
replace-replaced-requires-clause-alone c = force-alone c.args.airport.now (state_of c.args.held.now) c.requires.sound c.args.name.now c.requires.in_force

pub replace-replaced-requires-clause-old_arcs : goal.replace-replaced-requires-clause-old_arcs
replace-replaced-requires-clause-old_arcs c = force-arcs c.args.airport.now (state_of c.args.held.now) c.requires.sound c.args.name.now

pub replace-replaced-requires-clause-arcs : goal.replace-replaced-requires-clause-arcs
replace-replaced-requires-clause-arcs c =
    let airport = c.args.airport.now in
    let state = state_of c.args.held.now in
    let flight = some-there (flight_named c.args.name.now state.flights) c.requires.in_force in
    let conditions = conditions_of airport state flight.0 in
    walk-arcs conditions c.args.steps (Meets-IsFeasibleWalk conditions c.args.request c.args.steps (c.requires.met flight.0 flight.1))

-- the state is with the new route, or as it was
pub cut_out-requires-clause-sound : goal.cut_out-requires-clause-sound
cut_out-requires-clause-sound c =
    let airport = c.args.airport.now in
    let state = state_of c.args.held.now in
    let flight = some-there (flight_named c.args.name.now state.flights) c.requires.in_force in
    let met = c.requires.met flight.0 flight.1 in
    elim (either-way c.replace-replaced.result _ _ c.replace-replaced.ensures.ok c.replace-replaced.ensures.err) [
      | inl did ↦ subst (IsSound airport) (sym (again-after airport state state refl c.requires.sound c.args.name.now flight.0 flight.1 c.args.request c.args.steps met (state_of c.replace-replaced.new.self) did))
          (again-sound airport state state refl c.requires.sound c.args.name.now flight.0 flight.1 c.args.request c.args.steps met)
      | inr same ↦ subst (IsSound airport) (sym same) c.requires.sound
    ]

pub cut_out-requires-clause-in_force : goal.cut_out-requires-clause-in_force
cut_out-requires-clause-in_force c =
    let airport = c.args.airport.now in
    let state = state_of c.args.held.now in
    let name = c.args.name.now in
    let flight = some-there (flight_named name state.flights) c.requires.in_force in
    let met = c.requires.met flight.0 flight.1 in
    elim (either-way c.replace-replaced.result _ _ c.replace-replaced.ensures.ok c.replace-replaced.ensures.err) [
      | inl did ↦ subst (λ (s : State). IsSome (flight_named name s.flights)) (sym (again-after airport state state refl c.requires.sound name flight.0 flight.1 c.args.request c.args.steps met (state_of c.replace-replaced.new.self) did))
          (rw (again-there state name flight.0 flight.1 c.args.request c.args.steps) refl)
      | inr same ↦ subst (λ (s : State). IsSome (flight_named name s.flights)) (sym same) c.requires.in_force
    ]

pub returns-clause-known : goal.returns-clause-known
returns-clause-known c =
    let airport = c.args.airport.now in
    let state = state_of c.args.held.now in
    let new = state_of c.replace-replaced.new.self in
    let name = c.args.name.now in
    let flight = some-there (flight_named name state.flights) c.requires.in_force in
    let met = c.requires.met flight.0 flight.1 in
    elim (either-way c.replace-replaced.result _ _ c.replace-replaced.ensures.ok c.replace-replaced.ensures.err) [
      | inl did ↦
          let after = again-after airport state state refl c.requires.sound name flight.0 flight.1 c.args.request c.args.steps met new did in
          let its = record flight.0 { request = c.args.request; steps = c.args.steps } in
          c.cut_out.ensures its (subst (λ (s : State). flight_named name s.flights ≡ Some its) (sym after) (again-there state name flight.0 flight.1 c.args.request c.args.steps)) (holds_in airport (without name state)) (holds_in airport new)
          (subst (λ (s : State). HaveMore (flight_holds airport its) (holds_in airport (without name state)) (holds_in airport s)) (sym after) (again-more airport state name flight.0 flight.1 c.args.request c.args.steps)) c.requires.known
      | inr same ↦
          c.cut_out.ensures flight.0 (subst (λ (s : State). flight_named name s.flights ≡ Some flight.0) (sym same) flight.1) (holds_in airport (without name state)) (holds_in airport new)
          (subst (λ (s : State). HaveMore (flight_holds airport flight.0) (holds_in airport (without name state)) (holds_in airport s)) (sym same)
          (more-without airport flight.0 state name c.requires.sound.feasible.ordered (force-alone airport state c.requires.sound name c.requires.in_force) flight.1)) c.requires.known
    ]
