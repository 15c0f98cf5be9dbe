use Rattle.std.proofs.Common.{◌≡◌, ◌∙◌, ◌≤◌, Some, sym, ap, subst}
use Rattle.std.specs.Prelude.{All, IfOk}
use Rattle.taxi_base.specs.Walks.{Conditions, Meets}
use Rattle.taxi_base.specs.State.{State, flight_named, conditions_of}
use Rattle.window_store.specs.Store.{Store}
use Rattle.place_cells.specs.Laid.{windows_of}
use Rattle.reroute.proofs.LiftedConditions.{lifted-by, lifted-found}
use Rattle.reroute.proofs.FoundAnew.{IsAnswerAnew, found-lifted}
use Rattle.reroute.proofs.AsBefore.{KeepsNodes-again, as-before}
use Rattle.reroute.proofs.rerouting.find_lifted.Goals as goal

pub find_anew-found-requires-clause-horizon : goal.find_anew-found-requires-clause-horizon
find_anew-found-requires-clause-horizon c =
    subst (λ (store : Store). All (All (λ w. w.until ≤ c.args.airport.now.horizon)) (windows_of store)) (sym c.store.ensures)
    (lifted-by c.args.airport.now c.lift.new.self c.args.name.now c.lift.ensures.fits c.lift.ensures.lifted)

pub find_anew-found-requires-clause-met : goal.find_anew-found-requires-clause-met
find_anew-found-requires-clause-met c =
    let x = c.unwrap-flight.result.now in
    let found : flight_named c.args.name.now c.args.ledger.now.state.flights ≡ Some x =
    sym (ap (λ (s : State). flight_named c.args.name.now s.flights) c.lift.ensures.state) ∙ sym (rw c.unwrap-flight.ensures at c.flight.ensures) in
    subst (λ (k : Conditions). Meets k x.request x.steps) (sym (lifted-found c.args.airport.now c.lift.new.self c.args.name.now c.lift.ensures.fits c.lift.ensures.lifted c.args.ledger.now.state c.store.result.now c.lift.ensures.state c.store.ensures x found)) (c.requires.meets x found)

pub returns-clause-found : goal.returns-clause-found
returns-clause-found c =
    let x = c.unwrap-flight.result.now in
    let found : flight_named c.args.name.now c.args.ledger.now.state.flights ≡ Some x =
    sym (ap (λ (s : State). flight_named c.args.name.now s.flights) c.lift.ensures.state) ∙ sym (rw c.unwrap-flight.ensures at c.flight.ensures) in
    rw found
    (found-lifted (conditions_of c.args.airport.now c.args.ledger.now.state x) x c.args.time c.args.to (c.requires.meets x found) (rw found at c.requires.may) c.find_anew-found.result
    (subst (λ (k : Conditions). IfOk c.find_anew-found.result (IsAnswerAnew k x.steps c.args.time c.args.to x.request)) (lifted-found c.args.airport.now c.lift.new.self c.args.name.now c.lift.ensures.fits c.lift.ensures.lifted c.args.ledger.now.state c.store.result.now c.lift.ensures.state c.store.ensures x found) c.find_anew-found.ensures))

pub returns-clause-as_before : goal.returns-clause-as_before
returns-clause-as_before c =
    as-before c.args.airport.now c.args.ledger.now c.lower.new.self c.requires.fits c.requires.unlifted
    (c.lower.ensures.state ∙ c.lift.ensures.state) c.lower.ensures.unlifted (c.lower.ensures.room ∙ c.lift.ensures.room) (c.lower.ensures.party_room ∙ c.lift.ensures.party_room)
    (KeepsNodes-again c.args.ledger.now.store c.lift.new.self.store c.lower.new.self.store c.lift.ensures.nodes c.lower.ensures.nodes) c.lower.ensures.fits
