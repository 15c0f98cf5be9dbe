use Rattle.std.proofs.Common.{◌<◌, ◌≤◌, ℕ, List, length, sym, subst}
use Rattle.std.specs.Prelude.{All, IfOk}
use Rattle.taxi_base.specs.declared.numbers.Node.{Node}
use Rattle.taxi_base.specs.Faults.{conditions_in}
use Rattle.taxi_base.specs.Choices.{AnswersDepartureChoice}
use Rattle.place_cells.specs.Laid.{windows_of}
use Rattle.sequence_exchange.proofs.SearchedLaws.{windows-by, conditions-found}
use Rattle.taxi_engine.proofs.choosing.find_departure_any.Goals as goal

pub choose_departure-requires-clause-horizon : goal.choose_departure-requires-clause-horizon
choose_departure-requires-clause-horizon c =
    subst (λ store. All (All (λ w. w.until ≤ c.args.airport.now.horizon)) (windows_of store)) (sym c.store-store.ensures)
    (windows-by c.args.airport.now c.args.ledger.now c.requires.fits c.requires.unlifted)

pub choose_departure-requires-clause-nodes : goal.choose_departure-requires-clause-nodes
choose_departure-requires-clause-nodes c = subst (λ (nodes : List Node). All (λ n. n.0 < length c.args.airport.now.nodes) nodes) (sym c.as_slice-nodes.ensures) c.requires.nodes

pub returns : goal.returns
returns c =
    let trip = c.args.trip.now in
    let same = conditions-found c.args.airport.now c.args.ledger.now c.requires.fits c.requires.unlifted trip.class c.store-store.result.now c.store-store.ensures in
    let k = conditions_in c.args.airport.now trip.class c.args.ledger.now.state in
    subst (λ (earliest : ℕ). IfOk c.choose_departure.result (AnswersDepartureChoice k trip.from trip.nodes earliest trip.time)) c.saturating_sub-earliest_out.ensures
    (subst (λ (nodes : List Node). IfOk c.choose_departure.result (AnswersDepartureChoice k trip.from nodes c.saturating_sub-earliest_out.result trip.time)) c.as_slice-nodes.ensures
    (subst (λ k. IfOk c.choose_departure.result (AnswersDepartureChoice k trip.from c.as_slice-nodes.result.now c.saturating_sub-earliest_out.result trip.time)) same c.choose_departure.ensures))
