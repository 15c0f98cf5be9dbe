use Rattle.std.proofs.Common.{◌<◌, ◌≤◌, List, length, sym, subst}
use Rattle.std.specs.Prelude.{All, IfOk}
use Rattle.taxi_base.specs.declared.numbers.Node.{Node}
use Rattle.taxi_base.specs.Faults.{conditions_in}
use Rattle.place_cells.specs.Laid.{windows_of}
use Rattle.replies.specs.Asked.{arrival_any, AnswersChoice}
use Rattle.sequence_exchange.proofs.SearchedLaws.{windows-by, conditions-found}
use Rattle.taxi_engine.proofs.choosing.find_arrival_any.Goals as goal

pub choose_arrival-requires-clause-horizon : goal.choose_arrival-requires-clause-horizon
choose_arrival-requires-clause-horizon c =
    subst (λ store. All (All (λ w. w.until ≤ c.args.airport.now.horizon)) (windows_of store)) (sym c.store-store.ensures)
    (windows-by c.args.airport.now c.args.ledger.now c.requires.fits c.requires.unlifted)

pub choose_arrival-requires-clause-nodes : goal.choose_arrival-requires-clause-nodes
choose_arrival-requires-clause-nodes c = subst (λ (nodes : List Node). All (λ n. n.0 < length c.args.airport.now.nodes) nodes) (sym c.as_slice-nodes.ensures) c.requires.nodes

pub returns : goal.returns
returns c =
    let trip = c.args.trip.now in
    let same = conditions-found c.args.airport.now c.args.ledger.now c.requires.fits c.requires.unlifted trip.class c.store-store.result.now c.store-store.ensures in
    subst (λ (nodes : List Node). IfOk c.choose_arrival.result (AnswersChoice (conditions_in c.args.airport.now trip.class c.args.ledger.now.state) (arrival_any trip.from nodes trip.time trip.slack))) c.as_slice-nodes.ensures
    (subst (λ k. IfOk c.choose_arrival.result (AnswersChoice k (arrival_any trip.from c.as_slice-nodes.result.now trip.time trip.slack))) same c.choose_arrival.ensures)
