use Rattle.std.proofs.Common.{◌+◌, ◌≤◌, ℕ, sym, subst}
use Rattle.std.specs.Prelude.{All, IfOk}
use Rattle.taxi_base.specs.declared.answers.Request.{Request}
use Rattle.taxi_base.specs.Airport.{layout_of}
use Rattle.taxi_base.specs.Walks.{Conditions, LeavesNodeWithin, ReachesNodeWithin}
use Rattle.taxi_base.specs.Labels.{AnswersArrival, AnswersDeparture}
use Rattle.taxi_base.specs.Faults.{conditions_in}
use Rattle.place_cells.specs.Laid.{windows_of}
use Rattle.window_store.specs.Store.{Store}
use Rattle.replies.specs.Asked.{AnswersRequest}
use Rattle.sequence_exchange.proofs.SearchedLaws.{windows-by, conditions-found}
use Rattle.sequence_exchange.proofs.routing.find_route.Goals as goal

pub arrive-requires-clause-horizon : goal.arrive-requires-clause-horizon
arrive-requires-clause-horizon c =
    subst (λ (store : Store). All (All (λ w. w.until ≤ c.args.airport.now.horizon)) (windows_of store)) (sym c.store-store.ensures)
    (windows-by c.args.airport.now c.args.ledger.now c.requires.fits c.requires.unlifted)

pub depart-requires-clause-horizon : goal.depart-requires-clause-horizon
depart-requires-clause-horizon c =
    subst (λ (store : Store). All (All (λ w. w.until ≤ c.args.airport.now.horizon)) (windows_of store)) (sym c.store-store.ensures)
    (windows-by c.args.airport.now c.args.ledger.now c.requires.fits c.requires.unlifted)

pub returns-in-Arrival : goal.returns-in-Arrival
returns-in-Arrival c =
    let airport = c.args.airport.now in
    let wish = c.args.wish.now in
    let asked = c.in-Arrival in
    let same = conditions-found airport c.args.ledger.now c.requires.fits c.requires.unlifted wish.class c.store-store.result.now c.store-store.ensures in
    subst (λ (r : Request). IfOk c.arrive.result (AnswersRequest (conditions_in airport wish.class c.args.ledger.now.state) r)) (sym asked.is)
    (subst (λ (k : Conditions). IfOk c.arrive.result (AnswersArrival k (LeavesNodeWithin (layout_of airport) asked.from asked.time (asked.time + asked.hold)) asked.to)) same (c.arrive.ensures 0))

pub returns-in-Departure : goal.returns-in-Departure
returns-in-Departure c =
    let airport = c.args.airport.now in
    let wish = c.args.wish.now in
    let asked = c.in-Departure in
    let same = conditions-found airport c.args.ledger.now c.requires.fits c.requires.unlifted wish.class c.store-store.result.now c.store-store.ensures in
    subst (λ (r : Request). IfOk c.depart.result (AnswersRequest (conditions_in airport wish.class c.args.ledger.now.state) r)) (sym asked.is)
    (subst (λ (earliest : ℕ). IfOk c.depart.result (AnswersDeparture (conditions_in airport wish.class c.args.ledger.now.state) asked.from (ReachesNodeWithin (layout_of airport) asked.to earliest asked.time)))
    c.saturating_sub-earliest_out.ensures
    (subst (λ (k : Conditions). IfOk c.depart.result (AnswersDeparture k asked.from (ReachesNodeWithin (layout_of airport) asked.to c.saturating_sub-earliest_out.result asked.time))) same c.depart.ensures))
