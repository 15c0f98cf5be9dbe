use Rattle.std.proofs.Common.{ℕ, ◌≤◌, sym, subst}
use Rattle.std.specs.Prelude.{All, IfOk}
use Rattle.taxi_base.specs.declared.answers.Request.{Request}
use Rattle.taxi_base.specs.Walks.{Conditions}
use Rattle.taxi_base.specs.Faults.{conditions_in}
use Rattle.taxi_base.specs.Choices.{AnswersDepartureChoice}
use Rattle.replies.specs.Asked.{arrival_any, AnswersChoice}
use Rattle.place_cells.specs.Laid.{windows_of}
use Rattle.sequence_exchange.proofs.SearchedLaws.{windows-by, conditions-found}
use Rattle.reply_reasons.specs.Routes.{AnswersToAny}
use Rattle.reply_reasons.proofs.searching.Search.choose.Goals as goal

pub choose_arrival-requires-clause-horizon : goal.choose_arrival-requires-clause-horizon
choose_arrival-requires-clause-horizon c =
    subst (λ store. All (All (λ w. w.until ≤ c.args.self.now.airport.now.horizon)) (windows_of store)) (sym c.store-store.ensures)
    (windows-by c.args.self.now.airport.now c.args.others.now c.requires.fits c.requires.unlifted)

pub choose_departure-requires-clause-horizon : goal.choose_departure-requires-clause-horizon
choose_departure-requires-clause-horizon c =
    subst (λ store. All (All (λ w. w.until ≤ c.args.self.now.airport.now.horizon)) (windows_of store)) (sym c.store-store.ensures)
    (windows-by c.args.self.now.airport.now c.args.others.now c.requires.fits c.requires.unlifted)

pub returns-in-Arrival : goal.returns-in-Arrival
returns-in-Arrival c =
    let asked = c.in-Arrival in
    let airport = c.args.self.now.airport.now in
    let same = conditions-found airport c.args.others.now c.requires.fits c.requires.unlifted c.args.self.now.asking.now.class c.store-store.result.now c.store-store.ensures in
    subst (λ (r : Request). IfOk c.choose_arrival.result (AnswersToAny (conditions_in airport c.args.self.now.asking.now.class c.args.others.now.state) r c.args.nodes.now)) (sym asked.is)
    (subst (λ (k : Conditions). IfOk c.choose_arrival.result (AnswersChoice k (arrival_any asked.from c.args.nodes.now asked.time asked.hold))) same c.choose_arrival.ensures)

pub returns-in-Departure : goal.returns-in-Departure
returns-in-Departure c =
    let asked = c.in-Departure in
    let airport = c.args.self.now.airport.now in
    let k = conditions_in airport c.args.self.now.asking.now.class c.args.others.now.state in
    let same = conditions-found airport c.args.others.now c.requires.fits c.requires.unlifted c.args.self.now.asking.now.class c.store-store.result.now c.store-store.ensures in
    subst (λ (r : Request). IfOk c.choose_departure.result (AnswersToAny k r c.args.nodes.now)) (sym asked.is)
    (subst (λ (earliest : ℕ). IfOk c.choose_departure.result (AnswersDepartureChoice k asked.from c.args.nodes.now earliest asked.time)) c.saturating_sub.ensures
    (subst (λ (k : Conditions). IfOk c.choose_departure.result (AnswersDepartureChoice k asked.from c.args.nodes.now c.saturating_sub.result asked.time)) same c.choose_departure.ensures))
