use Rattle.std.proofs.Common.{ℕ, ◌≤◌, sym, subst}
use Rattle.std.specs.Prelude.{All, IfOk}
use Rattle.taxi_base.specs.declared.answers.Request.{Request}
use Rattle.taxi_base.specs.declared.answers.Request.TheVariants.{Arrival}
use Rattle.taxi_base.specs.Airport.{layout_of}
use Rattle.taxi_base.specs.Walks.{Conditions, ReachesNodeWithin}
use Rattle.taxi_base.specs.Faults.{conditions_in}
use Rattle.taxi_base.specs.Labels.{AnswersDeparture}
use Rattle.taxi_base.specs.Again.{AnswersAgain}
use Rattle.place_cells.specs.Laid.{windows_of}
use Rattle.sequence_exchange.proofs.SearchedLaws.{windows-by, conditions-found}
use Rattle.reply_reasons.specs.Routes.{AnswersOn}
use Rattle.reply_reasons.proofs.searching.Search.find_on.Goals as goal

pub arrive_onward-requires-clause-horizon : goal.arrive_onward-requires-clause-horizon
arrive_onward-requires-clause-horizon c =
    subst (λ store. All (All (λ w. w.until ≤ c.args.self.now.airport.now.horizon)) (windows_of store)) (sym c.store-store.ensures)
    (windows-by c.args.self.now.airport.now c.args.others.now c.requires.fits c.requires.unlifted)

pub depart-requires-clause-horizon : goal.depart-requires-clause-horizon
depart-requires-clause-horizon c =
    subst (λ store. All (All (λ w. w.until ≤ c.args.self.now.airport.now.horizon)) (windows_of store)) (sym c.store-store.ensures)
    (windows-by c.args.self.now.airport.now c.args.others.now c.requires.fits c.requires.unlifted)

pub returns-in-Arrival : goal.returns-in-Arrival
returns-in-Arrival c =
    let asked = c.in-Arrival in
    let airport = c.args.self.now.airport.now in
    let same = conditions-found airport c.args.others.now c.requires.fits c.requires.unlifted c.args.self.now.asking.now.class c.store-store.result.now c.store-store.ensures in
    subst (λ (r : Request). IfOk c.arrive_onward.result (AnswersOn (conditions_in airport c.args.self.now.asking.now.class c.args.others.now.state) r c.args.flight.now.steps.now c.args.flight.now.time)) (sym asked.is)
    (subst (λ (k : Conditions). IfOk c.arrive_onward.result (AnswersAgain k c.args.flight.now.steps.now c.args.flight.now.time asked.to (Arrival asked.from asked.to asked.asked asked.hold))) same c.arrive_onward.ensures.answers)

pub returns-in-Departure : goal.returns-in-Departure
returns-in-Departure c =
    let asked = c.in-Departure in
    let airport = c.args.self.now.airport.now in
    let same = conditions-found airport c.args.others.now c.requires.fits c.requires.unlifted c.args.self.now.asking.now.class c.store-store.result.now c.store-store.ensures in
    subst (λ (r : Request). IfOk c.depart.result (AnswersOn (conditions_in airport c.args.self.now.asking.now.class c.args.others.now.state) r c.args.flight.now.steps.now c.args.flight.now.time)) (sym asked.is)
    (subst (λ (earliest : ℕ). IfOk c.depart.result (AnswersDeparture (conditions_in airport c.args.self.now.asking.now.class c.args.others.now.state) asked.from (ReachesNodeWithin (layout_of airport) asked.to earliest asked.asked)))
    c.saturating_sub.ensures
    (subst (λ (k : Conditions). IfOk c.depart.result (AnswersDeparture k asked.from (ReachesNodeWithin (layout_of airport) asked.to c.saturating_sub.result asked.asked))) same c.depart.ensures))
