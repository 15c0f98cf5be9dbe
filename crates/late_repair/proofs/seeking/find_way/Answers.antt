use Rattle.std.proofs.Common.{ℕ, sym, subst}
use Rattle.std.specs.Prelude.{IfOk}
use Rattle.taxi_base.specs.declared.answers.Request.{Request}
use Rattle.taxi_base.specs.declared.answers.Request.TheVariants.{Arrival}
use Rattle.taxi_base.specs.Airport.{layout_of}
use Rattle.taxi_base.specs.Walks.{Conditions, ReachesNodeWithin}
use Rattle.taxi_base.specs.Faults.{conditions_in}
use Rattle.taxi_base.specs.Labels.{AnswersDepartureAfter}
use Rattle.taxi_base.specs.Again.{AnswersAgain}
use Rattle.taxi_base.specs.Late.{AnswersTurn}
use Rattle.late_repair.proofs.SeekingLaws.{windows-by, conditions-found}
use Rattle.late_repair.proofs.seeking.find_way.Goals as goal

pub arrive_onward-requires-clause-horizon : goal.arrive_onward-requires-clause-horizon
arrive_onward-requires-clause-horizon c = windows-by c.args.airport.now c.args.others.now c.requires.fits c.requires.unlifted c.store-store.result.now c.store-store.ensures

pub depart_after-requires-clause-horizon : goal.depart_after-requires-clause-horizon
depart_after-requires-clause-horizon c = windows-by c.args.airport.now c.args.others.now c.requires.fits c.requires.unlifted c.store-store.result.now c.store-store.ensures

pub returns-in-Arrival : goal.returns-in-Arrival
returns-in-Arrival c =
    let asked = c.in-Arrival in
    let same = conditions-found c.args.airport.now c.args.others.now c.requires.fits c.requires.unlifted c.store-store.result.now c.store-store.ensures c.args.class in
    subst (λ (r : Request). IfOk c.arrive_onward.result (AnswersTurn (conditions_in c.args.airport.now c.args.class c.args.others.now.state) r c.args.kept.now c.args.time)) (sym asked.is)
    (subst (λ (k : Conditions). IfOk c.arrive_onward.result (AnswersAgain k c.args.kept.now c.args.time asked.to (Arrival asked.from asked.to asked.asked asked.hold))) same c.arrive_onward.ensures.answers)

pub returns-in-Departure : goal.returns-in-Departure
returns-in-Departure c =
    let asked = c.in-Departure in
    let airport = c.args.airport.now in
    let same = conditions-found airport c.args.others.now c.requires.fits c.requires.unlifted c.store-store.result.now c.store-store.ensures c.args.class in
    subst (λ (r : Request). IfOk c.depart_after.result (AnswersTurn (conditions_in airport c.args.class c.args.others.now.state) r c.args.kept.now c.args.time)) (sym asked.is)
    (subst (λ (earliest : ℕ). IfOk c.depart_after.result (AnswersDepartureAfter (conditions_in airport c.args.class c.args.others.now.state) asked.from (ReachesNodeWithin (layout_of airport) asked.to earliest asked.asked) c.args.time))
    c.saturating_sub.ensures
    (subst (λ (k : Conditions). IfOk c.depart_after.result (AnswersDepartureAfter k asked.from (ReachesNodeWithin (layout_of airport) asked.to c.saturating_sub.result asked.asked) c.args.time)) same c.depart_after.ensures))
