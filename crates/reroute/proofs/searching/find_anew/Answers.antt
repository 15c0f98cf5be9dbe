use Rattle.std.proofs.Common.{sym, subst, arith}
use Rattle.std.specs.Prelude.{IfOk}
use Rattle.taxi_base.specs.declared.answers.Request.{Request}
use Rattle.taxi_base.specs.Walks.{Conditions, conditions_of_class}
use Rattle.place_cells.specs.Laid.{windows_of}
use Rattle.reroute.proofs.FoundAnew.{IsAnswerAnew, departure-early, onward-anew}
use Rattle.reroute.proofs.searching.find_anew.Goals as goal

pub depart-requires-clause-times : goal.depart-requires-clause-times
depart-requires-clause-times c =
    let early = departure-early _ c.in-Departure.from c.in-Departure.own c.in-Departure.asked c.in-Departure.queue c.args.flight.now.steps (rw c.in-Departure.is at c.requires.met) in
    omega (arith, early, c.horizon-horizon.ensures.rules.horizon.1, c.saturating_sub-earliest_out.ensures)

pub returns-in-Arrival : goal.returns-in-Arrival
returns-in-Arrival c =
    let in_windows : Conditions = conditions_of_class c.args.airport.now c.args.flight.now.class (windows_of c.args.store.now) in
    subst (λ (asks : Request). IfOk c.arrive_onward.result (IsAnswerAnew in_windows c.args.flight.now.steps c.args.time c.args.to asks)) (sym c.in-Arrival.is)
    (onward-anew in_windows c.args.flight.now.steps c.args.time c.args.to c.in-Arrival.from c.in-Arrival.own c.in-Arrival.asked c.in-Arrival.hold c.arrive_onward.result
    (rw (c.as_slice.ensures, c.unwrap_or-target.ensures) at c.arrive_onward.ensures.answers))
