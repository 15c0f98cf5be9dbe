use Rattle.std.proofs.Common.{◌∙◌, ◌+◌, take, sym, ap, subst}
use Rattle.std.specs.Prelude.{filter}
use Rattle.plan_table.proofs.TableLaws.{at-place}
use Rattle.run_figures.specs.declared.flights.Sums.{Sums}
use Rattle.run_figures.specs.Flights.{is_of, sums_of, with_flight, AreSmall}
use Rattle.run_figures.proofs.FlightLaws.{orderly, with-flight, small-more, filtered-yes, filtered-no}
use Rattle.run_figures.proofs.flights.sums_over.Goals.{then-is_of, else-is_of}
use Rattle.run_figures.proofs.flights.sums_over.Goals as goal

pub with_flight-sums-requires-clause-orderly : goal.with_flight-sums-requires-clause-orderly
with_flight-sums-requires-clause-orderly c =
    orderly c.args.airport.now c.requires.rules c.args.ledger.now.state c.requires.sound c.at-flight.result.now (at-place c.args.ledger.now.state.flights c.loop-place.place c.at-flight.result.now c.at-flight.ensures)

pub loop-place-preserved : goal.loop-place-preserved
loop-place-preserved c =
    let airport = c.args.airport.now in
    let flights = c.args.ledger.now.state.flights in
    let place = c.loop-place.place in
    let flight = c.at-flight.result.now in
    let inv = c.loop-place.invariant in
    elim c.if-is_of.branch [
      | then-is_of w ↦ record {
        same = w.sums-is ∙ w.with_flight-sums.ensures.same ∙ ap (λ (s : Sums). with_flight airport s flight) inv.same
            ∙ with-flight airport (filter (is_of c.args.kind c.args.class) (take place flights)) flight
            ∙ ap (sums_of airport) (sym (filtered-yes (is_of c.args.kind c.args.class) flights place flight c.at-flight.ensures (sym c.is_of.ensures ∙ w.if-is_of.true)));
        small = subst (AreSmall (place + 1)) (sym w.sums-is) (w.with_flight-sums.ensures.small place inv.small);
      }
      | else-is_of w ↦ record {
        same = w.sums-is ∙ inv.same ∙ ap (sums_of airport) (sym (filtered-no (is_of c.args.kind c.args.class) flights place flight c.at-flight.ensures (sym c.is_of.ensures ∙ w.if-is_of.false)));
        small = subst (AreSmall (place + 1)) (sym w.sums-is) (small-more place c.loop-place.sums inv.small);
      }
    ]
