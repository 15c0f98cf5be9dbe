use Rattle.std.proofs.Common.{◌∙◌}
use Rattle.std.proofs.lemmas.List.{length-map}
use Rattle.checked_state.proofs.flights.HeldFlights.new.Goals as goal

pub returns-clause-spans : goal.returns-clause-spans
returns-clause-spans c =
    let counted = rw c.graph.ensures at c.segments.ensures.count in
    record {
      lists = c.in_ok-spans.ensures.count ∙ counted ∙ length-map c.args.airport.now.segments _;
      holders = c.in_ok-spans.ensures.none;
    }
