use Rattle.std.proofs.Common.{◌∙◌}
use Rattle.checked_state.specs.Flights.{named_in}
use Rattle.checked_state.proofs.flights.HeldFlights.copy.Goals as goal

pub returns-clause-state : goal.returns-clause-state
returns-clause-state c = λ i. record { flights = c.in_ok-flights.ensures i; parties = c.in_ok-parties.ensures i }

pub returns-clause-spans : goal.returns-clause-spans
returns-clause-spans c airport state has = record {
  lists = c.in_ok-spans.ensures.count ∙ has.lists;
  holders = c.in_ok-spans.ensures.held (named_in airport state) has.holders;
}
