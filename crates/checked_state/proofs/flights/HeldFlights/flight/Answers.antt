use Rattle.std.proofs.Common.{sym}
use Rattle.taxi_base.specs.declared.answers.Flight.{Flight}
use Rattle.checked_state.specs.Flights.{flights_of}
use Rattle.checked_state.proofs.PlaceLaws.{found-at, ok-of, none-of}
use Rattle.checked_state.proofs.flights.HeldFlights.flight.Goals as goal

pub returns-in_err-place : goal.returns-in_err-place
returns-in_err-place c =
    rw c.from_residual.ensures
    (sym (none-of (λ (f : Flight). f.name) (flights_of c.args.self.now.flights) c.args.name.now c.args.self.now.flights.ordered c.place_of.result c.place_of.ensures c.in_err-place.ensures.value))

pub returns : goal.returns
returns c =
    sym (found-at (λ (f : Flight). f.name) (flights_of c.args.self.now.flights) c.args.name.now c.args.self.now.flights.ordered c.place_of.result c.in_ok-place.place c.place_of.ensures
    (ok-of c.place_of.result c.in_ok-place.place c.in_ok-place.ensures.value) c.at.result.now c.at.ensures)
