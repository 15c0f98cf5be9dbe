use Rattle.std.proofs.Common.{sym}
use Rattle.taxi_base.specs.declared.answers.Party.{Party}
use Rattle.checked_state.specs.Flights.{parties_of}
use Rattle.checked_state.proofs.PlaceLaws.{found-at, ok-of, none-of}
use Rattle.checked_state.proofs.flights.HeldFlights.party.Goals as goal

pub returns-in_err-place : goal.returns-in_err-place
returns-in_err-place c =
    rw c.from_residual.ensures
    (sym (none-of (λ (p : Party). p.name) (parties_of c.args.self.now.parties) c.args.name.now c.args.self.now.parties.ordered c.place_of.result c.place_of.ensures c.in_err-place.ensures.value))

pub returns : goal.returns
returns c =
    sym (found-at (λ (p : Party). p.name) (parties_of c.args.self.now.parties) c.args.name.now c.args.self.now.parties.ordered c.place_of.result c.in_ok-place.place c.place_of.ensures
    (ok-of c.place_of.result c.in_ok-place.place c.in_ok-place.ensures.value) c.at.result.now c.at.ensures)
