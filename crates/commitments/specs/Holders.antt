-- The flights and parties of a ledger, as a state. No public clause cites this module.
use Rattle.taxi_base.specs.State.{State}
use Rattle.commitments.specs.declared.holders.Holders.{Holders}

abbrev pub state_of : Holders → State
state_of holders = record { flights = holders.flights.flights; parties = holders.parties.parties }
