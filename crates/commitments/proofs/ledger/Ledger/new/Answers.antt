use Rattle.std.proofs.Common.{refl, None}
use Rattle.taxi_base.specs.State.{no_holder}
use Rattle.taxi_base.proofs.StateLaws.{IsSound-nil}
use Rattle.commitments.proofs.Fitting.{fits-unlifted}
use Rattle.commitments.proofs.ledger.Ledger.new.Goals as goal

pub returns-clause-fits : goal.returns-clause-fits
returns-clause-fits c =
    rw c.in_ok-new.ensures
    (fits-unlifted c.args.airport.now (record { state = no_holder; lifted = None; room = c.in_ok-new.field-0.flights.room; party_room = c.in_ok-new.field-0.parties.room; store = c.in_ok-new-2.field-0.store })
    refl (IsSound-nil c.args.airport.now).feasible c.in_ok-new-2.ensures.lists c.in_ok-new-2.ensures.horizon c.in_ok-new-2.ensures.stands)
