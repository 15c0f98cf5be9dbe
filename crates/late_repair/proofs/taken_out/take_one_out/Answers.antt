use Rattle.std.proofs.Common.{◌≡◌, ◌∙◌, Some, sym, ap, subst}
use Rattle.taxi_base.specs.declared.answers.Flight.{Flight}
use Rattle.taxi_base.specs.declared.answers.Party.{Party}
use Rattle.taxi_base.specs.State.{flight_named, party_named, with_flight, with_party, without}
use Rattle.taxi_base.proofs.OtherHolds.{named-there}
use Rattle.commitments.specs.Book.{Book}
use Rattle.commitments.specs.Room.{LosesNoRoom}
use Rattle.late_repair.proofs.HolderLaws.{flight-back, party-back}
use Rattle.late_repair.proofs.RoomSteps.{no_loss-flight_out, no_loss-party_out}
use Rattle.late_repair.proofs.taken_out.take_one_out.Goals as goal

pub returns-in-Some-clause-name : goal.returns-in-Some-clause-name
returns-in-Some-clause-name c =
    let old = c.args.ledger.now.state in
    let found : flight_named c.args.name.now old.flights ≡ Some c.in-Some.flight = sym c.in-Some.ensures.flight in
    (named-there (λ (f : Flight). f.name) c.args.name.now old.flights c.in-Some.flight found).1

pub returns-in-Some-clause-back : goal.returns-in-Some-clause-back
returns-in-Some-clause-back c =
    let old = c.args.ledger.now.state in
    let found : flight_named c.args.name.now old.flights ≡ Some c.in-Some.flight = sym c.in-Some.ensures.flight in
    ap (with_flight c.in-Some.flight) c.in-Some.ensures.state ∙ flight-back c.args.airport.now old c.requires.fits.feasible c.args.name.now c.in-Some.flight found

pub returns-in-Some-clause-room : goal.returns-in-Some-clause-room
returns-in-Some-clause-room c =
    let old = c.args.ledger.now.state in
    let found : flight_named c.args.name.now old.flights ≡ Some c.in-Some.flight = sym c.in-Some.ensures.flight in
    no_loss-flight_out c.args.ledger.now c.cancel.new.self c.cancel.ensures.nodes c.in-Some.flight
    (ap (with_flight c.in-Some.flight) c.in-Some.ensures.state ∙ flight-back c.args.airport.now old c.requires.fits.feasible c.args.name.now c.in-Some.flight found) c.in-Some.ensures.room c.cancel.ensures.party_room

pub returns-in-None-clause-name : goal.returns-in-None-clause-name
returns-in-None-clause-name c =
    let mid = c.cancel.new.self in
    let found : party_named c.args.name.now mid.state.parties ≡ Some c.unwrap.result = sym c.remove.ensures.party ∙ c.unwrap.ensures in
    (named-there (λ (p : Party). p.name) c.args.name.now mid.state.parties c.unwrap.result found).1

pub returns-in-None-clause-back : goal.returns-in-None-clause-back
returns-in-None-clause-back c =
    let mid = c.cancel.new.self in
    let same : mid.state ≡ c.args.ledger.now.state = ap (λ (b : Book). b.state) c.in-None.ensures.unchanged in
    let found : party_named c.args.name.now mid.state.parties ≡ Some c.unwrap.result = sym c.remove.ensures.party ∙ c.unwrap.ensures in
    let is : c.remove.new.self.state ≡ without c.args.name.now mid.state = rw c.unwrap.ensures at c.remove.ensures.state in
    ap (with_party c.unwrap.result) is ∙ party-back c.args.airport.now mid.state c.cancel.ensures.fits.feasible c.args.name.now c.unwrap.result found ∙ same

pub returns-in-None-clause-room : goal.returns-in-None-clause-room
returns-in-None-clause-room c =
    let mid = c.cancel.new.self in
    let found : party_named c.args.name.now mid.state.parties ≡ Some c.unwrap.result = sym c.remove.ensures.party ∙ c.unwrap.ensures in
    let is : c.remove.new.self.state ≡ without c.args.name.now mid.state = rw c.unwrap.ensures at c.remove.ensures.state in
    subst (λ (b : Book). LosesNoRoom b c.remove.new.self) c.in-None.ensures.unchanged
    (no_loss-party_out mid c.remove.new.self c.remove.ensures.nodes c.unwrap.result
    (ap (with_party c.unwrap.result) is ∙ party-back c.args.airport.now mid.state c.cancel.ensures.fits.feasible c.args.name.now c.unwrap.result found) (rw c.unwrap.ensures at c.remove.ensures.party_room)
    c.remove.ensures.flight_room)
