use Rattle.commitments.proofs.RoomLaws.{room-flight, room-party}
use Rattle.late_repair.proofs.RoomSteps.{no_loss-flight_in, no_loss-party_in}
use Rattle.late_repair.proofs.taken_out.put_one_back.Goals as goal

pub commit-requires-clause-prepared : goal.commit-requires-clause-prepared
commit-requires-clause-prepared c = room-flight c.args.airport.now c.args.ledger.now c.in-Flight.flight c.requires.fits c.requires.unlifted (rw c.in-Flight.is at c.requires.room)

pub place-requires-clause-prepared : goal.place-requires-clause-prepared
place-requires-clause-prepared c = room-party c.args.airport.now c.args.ledger.now c.in-Party.party c.requires.fits c.requires.unlifted (rw c.in-Party.is at c.requires.room)

pub returns-in-Flight-clause-room : goal.returns-in-Flight-clause-room
returns-in-Flight-clause-room c =
    no_loss-flight_in c.args.ledger.now c.commit.new.self c.commit.ensures.nodes c.in-Flight.flight c.commit.ensures.state c.commit.ensures.room c.commit.ensures.party_room

pub returns-in-Party-clause-room : goal.returns-in-Party-clause-room
returns-in-Party-clause-room c =
    no_loss-party_in c.args.ledger.now c.place.new.self c.place.ensures.nodes c.in-Party.party c.place.ensures.state c.place.ensures.party_room c.place.ensures.flight_room
