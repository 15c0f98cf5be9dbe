use Rattle.commitments.proofs.RoomLaws.{room-own, room-kept, room-but_flight, room-but_party, room-flight, room-party}
use Rattle.commitments.proofs.laws.holders_go_in_again.Goals as goal

pub returns-clause-own : goal.returns-clause-own
returns-clause-own c = room-own

pub returns-clause-kept : goal.returns-clause-kept
returns-clause-kept c = room-kept

pub returns-clause-flight : goal.returns-clause-flight
returns-clause-flight c = room-flight

pub returns-clause-party : goal.returns-clause-party
returns-clause-party c = room-party

pub returns-clause-but_flight : goal.returns-clause-but_flight
returns-clause-but_flight c = room-but_flight

pub returns-clause-but_party : goal.returns-clause-but_party
returns-clause-but_party c = room-but_party
