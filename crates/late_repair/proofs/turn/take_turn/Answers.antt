use Rattle.std.proofs.Common.{◌≡◌}
use Rattle.taxi_base.specs.State.{without}
use Rattle.taxi_base.specs.Faults.{conditions_in}
use Rattle.late_repair.proofs.TurnSteps.{out-state, kept-among, answer-walk, turn-of}
use Rattle.late_repair.proofs.HolderLaws.{out-absent}
use Rattle.late_repair.proofs.RoomSteps.{no_loss-cancelled}
use Rattle.late_repair.proofs.ChangeLaws.{only-out, only-both}
use Rattle.late_repair.proofs.turn.take_turn.Goals as goal

pub settle-requires-clause-absent : goal.settle-requires-clause-absent
settle-requires-clause-absent c =
    let name = c.args.flight.now.name in
    let old = c.args.ledger.now in
    rw (out-state name old c.cancel.new.self c.cancel.result c.cancel.ensures.flight c.requires.may.no_party c.cancel.ensures.state c.cancel.ensures.unchanged) (out-absent name old.state)

pub settle-requires-clause-few : goal.settle-requires-clause-few
settle-requires-clause-few c =
    let name = c.args.flight.now.name in
    let old = c.args.ledger.now in
    rw (out-state name old c.cancel.new.self c.cancel.result c.cancel.ensures.flight c.requires.may.no_party c.cancel.ensures.state c.cancel.ensures.unchanged) c.requires.may.few

pub settle-requires-clause-kept : goal.settle-requires-clause-kept
settle-requires-clause-kept c =
    let name = c.args.flight.now.name in
    let old = c.args.ledger.now in
    let out : c.cancel.new.self.state ≡ without name old.state =
    out-state name old c.cancel.new.self c.cancel.result c.cancel.ensures.flight c.requires.may.no_party c.cancel.ensures.state c.cancel.ensures.unchanged in
    kept-among c.args.airport.now c.args.delay.now c.args.flight.now old.state c.cancel.new.self.state c.in_ok-kept.kept c.in_ok-kept.ensures out c.requires.may.kept

pub settle-requires-clause-found : goal.settle-requires-clause-found
settle-requires-clause-found c =
    let name = c.args.flight.now.name in
    let old = c.args.ledger.now in
    let out : c.cancel.new.self.state ≡ without name old.state =
    out-state name old c.cancel.new.self c.cancel.result c.cancel.ensures.flight c.requires.may.no_party c.cancel.ensures.state c.cancel.ensures.unchanged in
    answer-walk (conditions_in c.args.airport.now c.args.flight.now.class c.cancel.new.self.state) c.request_sought-sought.result c.in_ok-kept.kept c.time_sought-time.result c.in_ok-found.found
    (kept-among c.args.airport.now c.args.delay.now c.args.flight.now old.state c.cancel.new.self.state c.in_ok-kept.kept c.in_ok-kept.ensures out c.requires.may.kept)
    (rw c.as_slice-2.ensures at c.in_ok-found.ensures)

pub returns-clause-turn : goal.returns-clause-turn
returns-clause-turn c =
    let name = c.args.flight.now.name in
    let old = c.args.ledger.now in
    let out : c.cancel.new.self.state ≡ without name old.state =
    out-state name old c.cancel.new.self c.cancel.result c.cancel.ensures.flight c.requires.may.no_party c.cancel.ensures.state c.cancel.ensures.unchanged in
    turn-of c.args.airport.now c.args.delay.now c.args.flight.now old.state c.cancel.new.self.state c.settle.new.ledger.state c.in_ok-kept.kept c.in_ok-found.found c.settle.result c.in_ok-kept.ensures out
    (rw (c.request_sought-sought.ensures, c.as_slice.ensures, c.as_slice-2.ensures, c.time_sought-time.ensures) at c.in_ok-found.ensures) c.settle.ensures.state c.settle.ensures.told

pub returns-in_err-found-clause-only : goal.returns-in_err-found-clause-only
returns-in_err-found-clause-only c =
    let name = c.args.flight.now.name in
    let old = c.args.ledger.now in
    only-out name old c.cancel.new.self
    (out-state name old c.cancel.new.self c.cancel.result c.cancel.ensures.flight c.requires.may.no_party c.cancel.ensures.state c.cancel.ensures.unchanged)
    (no_loss-cancelled c.args.airport.now name old c.cancel.new.self c.cancel.result c.requires.fits c.cancel.ensures.flight c.cancel.ensures.state c.cancel.ensures.unchanged c.cancel.ensures.room
    c.cancel.ensures.party_room c.cancel.ensures.nodes)

pub returns-clause-only : goal.returns-clause-only
returns-clause-only c =
    let name = c.args.flight.now.name in
    let old = c.args.ledger.now in
    only-both name old c.cancel.new.self c.settle.new.ledger
    (only-out name old c.cancel.new.self
    (out-state name old c.cancel.new.self c.cancel.result c.cancel.ensures.flight c.requires.may.no_party c.cancel.ensures.state c.cancel.ensures.unchanged)
    (no_loss-cancelled c.args.airport.now name old c.cancel.new.self c.cancel.result c.requires.fits c.cancel.ensures.flight c.cancel.ensures.state c.cancel.ensures.unchanged c.cancel.ensures.room
    c.cancel.ensures.party_room c.cancel.ensures.nodes)) c.settle.ensures.only
