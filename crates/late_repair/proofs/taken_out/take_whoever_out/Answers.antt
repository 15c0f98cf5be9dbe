use Rattle.std.proofs.Common.{◌≡◌, ◌∙◌, not, false, Option, None, Some, is_some, refl, sym, ap}
use Rattle.std.specs.Prelude.{IfNone}
use Rattle.taxi_base.specs.declared.answers.Flight.{Flight}
use Rattle.taxi_base.specs.State.{flight_named, without}
use Rattle.commitments.specs.Book.{Book}
use Rattle.late_repair.proofs.RoomSteps.{no_loss-both, no_loss-cancelled, no_loss-removed, out-removed}
use Rattle.late_repair.proofs.taken_out.take_whoever_out.Goals as goal

-- what was not there stays out
none-there : (o : Option Flight) → is_some o ≡ false → o ≡ None
none-there None none = refl
none-there (Some f) none = absurd (cc none)

kept-so : (o : Option Flight) (old new : Book) → o ≡ None → IfNone o (new ≡ old) → new ≡ old
kept-so None old new none same = same
kept-so (Some f) old new none same = absurd (cc none)

pub returns-then-is_none-clause-state : goal.returns-then-is_none-clause-state
returns-then-is_none-clause-state c =
    let none : c.cancel.result ≡ None = none-there c.cancel.result (c.is_none.ensures ∙ ap not c.if-is_none.true) in
    let same : c.cancel.new.self ≡ c.args.ledger.now = kept-so c.cancel.result c.args.ledger.now c.cancel.new.self none c.cancel.ensures.unchanged in
    let no_flight : flight_named c.args.name.now c.cancel.new.self.state.flights ≡ None = ap (λ (b : Book). flight_named c.args.name.now b.state.flights) same ∙ sym c.cancel.ensures.flight ∙ none in
    out-removed c.args.name.now c.cancel.new.self c.remove.new.self c.remove.result no_flight c.remove.ensures.party c.remove.ensures.state c.remove.ensures.unchanged
    ∙ ap (λ (b : Book). without c.args.name.now b.state) same

pub returns-then-is_none-clause-room : goal.returns-then-is_none-clause-room
returns-then-is_none-clause-room c =
    no_loss-both c.args.ledger.now c.cancel.new.self c.remove.new.self
    (no_loss-cancelled c.args.airport.now c.args.name.now c.args.ledger.now c.cancel.new.self c.cancel.result c.requires.fits c.cancel.ensures.flight c.cancel.ensures.state c.cancel.ensures.unchanged
    c.cancel.ensures.room c.cancel.ensures.party_room c.cancel.ensures.nodes)
    (no_loss-removed c.args.airport.now c.args.name.now c.cancel.new.self c.remove.new.self c.remove.result c.cancel.ensures.fits c.remove.ensures.party c.remove.ensures.state c.remove.ensures.unchanged
    c.remove.ensures.party_room c.remove.ensures.flight_room c.remove.ensures.nodes)

pub returns-else-is_none-clause-room : goal.returns-else-is_none-clause-room
returns-else-is_none-clause-room c =
    no_loss-cancelled c.args.airport.now c.args.name.now c.args.ledger.now c.cancel.new.self c.cancel.result c.requires.fits c.cancel.ensures.flight c.cancel.ensures.state c.cancel.ensures.unchanged
    c.cancel.ensures.room c.cancel.ensures.party_room c.cancel.ensures.nodes
