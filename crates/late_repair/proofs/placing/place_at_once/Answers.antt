use Rattle.std.proofs.Common.{◌≡◌, ◌+◌, ◌<◌, suc, refl, sym, subst, get_or, length, arith}
use Rattle.std.specs.Prelude.{Contains}
use Rattle.std.proofs.lemmas.List.Elements.{Contains-get_or}
use Rattle.taxi_base.proofs.ListLaws.{Contains-map}
use Rattle.late_repair.specs.TakenOut.{name_of, taken_back}
use Rattle.late_repair.proofs.ChangeLaws.{theirs-one, theirs-both}
use Rattle.late_repair.proofs.PlacingLaws.{placing-first, next-out, next-few, next-can, placing-next, placing-last}
use Rattle.late_repair.proofs.placing.place_at_once.Goals as goal

pub loop-holder-init : goal.loop-holder-init
loop-holder-init c =
    let way = c.requires.in_turn in
    placing-first c.args.airport.now (taken_back c.args.before.now c.args.ledger.now.state) c.args.delay.now c.requires.feasible c.requires.delay way.0 way.1 c.args.before.now c.args.ledger.now refl c.requires.out
    c.holders-holder-items.ensures.others way.2 c.requires.unlifted c.requires.fits

pub place_one-requires-clause-out : goal.place_one-requires-clause-out
place_one-requires-clause-out c =
    let way = c.requires.in_turn in
    let low : c.loop-holder.holder-index < length c.args.before.now = rw c.holders-holder-items.ensures.holders at c.loop-holder-test.true in
    let here : c.holder-item.result ≡ get_or c.args.before.now c.loop-holder.holder-index c.holder-item.result = rw c.holders-holder-items.ensures.holders at c.holder-item.is in
    next-out c.args.airport.now (taken_back c.args.before.now c.args.ledger.now.state) c.args.delay.now c.requires.feasible c.requires.delay way.0 way.1 c.args.before.now c.args.ledger.now refl c.requires.out
    c.holders-holder-items.ensures.others way.2 c.loop-holder.holder-index c.loop-holder.ledger c.loop-holder.invariant c.holder-item.result low here

pub place_one-requires-clause-few : goal.place_one-requires-clause-few
place_one-requires-clause-few c =
    let way = c.requires.in_turn in
    let low : c.loop-holder.holder-index < length c.args.before.now = rw c.holders-holder-items.ensures.holders at c.loop-holder-test.true in
    let here : c.holder-item.result ≡ get_or c.args.before.now c.loop-holder.holder-index c.holder-item.result = rw c.holders-holder-items.ensures.holders at c.holder-item.is in
    next-few c.args.airport.now (taken_back c.args.before.now c.args.ledger.now.state) c.args.delay.now c.requires.feasible c.requires.delay way.0 way.1 c.args.before.now c.args.ledger.now refl c.requires.out
    c.holders-holder-items.ensures.others way.2 c.loop-holder.holder-index c.loop-holder.ledger c.loop-holder.invariant c.holder-item.result low here

pub place_one-requires-clause-kept : goal.place_one-requires-clause-kept
place_one-requires-clause-kept c =
    let way = c.requires.in_turn in
    let low : c.loop-holder.holder-index < length c.args.before.now = rw c.holders-holder-items.ensures.holders at c.loop-holder-test.true in
    let here : c.holder-item.result ≡ get_or c.args.before.now c.loop-holder.holder-index c.holder-item.result = rw c.holders-holder-items.ensures.holders at c.holder-item.is in
    next-can c.args.airport.now (taken_back c.args.before.now c.args.ledger.now.state) c.args.delay.now c.requires.feasible c.requires.delay way.0 way.1 c.args.before.now c.args.ledger.now refl c.requires.out
    c.holders-holder-items.ensures.others way.2 c.loop-holder.holder-index c.loop-holder.ledger c.loop-holder.invariant c.holder-item.result low here

pub loop-holder-preserved : goal.loop-holder-preserved
loop-holder-preserved c =
    let next : c.loop-holder.holder-index + 1 ≡ suc c.loop-holder.holder-index = omega arith in
    let way = c.requires.in_turn in
    let low : c.loop-holder.holder-index < length c.args.before.now = rw c.holders-holder-items.ensures.holders at c.loop-holder-test.true in
    let here : c.holder-item.result ≡ get_or c.args.before.now c.loop-holder.holder-index c.holder-item.result = rw c.holders-holder-items.ensures.holders at c.holder-item.is in
    rw next
    (placing-next c.args.airport.now (taken_back c.args.before.now c.args.ledger.now.state) c.args.delay.now c.requires.feasible c.requires.delay way.0 way.1 c.args.before.now c.args.ledger.now refl c.requires.out
    c.holders-holder-items.ensures.others way.2 c.loop-holder.holder-index c.loop-holder.ledger c.loop-holder.invariant c.holder-item.result low here c.place_one.new.ledger c.in_ok-place_one.ensures.state
    c.in_ok-place_one.ensures.only c.in_ok-place_one.ensures.unlifted c.in_ok-place_one.ensures.fits)

pub returns-clause-state : goal.returns-clause-state
returns-clause-state c =
    let way = c.requires.in_turn in
    placing-last c.args.airport.now (taken_back c.args.before.now c.args.ledger.now.state) c.args.delay.now c.requires.feasible c.requires.delay way.0 way.1 c.args.before.now c.args.ledger.now refl c.requires.out
    c.holders-holder-items.ensures.others way.2 c.loop-holder.holder-index c.loop-holder.ledger c.loop-holder.invariant (rw c.holders-holder-items.ensures.holders at c.loop-holder-test.false)

pub returns-in_err-place_one-clause-theirs : goal.returns-in_err-place_one-clause-theirs
returns-in_err-place_one-clause-theirs c =
    let here : c.holder-item.result ≡ get_or c.args.before.now c.loop-holder.holder-index c.holder-item.result = rw c.holders-holder-items.ensures.holders at c.holder-item.is in
    let low : c.loop-holder.holder-index < length c.args.before.now = rw c.holders-holder-items.ensures.holders at c.loop-holder-test.true in
    let there : Contains c.args.before.now c.holder-item.result = subst (Contains c.args.before.now) (sym here) (Contains-get_or c.args.before.now c.loop-holder.holder-index c.holder-item.result low) in
    theirs-both c.args.before.now c.args.ledger.now c.loop-holder.ledger c.place_one.new.ledger c.loop-holder.invariant.theirs
    (theirs-one c.args.before.now c.holder-item.result c.loop-holder.ledger c.place_one.new.ledger (Contains-map name_of c.args.before.now c.holder-item.result there) c.place_one.ensures.only)
