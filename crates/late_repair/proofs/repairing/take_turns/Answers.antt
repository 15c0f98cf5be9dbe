use Rattle.std.proofs.Common.{◌≡◌, ◌+◌, ◌<◌, suc, [], ◌∷◌, ◌++◌, map, get_or, length, sym, subst, arith}
use Rattle.std.specs.Prelude.{Contains}
use Rattle.std.proofs.lemmas.List.Elements.{Contains-get_or}
use Rattle.taxi_base.proofs.ListLaws.{Contains-map}
use Rattle.late_repair.specs.declared.holder.Holder.{Holder}
use Rattle.late_repair.specs.TakenOut.{name_of, taken_back, without_all}
use Rattle.late_repair.proofs.HolderLaws.{all-there, found-in}
use Rattle.late_repair.proofs.ChangeLaws.{theirs-one, theirs-both}
use Rattle.late_repair.proofs.TurnsLaws.{turning-first, turning-waits, turning-next, turning-last}
use Rattle.late_repair.proofs.repairing.take_turns.Goals as goal

pub loop-holder-init : goal.loop-holder-init
loop-holder-init c =
    let way = c.requires.in_turn in
    turning-first c.args.airport.now c.args.delay.now (taken_back c.args.before.now c.args.ledger.now.state) c.requires.sound c.args.before.now c.args.ledger.now c.new-entries.result c.requires.delay
    way.0 way.1 way.2 c.requires.base c.new-entries.ensures c.requires.unlifted c.requires.fits

pub take_turn_of-requires-clause-waits : goal.take_turn_of-requires-clause-waits
take_turn_of-requires-clause-waits c =
    let holders = c.args.before.now in
    let state = c.args.ledger.now.state in
    let h : Holder = c.holder-item.result in
    let low : c.loop-holder.holder-index < length holders = rw c.holders-holder-items.ensures.holders at c.loop-holder-test.true in
    let here : h ≡ get_or holders c.loop-holder.holder-index h = rw c.holders-holder-items.ensures.holders at c.holder-item.is in
    turning-waits c.args.airport.now c.args.delay.now (taken_back holders state) c.requires.sound holders c.loop-holder.holder-index c.args.ledger.now c.loop-holder.entries c.loop-holder.ledger
    c.loop-holder.invariant h low here
    (all-there holders h (without_all (map name_of holders) state) (subst (Contains holders) (sym here) (Contains-get_or holders c.loop-holder.holder-index h low)))

pub loop-holder-preserved : goal.loop-holder-preserved
loop-holder-preserved c =
    let next : c.loop-holder.holder-index + 1 ≡ suc c.loop-holder.holder-index = omega arith in
    let holders = c.args.before.now in
    let state = c.args.ledger.now.state in
    let h : Holder = c.holder-item.result in
    let low : c.loop-holder.holder-index < length holders = rw c.holders-holder-items.ensures.holders at c.loop-holder-test.true in
    let here : h ≡ get_or holders c.loop-holder.holder-index h = rw c.holders-holder-items.ensures.holders at c.holder-item.is in
    let there : Contains holders h = subst (Contains holders) (sym here) (Contains-get_or holders c.loop-holder.holder-index h low) in
    let found = found-in c.args.airport.now (taken_back holders state) c.requires.sound.feasible h (all-there holders h (without_all (map name_of holders) state) there) in
    let turn = c.in_ok-entry.ensures.turn (taken_back holders state) found in
    let pushed : c.push.new.self ≡ c.loop-holder.entries ++ (name_of h, c.in_ok-entry.entry) ∷ [] = rw c.name.ensures at c.in_ok-push.ensures.ok in
    rw next (turning-next c.args.airport.now c.args.delay.now (taken_back holders state) c.requires.sound holders c.loop-holder.holder-index c.args.ledger.now c.loop-holder.entries c.loop-holder.ledger
    c.loop-holder.invariant h low here c.take_turn_of.new.ledger c.push.new.self c.in_ok-entry.entry turn.0 turn.1 turn.2 pushed c.in_ok-entry.ensures.only c.in_ok-entry.ensures.unlifted c.in_ok-entry.ensures.fits)

pub returns-clause-turns : goal.returns-clause-turns
returns-clause-turns c =
    turning-last c.args.airport.now c.args.delay.now (taken_back c.args.before.now c.args.ledger.now.state) c.requires.sound c.args.before.now c.loop-holder.holder-index c.args.ledger.now c.loop-holder.entries
    c.loop-holder.ledger c.loop-holder.invariant (rw c.holders-holder-items.ensures.holders at c.loop-holder-test.false)

pub returns-in_err-entry-clause-theirs : goal.returns-in_err-entry-clause-theirs
returns-in_err-entry-clause-theirs c =
    let holders = c.args.before.now in
    let h : Holder = c.holder-item.result in
    let low : c.loop-holder.holder-index < length holders = rw c.holders-holder-items.ensures.holders at c.loop-holder-test.true in
    let here : h ≡ get_or holders c.loop-holder.holder-index h = rw c.holders-holder-items.ensures.holders at c.holder-item.is in
    let there : Contains holders h = subst (Contains holders) (sym here) (Contains-get_or holders c.loop-holder.holder-index h low) in
    theirs-both holders c.args.ledger.now c.loop-holder.ledger c.take_turn_of.new.ledger c.loop-holder.invariant.theirs
    (theirs-one holders h c.loop-holder.ledger c.take_turn_of.new.ledger (Contains-map name_of holders h there) c.take_turn_of.ensures.only)

pub returns-in_err-push-clause-theirs : goal.returns-in_err-push-clause-theirs
returns-in_err-push-clause-theirs c =
    let holders = c.args.before.now in
    let h : Holder = c.holder-item.result in
    let low : c.loop-holder.holder-index < length holders = rw c.holders-holder-items.ensures.holders at c.loop-holder-test.true in
    let here : h ≡ get_or holders c.loop-holder.holder-index h = rw c.holders-holder-items.ensures.holders at c.holder-item.is in
    let there : Contains holders h = subst (Contains holders) (sym here) (Contains-get_or holders c.loop-holder.holder-index h low) in
    theirs-both holders c.args.ledger.now c.loop-holder.ledger c.take_turn_of.new.ledger c.loop-holder.invariant.theirs
    (theirs-one holders h c.loop-holder.ledger c.take_turn_of.new.ledger (Contains-map name_of holders h there) c.take_turn_of.ensures.only)
