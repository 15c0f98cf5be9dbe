use Rattle.std.proofs.Common.{◌≡◌, sym, subst}
use Rattle.taxi_base.specs.State.{State, IsSound}
use Rattle.replies.specs.declared.block.Block.TheVariants.{Late}
use Rattle.replies.specs.Texts.{block_text}
use Rattle.replies.proofs.LateTold.{delay-there}
use Rattle.replies.specs.Replies.{HaveNames}
use Rattle.replies.specs.Repairs.{IsRepairTold}
use Rattle.taxi_engine.proofs.LateDone.{told-so, told-writable, told-sound, told-named, follows-ok}
use Rattle.taxi_engine.proofs.late.print_repaired.Goals as goal

pub repair-requires-clause-delay : goal.repair-requires-clause-delay
repair-requires-clause-delay c =
    delay-there c.args.airport.now c.args.ledger.now.state c.requires.sound.feasible c.args.late.now.flight c.args.late.now.time c.args.late.now.until c.requires.none

pub print_late-requires-clause-writable : goal.print_late-requires-clause-writable
print_late-requires-clause-writable c =
    let late = c.args.late.now in
    let done = c.in_ok-entries.ensures.repaired in
    told-writable c.args.airport.now c.args.ledger.now.state c.horizon-horizon.ensures.rules c.requires.sound c.requires.named late.flight c.requires.name late.time late.until c.requires.none
    done.0 done.1 c.in_ok-entries.field-0.entries c.repair.new.ledger.state done.2

pub returns-clause-told : goal.returns-clause-told
returns-clause-told c =
    let airport = c.args.airport.now in
    let old = c.args.ledger.now.state in
    let late = c.args.late.now in
    let done = c.in_ok-entries.ensures.repaired in
    let told = Late late.flight c.in_ok-entries.field-0.entries in
    follows-ok c.print_late.result _ _ _
    (λ (kept : c.print_late.new.ledger.state ≡ c.repair.new.ledger.state) (text : c.print_late.new.reply ≡ block_text airport told). (
      told,
      subst (λ (after : State). IsRepairTold airport old late.flight late.time late.until told after) (sym kept)
          (told-so airport old c.horizon-horizon.ensures.rules c.requires.sound c.requires.named late.flight c.requires.name late.time late.until c.requires.none
          done.0 done.1 c.in_ok-entries.field-0.entries c.repair.new.ledger.state done.2),
      text,
    )) c.print_late.ensures.kept c.print_late.ensures.text

pub returns-clause-sound : goal.returns-clause-sound
returns-clause-sound c =
    let airport = c.args.airport.now in
    let late = c.args.late.now in
    let done = c.in_ok-entries.ensures.repaired in
    follows-ok c.print_late.result _ _ _
    (λ (kept : c.print_late.new.ledger.state ≡ c.repair.new.ledger.state) (text : c.print_late.new.reply ≡ block_text airport (Late late.flight c.in_ok-entries.field-0.entries)).
    subst (λ (after : State). IsSound airport after) (sym kept)
    (told-sound airport c.args.ledger.now.state c.horizon-horizon.ensures.rules c.requires.sound c.requires.named late.flight c.requires.name late.time late.until c.requires.none
    done.0 done.1 c.in_ok-entries.field-0.entries c.repair.new.ledger.state done.2)) c.print_late.ensures.kept c.print_late.ensures.text

pub returns-clause-named : goal.returns-clause-named
returns-clause-named c =
    let airport = c.args.airport.now in
    let late = c.args.late.now in
    let done = c.in_ok-entries.ensures.repaired in
    follows-ok c.print_late.result _ _ _
    (λ (kept : c.print_late.new.ledger.state ≡ c.repair.new.ledger.state) (text : c.print_late.new.reply ≡ block_text airport (Late late.flight c.in_ok-entries.field-0.entries)).
    subst (λ (after : State). HaveNames after) (sym kept)
    (told-named airport c.args.ledger.now.state c.horizon-horizon.ensures.rules c.requires.sound c.requires.named late.flight c.requires.name late.time late.until c.requires.none
    done.0 done.1 c.in_ok-entries.field-0.entries c.repair.new.ledger.state done.2)) c.print_late.ensures.kept c.print_late.ensures.text
