use Rattle.std.proofs.Common.{◌≡◌, List, ℕ, sym, subst}
use Rattle.std.specs.Prelude.{OnOk}
use Rattle.taxi_base.specs.State.{State}
use Rattle.taxi_text.specs.declared.command.Command.TheVariants as command
use Rattle.replies.specs.declared.entries.Entry.{Entry}
use Rattle.replies.specs.declared.block.Block.{Block}
use Rattle.replies.specs.Turns.{after_turns}
use Rattle.checked_state.specs.Flights.{state_of}
use Rattle.certificate_check.specs.Entries.{AreChecked}
use Rattle.certificate_check.specs.Late.{delay_in, AreAlone, turns_late, IsRepairJudged}
use Rattle.certificate_check.proofs.LateSteps.{delay-arc}
use Rattle.certificate_check.proofs.LateBase.{base-alone}
use Rattle.certificate_check.proofs.LateJudged.{form-judged, turns-judged}
use Rattle.certificate_check.proofs.late.check_repair.Goals as goal

pub returns-in_default-clause-judged : goal.returns-in_default-clause-judged
returns-in_default-clause-judged c =
    form-judged c.args.airport.now (state_of c.args.before.now) c.args.line.now.flight.now c.args.line.now.time c.args.line.now.until c.requires.unrefused c.args.block (rw c.in_default.is at c.told_in_turn.ensures)

pub give_way-requires-clause-arc : goal.give_way-requires-clause-arc
give_way-requires-clause-arc c =
    let told = rw c.in-Some.is at c.told_in_turn.ensures in
    delay-arc c.args.airport.now (state_of c.args.before.now) c.requires.sound c.args.line.now.flight.now c.args.line.now.time c.args.line.now.until (delay_in c.in-Some.told.late) told.0

pub check_turns-requires-clause-alone : goal.check_turns-requires-clause-alone
check_turns-requires-clause-alone c =
    let before = state_of c.args.before.now in
    subst (λ (s : State). AreAlone before s.parties) (sym c.in_ok-give_way.ensures.state) (base-alone c.args.airport.now before c.requires.sound (delay_in c.in-Some.told.late))

pub returns-clause-judged : goal.returns-clause-judged
returns-clause-judged c =
    let airport = c.args.airport.now in
    let before = state_of c.args.before.now in
    let line = c.args.line.now in
    let told = rw c.in-Some.is at c.told_in_turn.ensures in
    let delay = delay_in c.in-Some.told.late in
    let entries = c.in-Some.told.entries in
    let result = c.check_turns.result in
    let after = state_of c.check_turns.new.held in
    let base = c.in_ok-give_way.ensures.state in
    let checked = subst (λ (s : State). AreChecked (turns_late airport before delay s entries) result) base
    (subst (λ (es : List (List ℕ × Entry)). AreChecked (turns_late airport before delay (state_of c.give_way.new.held) es) result) c.into_vec-entries.ensures c.check_turns.ensures.checked) in
    let left = subst (λ (s : State). OnOk result (after ≡ after_turns s (turns_late airport before delay s entries))) base
    (subst (λ (es : List (List ℕ × Entry)). OnOk result (after ≡ after_turns (state_of c.give_way.new.held) (turns_late airport before delay (state_of c.give_way.new.held) es))) c.into_vec-entries.ensures c.check_turns.ensures.state) in
    subst (λ (b : Block). IsRepairJudged airport before (command.Late line.flight.now line.time line.until) b result after) (sym told.1)
    (turns-judged airport before line.flight.now line.time line.until c.requires.unrefused delay told.0 entries told.2 after result checked left)
