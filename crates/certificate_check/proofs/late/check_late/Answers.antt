use Rattle.std.proofs.Common.{◌≡◌, ◌∙◌, None, All, sym, subst}
use Rattle.taxi_base.specs.Walks.{free_among}
use Rattle.taxi_base.specs.State.{State, holds_in, IsSound}
use Rattle.taxi_text.specs.declared.command.Command.TheVariants as command
use Rattle.replies.specs.Refusals.{first_refusal}
use Rattle.checked_state.specs.Flights.{state_of, HasSpansOf}
use Rattle.certificate_check.specs.Desk.{CanGoOn}
use Rattle.certificate_check.specs.Judged.{IsJudged}
use Rattle.certificate_check.proofs.LateBase.{ready-tidy, tidy-ready}
use Rattle.certificate_check.proofs.LateJudged.{put-back, gone-through, still-done}
use Rattle.certificate_check.proofs.late.check_late.Goals as goal

pub check_repair-checked-requires-clause-sound : goal.check_repair-checked-requires-clause-sound
check_repair-checked-requires-clause-sound c = subst (IsSound c.args.airport.now) (sym c.in_ok-before.ensures.state) c.requires.ready.is_sound

pub check_repair-checked-requires-clause-can_go_on : goal.check_repair-checked-requires-clause-can_go_on
check_repair-checked-requires-clause-can_go_on c =
    subst (λ (s : State). All (λ f. CanGoOn c.args.airport.now f.request) s.flights) (sym c.in_ok-before.ensures.state) c.requires.ready.can_go_on

pub check_repair-checked-requires-clause-unrefused : goal.check_repair-checked-requires-clause-unrefused
check_repair-checked-requires-clause-unrefused c =
    subst (λ (s : State). first_refusal c.args.airport.now s (command.Late c.args.line.now.flight.now c.args.line.now.time c.args.line.now.until) ≡ None) (sym c.in_ok-before.ensures.state)
    (sym c.late_refused.ensures ∙ c.in_default.is)

pub check_repair-checked-requires-clause-same : goal.check_repair-checked-requires-clause-same
check_repair-checked-requires-clause-same c = sym c.in_ok-before.ensures.state

pub check_repair-checked-requires-clause-tidy : goal.check_repair-checked-requires-clause-tidy
check_repair-checked-requires-clause-tidy c = ready-tidy c.args.airport.now c.args.held.now c.args.known.now c.requires.ready

-- where it does not pass, the state before is put back
pub returns-then-is_err-clause-judged : goal.returns-then-is_err-clause-judged
returns-then-is_err-clause-judged c =
    let airport = c.args.airport.now in
    let before = state_of c.in_ok-before.before in
    let result = c.check_repair-checked.result in
    subst (λ (s : State). IsJudged airport (command.Late c.args.line.now.flight.now c.args.line.now.time c.args.line.now.until) c.args.block s result before) c.in_ok-before.ensures.state
    (put-back airport before (command.Late c.args.line.now.flight.now c.args.line.now.time c.args.line.now.until) c.args.block (state_of c.check_repair-checked.new.held) result (sym c.is_err.ensures.value ∙ c.if-is_err.true)
    c.check_repair-checked.ensures.judged)

pub returns-then-is_err-clause-ready : goal.returns-then-is_err-clause-ready
returns-then-is_err-clause-ready c sound =
    let airport = c.args.airport.now in
    let before = c.in_ok-before.before in
    let is = c.in_ok-before.ensures.state in
    record {
      is_sound = sound;
      has_spans = subst (λ (s : State). HasSpansOf airport s before) (sym is) (c.in_ok-before.ensures.spans airport (state_of c.args.held.now) c.requires.ready.has_spans);
      can_go_on = subst (λ (s : State). All (λ f. CanGoOn airport f.request) s.flights) (sym is) c.requires.ready.can_go_on;
      are_known = c.in_ok-unknown.ensures (free_among airport (holds_in airport (state_of before)));
    }

pub returns-clause-judged : goal.returns-clause-judged
returns-clause-judged c =
    let airport = c.args.airport.now in
    let before = state_of c.in_ok-before.before in
    let after = state_of c.check_repair-checked.new.held in
    let result = c.check_repair-checked.result in
    subst (λ (s : State). IsJudged airport (command.Late c.args.line.now.flight.now c.args.line.now.time c.args.line.now.until) c.args.block s result after) c.in_ok-before.ensures.state
    (gone-through airport before (command.Late c.args.line.now.flight.now c.args.line.now.time c.args.line.now.until) c.args.block after result (sym c.is_err.ensures.value ∙ c.if-is_err.false)
    c.check_repair-checked.ensures.judged)

pub returns-clause-ready : goal.returns-clause-ready
returns-clause-ready c sound =
    tidy-ready c.args.airport.now c.check_repair-checked.new.held c.check_repair-checked.new.known
    (still-done c.check_repair-checked.result _ (sym c.is_err.ensures.value ∙ c.if-is_err.false) c.check_repair-checked.ensures.tidy) sound
