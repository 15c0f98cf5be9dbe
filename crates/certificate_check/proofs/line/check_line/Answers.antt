use Rattle.std.proofs.Common.{◌∙◌, ap, subst}
use Rattle.std.specs.Prelude.{Err, IfSome}
use Rattle.replies.specs.Asked.{IsInGrammar}
use Rattle.replies.proofs.GrammarLaws.{command_of-in_grammar}
use Rattle.check_rows.proofs.LoopLaws.{says-no, says-yes}
use Rattle.checked_state.specs.Flights.{state_of}
use Rattle.certificate_check.proofs.PassedLaws.{memory-passes, bad-checks, judged-checks, checks-sound}
use Rattle.certificate_check.proofs.line.check_line.Goals as goal

pub judge-requires-clause-grammar : goal.judge-requires-clause-grammar
judge-requires-clause-grammar c = subst (λ o. IfSome o IsInGrammar) c.in-Ok.ensures.ok (command_of-in_grammar c.args.line.now)

pub returns-then-may_want_memory-clause-checks : goal.returns-then-may_want_memory-clause-checks
returns-then-may_want_memory-clause-checks c =
    let stands = says-yes _ c.if-may_want_memory.true c.may_want_memory.ensures in
    memory-passes c.args.airport.now (state_of c.args.held.now) c.horizon.ensures.rules c.requires.is_sound c.args.line.now c.args.block (λ h. stands.0 (rw c.in-Ok.ensures.ok at h)) stands.1

pub returns-in-Ok-clause-checks : goal.returns-in-Ok-clause-checks
returns-in-Ok-clause-checks c =
    judged-checks c.args.airport.now (state_of c.args.held.now) c.horizon.ensures.rules c.requires.is_sound c.args.line.now c.args.block c.in-Ok.command c.in-Ok.ensures.ok
    (says-no _ c.if-may_want_memory.false c.may_want_memory.ensures) c.judge.result (state_of c.judge.new.held) c.judge.ensures.judged

pub returns-in-Ok-clause-ready : goal.returns-in-Ok-clause-ready
returns-in-Ok-clause-ready c =
    let airport = c.args.airport.now in
    let state = state_of c.args.held.now in
    let line = c.args.line.now in
    c.judge.ensures.ready
    (checks-sound airport state c.horizon.ensures.rules c.requires.is_sound line c.args.block c.judge.result (state_of c.judge.new.held)
    (judged-checks airport state c.horizon.ensures.rules c.requires.is_sound line c.args.block c.in-Ok.command c.in-Ok.ensures.ok
    (says-no _ c.if-may_want_memory.false c.may_want_memory.ensures) c.judge.result (state_of c.judge.new.held) c.judge.ensures.judged))

pub returns-in-Err-BadLine-clause-checks : goal.returns-in-Err-BadLine-clause-checks
returns-in-Err-BadLine-clause-checks c =
    bad-checks c.args.airport.now (state_of c.args.held.now) c.horizon.ensures.rules c.requires.is_sound c.args.line.now c.args.block
    (c.read_command.ensures.bad_line.0 (c.in-Err-BadLine.is ∙ ap Err c.in-Err-BadLine.field-0-is)) c.check_bad_line.result c.check_bad_line.ensures
