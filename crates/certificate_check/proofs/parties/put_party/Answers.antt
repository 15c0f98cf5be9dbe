use Rattle.std.proofs.Common.{◌∙◌, sym}
use Rattle.taxi_base.specs.State.{holds_in, with_party}
use Rattle.replies.specs.Asked.{party_of}
use Rattle.check_rows.proofs.LoopLaws.{says-yes}
use Rattle.checked_state.specs.Flights.{state_of}
use Rattle.due_refusals.proofs.HeldLaws.{more-with_party}
use Rattle.certificate_check.proofs.JudgedLaws.{form-ok}
use Rattle.certificate_check.proofs.RoutedLaws.{ready-by}
use Rattle.certificate_check.proofs.PartyLaws.{may-on, may-absent, may-sound, may-judged}
use Rattle.certificate_check.proofs.parties.put_party.Goals as goal

pub cut_segment-requires-clause-on : goal.cut_segment-requires-clause-on
cut_segment-requires-clause-on c =
    let asked = c.args.asked.now in
    may-on c.args.airport.now (state_of c.args.held.now) asked c.args.segment c.requires.may

pub shut-requires-clause-absent : goal.shut-requires-clause-absent
shut-requires-clause-absent c =
    let asked = c.args.asked.now in
    may-absent c.args.airport.now (state_of c.args.held.now) asked c.args.segment c.requires.may

pub shut-requires-clause-on : goal.shut-requires-clause-on
shut-requires-clause-on c =
    let asked = c.args.asked.now in
    rw c.requires.ready.has_spans.lists (may-on c.args.airport.now (state_of c.args.held.now) asked c.args.segment c.requires.may)

pub returns-in_err-shut-clause-ready : goal.returns-in_err-shut-clause-ready
returns-in_err-shut-clause-ready c =
    let airport = c.args.airport.now in
    ready-by airport c.shut.new.self c.args.known.now (state_of c.args.held.now) c.in_err-shut.ensures.err c.requires.ready.is_sound c.requires.ready.can_go_on c.requires.ready.are_known
    (c.shut.ensures.spans airport c.requires.ready.has_spans)

pub returns-clause-judged : goal.returns-clause-judged
returns-clause-judged c =
    let asked = c.args.asked.now in
    may-judged c.args.airport.now (state_of c.args.held.now) asked c.args.segment c.requires.may c.args.block.now (state_of c.shut.new.self)
    (says-yes _ (form-ok c.is_filed.result c.in_ok-pass_if.field-0 (sym c.pass_if.ensures ∙ c.in_ok-pass_if.was)) c.is_filed.ensures) c.in_ok-shut.ensures.ok

pub returns-clause-ready : goal.returns-clause-ready
returns-clause-ready c =
    let airport = c.args.airport.now in
    let asked = c.args.asked.now in
    let state = state_of c.args.held.now in
    let party = party_of asked c.args.segment in
    ready-by airport c.shut.new.self c.cut_segment.new.self (with_party party state) c.in_ok-shut.ensures.ok
    (may-sound airport state asked c.args.segment c.requires.may c.requires.ready.is_sound) c.requires.ready.can_go_on
    (c.cut_segment.ensures (holds_in airport state) (holds_in airport (with_party party state)) (rw c.span_of.ensures (more-with_party airport party state)) c.requires.ready.are_known)
    (c.shut.ensures.spans airport c.requires.ready.has_spans)
