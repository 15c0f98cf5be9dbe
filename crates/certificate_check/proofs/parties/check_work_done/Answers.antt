use Rattle.std.proofs.Common.{◌∙◌, All, length, sym, subst}
use Rattle.taxi_base.specs.State.{State, holds_in, IsSound}
use Rattle.taxi_base.specs.Walks.{free_among}
use Rattle.check_rows.specs.Known.{AreKnown}
use Rattle.check_rows.proofs.LoopLaws.{says-yes}
use Rattle.checked_state.specs.Flights.{state_of}
use Rattle.checked_state.proofs.FlightLaws.{copied-flight}
use Rattle.due_refusals.proofs.HeldLaws.{differ-without_party}
use Rattle.certificate_check.specs.Desk.{CanGoOn}
use Rattle.certificate_check.proofs.JudgedLaws.{form-ok}
use Rattle.certificate_check.proofs.PartyLaws.{opened, party-on, opened-sound, opened-judged}
use Rattle.certificate_check.proofs.parties.check_work_done.Goals as goal

pub forget_segment-requires : goal.forget_segment-requires
forget_segment-requires c =
    let found = sym c.party.ensures ∙ copied-flight c.party.result c.in-Some.party c.in-Some.is in
    party-on c.args.airport.now (state_of c.args.held.now) c.requires.is_sound c.args.name.now c.in-Some.party.now found

pub open-requires-clause-spans : goal.open-requires-clause-spans
open-requires-clause-spans c = (c.args.airport.now, c.requires.has_spans)

pub returns-clause-judged : goal.returns-clause-judged
returns-clause-judged c =
    let found = sym c.party.ensures ∙ copied-flight c.party.result c.in-Some.party c.in-Some.is in
    opened-judged c.args.airport.now (state_of c.args.held.now) c.requires.is_sound c.args.name.now c.in-Some.party.now found c.args.block.now (state_of c.open.new.self)
    (says-yes _ (form-ok c.is_cancelled.result c.in_ok-pass_if.field-0 (sym c.pass_if-2.ensures ∙ c.in_ok-pass_if.was)) c.is_cancelled.ensures) c.open.ensures.state

pub returns-clause-ready : goal.returns-clause-ready
returns-clause-ready c =
    let airport = c.args.airport.now in
    let state = state_of c.args.held.now in
    let name = c.args.name.now in
    let party = c.in-Some.party.now in
    let found = sym c.party.ensures ∙ copied-flight c.party.result c.in-Some.party c.in-Some.is in
    let after : State = opened airport state c.requires.is_sound name party found in
    record {
      is_sound = subst (IsSound airport) (sym c.open.ensures.state) (opened-sound airport state c.requires.is_sound name party found);
      has_spans = c.open.ensures.spans airport c.requires.has_spans;
      can_go_on = subst (λ (s : State). All (λ f. CanGoOn airport f.request) s.flights) (sym c.open.ensures.state) c.requires.can_go_on;
      are_known = subst (λ (s : State). AreKnown (length airport.segments) (free_among airport (holds_in airport s)) c.forget_segment.new.self) (sym c.open.ensures.state)
          (c.forget_segment.ensures (holds_in airport state) (holds_in airport after) (differ-without_party airport party state name c.requires.is_sound.feasible.parties_ordered found) c.requires.are_known);
    }
