use Rattle.std.proofs.Common.{◌≡◌, ◌∙◌, None, sym, subst}
use Rattle.std.specs.Prelude.{Err}
use Rattle.std.proofs.lemmas.Result.{err_from_is_err_and}
use Rattle.taxi_base.specs.Late.{request_sought}
use Rattle.taxi_base.specs.State.{State, holds_in, flight_named}
use Rattle.replies.specs.declared.block.Block.{Block}
use Rattle.replies.specs.declared.block.Block.TheVariants.{NoRoute}
use Rattle.held_spans.specs.Spans.{AreSpansOf}
use Rattle.checked_state.specs.Flights.{state_of}
use Rattle.checked_state.proofs.FlightLaws.{spans-alone}
use Rattle.due_refusals.proofs.HeldLaws.{known-own, own-known}
use Rattle.transcripts.specs.declared.refused.CheckRefused.{CheckRefused}
use Rattle.certificate_check.specs.Late.{sought_in, IsTurnChecked}
use Rattle.certificate_check.proofs.JudgedLaws.{answer-ok}
use Rattle.certificate_check.proofs.LateTurn.{turn-seeks, out-absent, way-early, turn-err}
use Rattle.certificate_check.proofs.late_turn.check_turn_without.Goals as goal

pub check_no_route-requires-clause-sought : goal.check_no_route-requires-clause-sought
check_no_route-requires-clause-sought c = rw c.sought_by-sought.ensures.request c.requires.sought

pub check_no_route-requires-clause-early : goal.check_no_route-requires-clause-early
check_no_route-requires-clause-early c way is =
    let turn = c.args.turn in
    way-early (request_sought turn.request turn.kept) turn.kept turn.from_on way (sym c.sought_by-sought.ensures.way ∙ is) c.requires.early

pub check_no_route-requires-clause-known : goal.check_no_route-requires-clause-known
check_no_route-requires-clause-known c =
    let airport = c.args.airport.now in
    let left = state_of c.take_out.new.held in
    let has = subst (AreSpansOf (holds_in airport left)) (sym c.spans.ensures) (spans-alone _ _ _ c.take_out.ensures.tidy.has_spans) in
    known-own airport left c.spans.result.now has c.take_out.new.known c.take_out.ensures.tidy.are_known

pub returns-in_err-pass_unless-clause-checked : goal.returns-in_err-pass_unless-clause-checked
returns-in_err-pass_unless-clause-checked c =
    let airport = c.args.airport.now in
    let state = state_of c.args.held.now in
    let turn = c.args.turn in
    let s = sought_in airport state turn in
    let block : Block = NoRoute c.args.labels.now in
    let here = c.take_out.ensures.state in
    let has = subst (λ (st : State). AreSpansOf (holds_in airport st) c.spans.result.now) here (subst (AreSpansOf (holds_in airport (state_of c.take_out.new.held))) (sym c.spans.ensures) (spans-alone _ _ _ c.take_out.ensures.tidy.has_spans)) in
    let sought = c.sought_by-sought.result in
    let seeks = turn-seeks airport state turn c.spans.result.now has sought.request _ sought.floor c.sought_by-sought.ensures.request c.sought_by-sought.ensures.way c.sought_by-sought.ensures.floor in
    let first = c.in_ok-broken.ensures.first s seeks in
    let err = err_from_is_err_and c.from_residual-in_err-pass_unless.result c.from_residual-in_err-pass_unless.ensures.1 in
    rw err.1
    (subst (λ (why : CheckRefused). IsTurnChecked s block (Err why) (state_of c.take_out.new.held)) (sym err.2)
    (turn-err s block (state_of c.take_out.new.held) c.in_ok-broken.broken c.in_err-pass_unless.field-0.0 (sym c.pass_unless.ensures ∙ c.in_err-pass_unless.was) first))

pub stay-requires-clause-tidy : goal.stay-requires-clause-tidy
stay-requires-clause-tidy c =
    let airport = c.args.airport.now in
    let left = state_of c.take_out.new.held in
    let has = subst (AreSpansOf (holds_in airport left)) (sym c.spans.ensures) (spans-alone _ _ _ c.take_out.ensures.tidy.has_spans) in
    record {
      has_spans = c.take_out.ensures.tidy.has_spans;
      on_arcs = c.take_out.ensures.tidy.on_arcs;
      can_go_on = c.take_out.ensures.tidy.can_go_on;
      are_known = own-known airport left c.spans.result.now has c.check_no_route.new.known c.check_no_route.ensures.known;
    }

pub stay-requires-clause-absent : goal.stay-requires-clause-absent
stay-requires-clause-absent c =
    let turn = c.args.turn in
    subst (λ (st : State). flight_named turn.name st.flights ≡ None) (sym c.take_out.ensures.state) (out-absent turn.name (state_of c.args.held.now) c.requires.alone)

pub returns-clause-checked : goal.returns-clause-checked
returns-clause-checked c =
    let airport = c.args.airport.now in
    let state = state_of c.args.held.now in
    let turn = c.args.turn in
    let s = sought_in airport state turn in
    let here = c.take_out.ensures.state in
    let has = subst (λ (st : State). AreSpansOf (holds_in airport st) c.spans.result.now) here (subst (AreSpansOf (holds_in airport (state_of c.take_out.new.held))) (sym c.spans.ensures) (spans-alone _ _ _ c.take_out.ensures.tidy.has_spans)) in
    let sought = c.sought_by-sought.result in
    let seeks = turn-seeks airport state turn c.spans.result.now has sought.request _ sought.floor c.sought_by-sought.ensures.request c.sought_by-sought.ensures.way c.sought_by-sought.ensures.floor in
    let first = c.in_ok-broken.ensures.first s seeks in
    let passed = answer-ok c.in_ok-broken.broken c.in_ok-pass_unless.field-0 (sym c.pass_unless.ensures ∙ c.in_ok-pass_unless.was) in
    (rw passed at first, c.in_ok-stay.ensures.state state here)

pub returns-clause-parties : goal.returns-clause-parties
returns-clause-parties c = c.in_ok-stay.ensures.parties ∙ c.take_out.ensures.parties
