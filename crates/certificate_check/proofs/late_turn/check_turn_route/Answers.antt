use Rattle.std.proofs.Common.{◌≡◌, ◌∙◌, None, sym, ap, subst}
use Rattle.std.specs.Prelude.{Err}
use Rattle.std.proofs.lemmas.Result.{err_from_is_err_and}
use Rattle.taxi_base.specs.declared.answers.Request.{Request}
use Rattle.taxi_base.specs.Late.{request_sought}
use Rattle.taxi_base.specs.State.{State, holds_in, without, with_flight, flight_named}
use Rattle.replies.specs.declared.block.Block.{Block}
use Rattle.replies.specs.declared.block.Block.TheVariants.{Route}
use Rattle.replies.specs.declared.rule.Rule.TheVariants as rule
use Rattle.held_spans.specs.Spans.{AreSpansOf}
use Rattle.checked_state.specs.Flights.{state_of}
use Rattle.checked_state.proofs.FlightLaws.{spans-alone}
use Rattle.due_refusals.proofs.HeldLaws.{known-own, own-known}
use Rattle.transcripts.specs.declared.refused.CheckRefused.{CheckRefused}
use Rattle.certificate_check.specs.Desk.{CanGoOn}
use Rattle.certificate_check.specs.Late.{sought_in, IsTurnChecked}
use Rattle.certificate_check.proofs.JudgedLaws.{answer-ok}
use Rattle.certificate_check.proofs.LateTurn.{turn-seeks, routed-goes_on, out-absent, way-early, turn-arcs, turn-err}
use Rattle.certificate_check.proofs.late_turn.check_turn_route.Goals as goal

pub check_route-requires-clause-sought : goal.check_route-requires-clause-sought
check_route-requires-clause-sought c = rw c.sought_by-sought.ensures.request c.requires.sought

pub check_route-requires-clause-early : goal.check_route-requires-clause-early
check_route-requires-clause-early c way is =
    let turn = c.args.turn.now in
    way-early (request_sought turn.request turn.kept) turn.kept turn.from_on way (sym c.sought_by-sought.ensures.way ∙ is) c.requires.early

pub check_route-requires-clause-known : goal.check_route-requires-clause-known
check_route-requires-clause-known c =
    let airport = c.args.airport.now in
    let left = state_of c.take_out.new.held in
    let has = subst (AreSpansOf (holds_in airport left)) (sym c.spans.ensures) (spans-alone _ _ _ c.take_out.ensures.tidy.has_spans) in
    known-own airport left c.spans.result.now has c.take_out.new.known c.take_out.ensures.tidy.are_known

pub returns-in_err-pass_unless-clause-checked : goal.returns-in_err-pass_unless-clause-checked
returns-in_err-pass_unless-clause-checked c =
    let airport = c.args.airport.now in
    let state = state_of c.args.held.now in
    let turn = c.args.turn.now in
    let s = sought_in airport state turn in
    let block : Block = Route turn.name c.args.route.second c.args.route.steps c.args.route.labels in
    let here = c.take_out.ensures.state in
    let has = subst (λ (st : State). AreSpansOf (holds_in airport st) c.spans.result.now) here (subst (AreSpansOf (holds_in airport (state_of c.take_out.new.held))) (sym c.spans.ensures) (spans-alone _ _ _ c.take_out.ensures.tidy.has_spans)) in
    let sought = c.sought_by-sought.result in
    let seeks = turn-seeks airport state turn c.spans.result.now has sought.request _ sought.floor c.sought_by-sought.ensures.request c.sought_by-sought.ensures.way c.sought_by-sought.ensures.floor in
    let first = rw (c.as_told-told.ensures.second, c.as_told-told.ensures.steps, c.as_told-told.ensures.labels) at (c.in_ok-broken.ensures.first s seeks turn.name) in
    let err = err_from_is_err_and c.from_residual-in_err-pass_unless.result c.from_residual-in_err-pass_unless.ensures.1 in
    rw err.1
    (subst (λ (why : CheckRefused). IsTurnChecked s block (Err why) (state_of c.take_out.new.held)) (sym err.2)
    (turn-err s block (state_of c.take_out.new.held) c.in_ok-broken.broken c.in_err-pass_unless.field-0.0 (sym c.pass_unless.ensures ∙ c.in_err-pass_unless.was) first))

pub put_in-requires-clause-arcs : goal.put_in-requires-clause-arcs
put_in-requires-clause-arcs c =
    let airport = c.args.airport.now in
    let state = state_of c.args.held.now in
    let turn = c.args.turn.now in
    let s = sought_in airport state turn in
    let here = c.take_out.ensures.state in
    let has = subst (λ (st : State). AreSpansOf (holds_in airport st) c.spans.result.now) here (subst (AreSpansOf (holds_in airport (state_of c.take_out.new.held))) (sym c.spans.ensures) (spans-alone _ _ _ c.take_out.ensures.tidy.has_spans)) in
    let sought = c.sought_by-sought.result in
    let seeks = turn-seeks airport state turn c.spans.result.now has sought.request _ sought.floor c.sought_by-sought.ensures.request c.sought_by-sought.ensures.way c.sought_by-sought.ensures.floor in
    let first = rw (c.as_told-told.ensures.second, c.as_told-told.ensures.steps, c.as_told-told.ensures.labels) at (c.in_ok-broken.ensures.first s seeks turn.name) in
    let passed = answer-ok c.in_ok-broken.broken c.in_ok-pass_unless.field-0 (sym c.pass_unless.ensures ∙ c.in_ok-pass_unless.was) in
    let all = rw passed at first in
    turn-arcs airport state turn c.args.route.steps (all rule.Walk).0

pub put_in-requires-clause-goes_on : goal.put_in-requires-clause-goes_on
put_in-requires-clause-goes_on c =
    let turn = c.args.turn.now in
    subst (CanGoOn c.args.airport.now) (sym (rw c.as_slice.ensures at c.request_routed.ensures)) (routed-goes_on c.args.airport.now turn.request turn.kept c.requires.goes_on)

pub put_in-requires-clause-absent : goal.put_in-requires-clause-absent
put_in-requires-clause-absent c =
    let turn = c.args.turn.now in
    subst (λ (st : State). flight_named turn.name st.flights ≡ None) (sym c.take_out.ensures.state) (out-absent turn.name (state_of c.args.held.now) c.requires.alone)

pub put_in-requires-clause-tidy : goal.put_in-requires-clause-tidy
put_in-requires-clause-tidy c =
    let airport = c.args.airport.now in
    let left = state_of c.take_out.new.held in
    let has = subst (AreSpansOf (holds_in airport left)) (sym c.spans.ensures) (spans-alone _ _ _ c.take_out.ensures.tidy.has_spans) in
    record {
      has_spans = c.take_out.ensures.tidy.has_spans;
      on_arcs = c.take_out.ensures.tidy.on_arcs;
      can_go_on = c.take_out.ensures.tidy.can_go_on;
      are_known = own-known airport left c.spans.result.now has c.check_route.new.known c.check_route.ensures.known;
    }

pub returns-clause-parties : goal.returns-clause-parties
returns-clause-parties c = ap (λ (st : State). st.parties) c.in_ok-put_in.ensures.state ∙ c.take_out.ensures.parties

pub returns-clause-checked : goal.returns-clause-checked
returns-clause-checked c =
    let airport = c.args.airport.now in
    let state = state_of c.args.held.now in
    let turn = c.args.turn.now in
    let s = sought_in airport state turn in
    let here = c.take_out.ensures.state in
    let has = subst (λ (st : State). AreSpansOf (holds_in airport st) c.spans.result.now) here (subst (AreSpansOf (holds_in airport (state_of c.take_out.new.held))) (sym c.spans.ensures) (spans-alone _ _ _ c.take_out.ensures.tidy.has_spans)) in
    let sought = c.sought_by-sought.result in
    let seeks = turn-seeks airport state turn c.spans.result.now has sought.request _ sought.floor c.sought_by-sought.ensures.request c.sought_by-sought.ensures.way c.sought_by-sought.ensures.floor in
    let first = rw (c.as_told-told.ensures.second, c.as_told-told.ensures.steps, c.as_told-told.ensures.labels) at (c.in_ok-broken.ensures.first s seeks turn.name) in
    let passed = answer-ok c.in_ok-broken.broken c.in_ok-pass_unless.field-0 (sym c.pass_unless.ensures ∙ c.in_ok-pass_unless.was) in
    let routed = rw c.as_slice.ensures at c.request_routed.ensures in (
      rw passed at first,
      c.in_ok-put_in.ensures.state ∙ ap (with_flight (record { name = turn.name; class = turn.class; request = c.request_routed.result; steps = c.args.route.steps })) here
          ∙ ap (λ (r : Request). with_flight (record { name = turn.name; class = turn.class; request = r; steps = c.args.route.steps }) (without turn.name state)) routed,
    )
