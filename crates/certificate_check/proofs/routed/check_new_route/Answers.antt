use Rattle.std.proofs.Common.{◌∙◌, refl, sym, subst}
use Rattle.std.specs.Prelude.{Err}
use Rattle.std.proofs.lemmas.Result.{err_from_is_err_and}
use Rattle.taxi_base.specs.Faults.{conditions_in}
use Rattle.replies.specs.declared.block.Block.{Block}
use Rattle.replies.specs.declared.block.Block.TheVariants.{Route}
use Rattle.replies.specs.Passes.{KeepsSought}
use Rattle.checked_state.specs.Flights.{state_of}
use Rattle.check_walks.proofs.StepLaws.{walk-some}
use Rattle.transcripts.specs.declared.refused.CheckRefused.{CheckRefused}
use Rattle.certificate_check.specs.Judged.{IsAnsweredBy, IsToldOf}
use Rattle.certificate_check.proofs.GoOnLaws.{sought-goes_on}
use Rattle.certificate_check.proofs.JudgedLaws.{told-found, told-passed}
use Rattle.certificate_check.proofs.NewLaws.{some-sought, new-feasible, reached-meets, reached-among}
use Rattle.certificate_check.proofs.RoutedLaws.{told-walk, walk-arcs}
use Rattle.certificate_check.proofs.routed.check_new_route.Goals as goal

pub route_among-requires-clause-some : goal.route_among-requires-clause-some
route_among-requires-clause-some c =
    let seeks = c.requires.seeks in
    some-sought c.args.airport.now (state_of c.args.held.now) c.args.wish.now c.args.nodes.now seeks.0 seeks.1

pub returns-in_err-route_among-clause-told : goal.returns-in_err-route_among-clause-told
returns-in_err-route_among-clause-told c s new =
    let state = state_of c.args.held.now in
    let name = c.args.wish.now.name in
    let route = c.args.route in
    let told = c.as_told-told.ensures in
    let block : Block = Route name route.second route.steps route.labels in
    let err = err_from_is_err_and c.from_residual.result c.from_residual.ensures.1 in
    let found = rw (told.second, told.steps, told.labels) at (c.route_among.ensures.found s new name) in
    rw err.1
    (subst (λ (why : CheckRefused). IsToldOf s block state (Err why) state) (sym err.2)
    (told-found s block (sym new.named) state state (Err c.in_err-route_among.field-0.0) (subst (IsAnsweredBy (λ r. KeepsSought r s block)) c.in_err-route_among.was found) refl (λ done e. absurd (cc e))))

pub node_at_end-to-requires-clause-some : goal.node_at_end-to-requires-clause-some
node_at_end-to-requires-clause-some c =
    let airport = c.args.airport.now in
    let state = state_of c.args.held.now in
    let wish = c.args.wish.now in
    let route = c.args.route in
    let told = c.as_told-told.ensures in
    let seeks = c.requires.seeks in
    let all = rw (told.second, told.steps, told.labels) at (c.in_ok-route_among.ensures.found seeks.0 seeks.1 wish.name) in
    let walk = told-walk seeks.0 wish.name route.second route.steps route.labels all in
    rw told.steps (walk-some (conditions_in airport wish.class state) route.steps (new-feasible airport state wish c.args.nodes.now seeks.0 seeks.1 route.steps walk))

pub node_at_end-to-requires-clause-arcs : goal.node_at_end-to-requires-clause-arcs
node_at_end-to-requires-clause-arcs c =
    let airport = c.args.airport.now in
    let state = state_of c.args.held.now in
    let wish = c.args.wish.now in
    let route = c.args.route in
    let told = c.as_told-told.ensures in
    let seeks = c.requires.seeks in
    let all = rw (told.second, told.steps, told.labels) at (c.in_ok-route_among.ensures.found seeks.0 seeks.1 wish.name) in
    let walk = told-walk seeks.0 wish.name route.second route.steps route.labels all in
    rw told.steps (walk-arcs (conditions_in airport wish.class state) route.steps (new-feasible airport state wish c.args.nodes.now seeks.0 seeks.1 route.steps walk))

pub put_in_force-requires-clause-met : goal.put_in_force-requires-clause-met
put_in_force-requires-clause-met c =
    let airport = c.args.airport.now in
    let state = state_of c.args.held.now in
    let wish = c.args.wish.now in
    let route = c.args.route in
    let told = c.as_told-told.ensures in
    let seeks = c.requires.seeks in
    let all = rw (told.second, told.steps, told.labels) at (c.in_ok-route_among.ensures.found seeks.0 seeks.1 wish.name) in
    let walk = told-walk seeks.0 wish.name route.second route.steps route.labels all in
    let at = rw told.steps at c.node_at_end-to.ensures in
    rw c.retargeted.ensures (reached-meets airport state wish c.args.nodes.now seeks.0 seeks.1 route.steps walk c.node_at_end-to.result at)

pub put_in_force-requires-clause-goes_on : goal.put_in_force-requires-clause-goes_on
put_in_force-requires-clause-goes_on c =
    let airport = c.args.airport.now in
    let state = state_of c.args.held.now in
    let wish = c.args.wish.now in
    let route = c.args.route in
    let told = c.as_told-told.ensures in
    let seeks = c.requires.seeks in
    let all = rw (told.second, told.steps, told.labels) at (c.in_ok-route_among.ensures.found seeks.0 seeks.1 wish.name) in
    let walk = told-walk seeks.0 wish.name route.second route.steps route.labels all in
    let reached = c.node_at_end-to.result in
    let at = rw told.steps at c.node_at_end-to.ensures in
    rw c.retargeted.ensures (sought-goes_on airport _ (c.requires.sought reached (reached-among airport state wish c.args.nodes.now seeks.0 seeks.1 route.steps walk reached at)))

pub returns-clause-told : goal.returns-clause-told
returns-clause-told c s new =
    let airport = c.args.airport.now in
    let state = state_of c.args.held.now in
    let wish = c.args.wish.now in
    let route = c.args.route in
    let told = c.as_told-told.ensures in
    let all = rw (told.second, told.steps, told.labels) at (c.in_ok-route_among.ensures.found s new wish.name) in
    let walk = told-walk s wish.name route.second route.steps route.labels all in
    let reached = c.node_at_end-to.result in
    let at = rw told.steps at c.node_at_end-to.ensures in
    let after = rw c.retargeted.ensures at c.in_ok-put_in_force.ensures.ok in
    told-passed s (Route wish.name route.second route.steps route.labels) (sym new.named) all state (state_of c.put_in_force.new.held)
    (after ∙ sym (new.with_steps route.steps reached at (reached-among airport state wish c.args.nodes.now s new route.steps walk reached at)))
