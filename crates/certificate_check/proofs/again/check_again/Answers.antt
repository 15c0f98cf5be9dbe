use Rattle.std.proofs.Common.{◌∙◌, refl, sym, subst, List}
use Rattle.taxi_base.specs.declared.rows.LabelRow.{LabelRow}
use Rattle.taxi_base.specs.State.{State, without}
use Rattle.replies.specs.declared.block.Block.TheVariants.{NoRoute}
use Rattle.replies.specs.Sought.{sought_again}
use Rattle.checked_state.specs.Flights.{state_of}
use Rattle.due_refusals.specs.KnownIn.{AreKnownIn}
use Rattle.certificate_check.specs.Again.{IsFoundAmong}
use Rattle.certificate_check.proofs.JudgedLaws.{form-ok, told-found}
use Rattle.certificate_check.proofs.AgainLaws.{again-seeks}
use Rattle.certificate_check.proofs.again.check_again.Goals as goal

pub no_route_among-told-requires-clause-known : goal.no_route_among-told-requires-clause-known
no_route_among-told-requires-clause-known c =
    subst (λ (s : State). AreKnownIn c.args.airport.now (without c.args.anew.now.name.now s) c.lift.new.known) (sym c.lift.ensures.state) c.lift.ensures.known

pub returns-in-NoRoute-clause-told : goal.returns-in-NoRoute-clause-told
returns-in-NoRoute-clause-told c flight found =
    let airport = c.args.airport.now in
    let state = state_of c.args.held.now in
    let anew = c.args.anew.now in
    let name = anew.name.now in
    let lifted = c.lift.ensures.state in
    let s = sought_again airport state name anew.time anew.may_be_none flight anew.request in
    let form = form-ok anew.may_be_none c.in_ok-pass_if-in-NoRoute.field-0 (sym c.pass_if-in-NoRoute.ensures ∙ c.in_ok-pass_if-in-NoRoute.was) in
    let told = subst (λ (labels : List LabelRow). IsFoundAmong airport (state_of c.lift.new.held) name anew.time anew.request (NoRoute labels) c.no_route_among-told.result) c.as_slice.ensures c.no_route_among-told.ensures.found in
    let here = subst (λ (st : State). IsFoundAmong airport st name anew.time anew.request (NoRoute c.in-NoRoute.labels) c.no_route_among-told.result) lifted told in
    rw c.in-NoRoute.is
    (told-found s (NoRoute c.in-NoRoute.labels) form state (state_of c.lower.new.held) c.no_route_among-told.result (here flight found s (again-seeks airport state name anew.time anew.may_be_none flight anew.request))
    (c.lower.ensures.state ∙ lifted) (λ done is. refl))
