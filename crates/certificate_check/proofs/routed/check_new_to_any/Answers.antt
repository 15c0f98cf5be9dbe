use Rattle.std.proofs.Common.{◌∙◌, List, ℕ, refl, sym, subst}
use Rattle.replies.specs.declared.block.Block.TheVariants.{Route, NoRoute}
use Rattle.checked_state.specs.Flights.{state_of}
use Rattle.certificate_check.specs.Judged.{IsToldOf}
use Rattle.certificate_check.proofs.JudgedLaws.{name-ok, told-found}
use Rattle.certificate_check.proofs.routed.check_new_to_any.Goals as goal

pub returns-in-Route-clause-told : goal.returns-in-Route-clause-told
returns-in-Route-clause-told c s new =
    let state = state_of c.args.held.now in
    let same = name-ok c.eq.result c.in-Route.flight c.args.wish.now.name c.eq.ensures c.in_ok-pass_if-in-Route.field-0 (sym c.pass_if.ensures ∙ c.in_ok-pass_if-in-Route.was) in
    rw c.in-Route.is
    (subst (λ (n : List ℕ). IsToldOf s (Route n c.in-Route.second c.in-Route.steps c.in-Route.labels) state c.check_new_route.result (state_of c.check_new_route.new.held)) (sym same)
    (c.check_new_route.ensures.told s new))

pub returns-in-NoRoute-clause-told : goal.returns-in-NoRoute-clause-told
returns-in-NoRoute-clause-told c s new =
    let state = state_of c.args.held.now in
    let found = rw c.as_slice.ensures at (c.no_route_among.ensures.found s new) in
    rw c.in-NoRoute.is (told-found s (NoRoute c.in-NoRoute.labels) new.may_be_none state state c.no_route_among.result found refl (λ done is. sym new.with_none))
