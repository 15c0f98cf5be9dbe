use Rattle.std.proofs.Common.{◌+◌, List, ℕ, map, drop, refl, sym, subst}
use Rattle.std.proofs.lemmas.Bool.{false≢true}
use Rattle.check_rows.proofs.LoopLaws.{says-no, says-yes}
use Rattle.checked_state.specs.Flights.{state_of}
use Rattle.certificate_check.specs.Late.{delay_in}
use Rattle.certificate_check.proofs.LateOrder.{Follow, in-order, follow-step, follow-none, names-next, names-past}
use Rattle.certificate_check.proofs.late_order.are_in_order.Goals as goal

pub returns-in_default : goal.returns-in_default
returns-in_default c = (
  λ e. absurd (false≢true e),
  λ order.
      let airport = c.args.airport.now in
      let state = state_of c.args.before.now in
      let delay = delay_in c.args.late.now in
      let at = c.loop-name in
      let told = c.loop-name-item.result in
      let entries = c.args.entries.now in
      let next = names-next entries at.name-index c.loop-name-test.true told c.loop-name-item.is in
      absurd (follow-none airport state delay at.last told.0 (map (λ t. t.0) (drop (at.name-index + 1) entries)) (rw c.in_default.is at c.second_of.ensures)
      (subst (Follow airport state delay at.last) next (at.invariant.0 ((in-order airport state delay (map (λ t. t.0) entries)).1 order)))),
)

pub returns-then-not-comes_after : goal.returns-then-not-comes_after
returns-then-not-comes_after c = (
  λ e. absurd (false≢true e),
  λ order.
      let airport = c.args.airport.now in
      let state = state_of c.args.before.now in
      let delay = delay_in c.args.late.now in
      let at = c.loop-name in
      let told = c.loop-name-item.result in
      let entries = c.args.entries.now in
      let next = names-next entries at.name-index c.loop-name-test.true told c.loop-name-item.is in
      let follow = subst (Follow airport state delay at.last) next (at.invariant.0 ((in-order airport state delay (map (λ t. t.0) entries)).1 order)) in
      let here = (follow-step airport state delay at.last told.0 (map (λ t. t.0) (drop (at.name-index + 1) entries)) c.in-Some.second (rw c.in-Some.is at c.second_of.ensures)).0 follow in
      absurd (says-no _ c.if-not-comes_after.true c.comes_after.ensures here.0),
)

pub loop-name-preserved : goal.loop-name-preserved
loop-name-preserved c =
    let airport = c.args.airport.now in
    let state = state_of c.args.before.now in
    let delay = delay_in c.args.late.now in
    let at = c.loop-name in
    let told = c.loop-name-item.result in
    let entries = c.args.entries.now in
    let next = names-next entries at.name-index c.loop-name-test.true told c.loop-name-item.is in
    let step = follow-step airport state delay at.last told.0 (map (λ t. t.0) (drop (at.name-index + 1) entries)) c.in-Some.second (rw c.in-Some.is at c.second_of.ensures) in
    let comes = says-yes _ c.if-not-comes_after.false c.comes_after.ensures in (
      λ all. (step.0 (subst (Follow airport state delay at.last) next (at.invariant.0 all))).1,
      λ later. at.invariant.1 (subst (Follow airport state delay at.last) (sym next) (step.1 (comes, later))),
    )

pub returns : goal.returns
returns c =
    let airport = c.args.airport.now in
    let state = state_of c.args.before.now in
    let delay = delay_in c.args.late.now in
    let at = c.loop-name in
    let names = map (λ told. told.0) c.args.entries.now in
    let past = names-past c.args.entries.now at.name-index c.loop-name-test.false in
    (λ e. (in-order airport state delay names).0 (at.invariant.1 (subst (λ (ns : List (List ℕ)). Follow airport state delay at.last ns) (sym past) tt)), λ order. refl)
