use Rattle.std.proofs.Common.{refl, length, subst, ◌≡◌, ◌∙◌, ◌<◌, false, arith, ap, sym}
use Rattle.taxi_base.specs.State.{has_holder, holder_count}
use Rattle.taxi_base.specs.Walks.{AreJoined, IsFeasibleWalk}
use Rattle.taxi_base.specs.Faults.{conditions_in, route_fault}
use Rattle.replies.specs.Refusals.{most_holders}
use Rattle.replies.proofs.FiledLaws.{filed_steps-length, filed_steps-arcs, filed_steps-joined}
use Rattle.command_refusals.proofs.FiledDue.{file-due, not-full}
use Rattle.command_refusals.proofs.filing.check_filed.Goals as goal

pub check_route-requires-clause-arcs : goal.check_route-requires-clause-arcs
check_route-requires-clause-arcs c = rw c.as_slice.ensures (filed_steps-arcs c.args.airport.now c.args.filed.now.start c.args.filed.now.steps c.in_ok-steps.steps c.in_ok-steps.ensures.ok)

pub check_route-requires-clause-few : goal.check_route-requires-clause-few
check_route-requires-clause-few c = rw c.as_slice.ensures (omega (arith, c.requires.few, filed_steps-length c.args.airport.now c.args.filed.now.start c.args.filed.now.steps c.in_ok-steps.steps c.in_ok-steps.ensures.ok))

pub returns-clause-ok : goal.returns-clause-ok
returns-clause-ok c =
    let airport = c.args.airport.now in
    let state = c.args.ledger.now.state in
    let made = c.in_ok-steps.ensures.ok in
    let absent : has_holder c.args.filed.now.flight state ≡ false = sym c.is_held.ensures ∙ c.if-is_held.false in
    let few : holder_count state < most_holders = not-full state (sym c.is_full.ensures ∙ c.if-is_full.false) in
    let faultless = ap (route_fault c.args.airport.now c.in-Some.class state) (sym c.as_slice.ensures) ∙ sym c.check_route.ensures.fault ∙ c.in_default-check_route.is in
    record {
      due = file-due c.args.airport.now state c.args.filed.now c.in-Some.class c.in_ok-steps.steps
          absent (sym c.class_named.ensures ∙ c.in-Some.is) c.in_ok-steps.ensures.ok few faultless;
      absent = absent;
      request = refl;
      name = c.requires.name;
      few = few;
      feasible = subst (IsFeasibleWalk (conditions_in airport c.in-Some.class state)) c.as_slice.ensures
          ((c.check_route.ensures.feasible
          (omega (arith, ap length c.as_slice.ensures, c.requires.some, filed_steps-length airport c.args.filed.now.start c.args.filed.now.steps c.in_ok-steps.steps made))
          (subst AreJoined (sym c.as_slice.ensures) (filed_steps-joined airport c.args.filed.now.start c.args.filed.now.steps c.in_ok-steps.steps made))).0 c.in_default-check_route.is);
      some = omega (arith, c.requires.some, filed_steps-length c.args.airport.now c.args.filed.now.start c.args.filed.now.steps c.in_ok-steps.steps c.in_ok-steps.ensures.ok);
    }

pub prepare-requires-clause-arcs : goal.prepare-requires-clause-arcs
prepare-requires-clause-arcs c = rw c.as_slice-2.ensures (filed_steps-arcs c.args.airport.now c.args.filed.now.start c.args.filed.now.steps c.in_ok-steps.steps c.in_ok-steps.ensures.ok)

pub prepare-requires-clause-few : goal.prepare-requires-clause-few
prepare-requires-clause-few c = rw c.as_slice-2.ensures (omega (arith, c.requires.few, filed_steps-length c.args.airport.now c.args.filed.now.start c.args.filed.now.steps c.in_ok-steps.steps c.in_ok-steps.ensures.ok))

pub prepare-requires-clause-not_full : goal.prepare-requires-clause-not_full
prepare-requires-clause-not_full c = not-full c.args.ledger.now.state (sym c.is_full.ensures ∙ c.if-is_full.false)
