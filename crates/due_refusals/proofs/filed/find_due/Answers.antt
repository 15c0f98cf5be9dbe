use Rattle.std.proofs.Common.{◌∙◌, length, sym, ap, arith}
use Rattle.replies.specs.Asked.{filed_steps}
use Rattle.replies.proofs.FiledLaws.{filed_steps-arcs}
use Rattle.due_refusals.proofs.FiledLaws.{few-made}
use Rattle.due_refusals.proofs.filed.find_due.Goals as goal

pub route_fault-requires-clause-arcs : goal.route_fault-requires-clause-arcs
route_fault-requires-clause-arcs c =
    let made = ap (filed_steps c.args.airport.now c.args.filed.now.start) (sym c.as_slice.ensures) ∙ sym c.in_ok-steps.ensures ∙ c.in-Some-2.is in
    rw c.as_slice-2.ensures (filed_steps-arcs c.args.airport.now c.args.filed.now.start c.args.filed.now.steps c.in-Some-2.steps made)

pub route_fault-requires-clause-few : goal.route_fault-requires-clause-few
route_fault-requires-clause-few c =
    let made = ap (filed_steps c.args.airport.now c.args.filed.now.start) (sym c.as_slice.ensures) ∙ sym c.in_ok-steps.ensures ∙ c.in-Some-2.is in
    let few = few-made c.args.airport.now c.args.filed.now.start c.args.filed.now.steps c.in-Some-2.steps made c.requires.steps in
    omega (arith, few.1, ap length c.as_slice-2.ensures)
