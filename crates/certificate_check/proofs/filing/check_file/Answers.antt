use Rattle.std.proofs.Common.{◌∙◌, length, sym, ap, subst, arith}
use Rattle.check_rows.proofs.LoopLaws.{says-yes}
use Rattle.checked_state.specs.Flights.{state_of}
use Rattle.due_refusals.specs.Filing.{IsDueOf}
use Rattle.certificate_check.specs.Desk.{CanGoOn}
use Rattle.certificate_check.proofs.JudgedLaws.{form-ok}
use Rattle.certificate_check.proofs.FilingLaws.{accepted-some, accepted-meets, accepted-room, accepted-judged}
use Rattle.certificate_check.proofs.filing.check_file.Goals as goal

pub is_filed-requires : goal.is_filed-requires
is_filed-requires c =
    let filed = c.args.filed.now in
    let state = state_of c.args.held.now in
    let accepted = subst (IsDueOf c.args.airport.now state filed) c.in-Accepted.is c.in_ok-why.ensures.due in
    omega (arith, ap length c.as_slice.ensures, accepted-some c.args.airport.now state filed c.requires.steps c.in-Accepted.flight accepted)

pub put_in_force-requires-clause-met : goal.put_in_force-requires-clause-met
put_in_force-requires-clause-met c =
    let filed = c.args.filed.now in
    let state = state_of c.args.held.now in
    let accepted = subst (IsDueOf c.args.airport.now state filed) c.in-Accepted.is c.in_ok-why.ensures.due in
    accepted-meets c.args.airport.now state filed c.requires.steps c.in-Accepted.flight accepted

pub put_in_force-requires-clause-few : goal.put_in_force-requires-clause-few
put_in_force-requires-clause-few c =
    let filed = c.args.filed.now in
    let state = state_of c.args.held.now in
    let accepted = subst (IsDueOf c.args.airport.now state filed) c.in-Accepted.is c.in_ok-why.ensures.due in
    (accepted-room c.args.airport.now state filed c.requires.steps c.in-Accepted.flight accepted).room

pub put_in_force-requires-clause-absent : goal.put_in_force-requires-clause-absent
put_in_force-requires-clause-absent c =
    let filed = c.args.filed.now in
    let state = state_of c.args.held.now in
    let accepted = subst (IsDueOf c.args.airport.now state filed) c.in-Accepted.is c.in_ok-why.ensures.due in
    (accepted-room c.args.airport.now state filed c.requires.steps c.in-Accepted.flight accepted).absent

pub put_in_force-requires-clause-goes_on : goal.put_in_force-requires-clause-goes_on
put_in_force-requires-clause-goes_on c =
    let accepted = subst (IsDueOf c.args.airport.now (state_of c.args.held.now) c.args.filed.now) c.in-Accepted.is c.in_ok-why.ensures.due in
    subst (CanGoOn c.args.airport.now) (sym accepted.by_hand) tt

pub returns-in_ok-put_in_force-in-Accepted-clause-judged : goal.returns-in_ok-put_in_force-in-Accepted-clause-judged
returns-in_ok-put_in_force-in-Accepted-clause-judged c =
    let filed = c.args.filed.now in
    let state = state_of c.args.held.now in
    let accepted = subst (IsDueOf c.args.airport.now state filed) c.in-Accepted.is c.in_ok-why.ensures.due in
    let kept = form-ok c.is_filed.result c.in_ok-pass_if-in-Accepted.field-0 (sym c.pass_if-in-Accepted.ensures ∙ c.in_ok-pass_if-in-Accepted.was) in
    let told = rw c.as_slice.ensures at (says-yes _ kept c.is_filed.ensures) in
    accepted-judged c.args.airport.now state filed c.requires.steps c.in-Accepted.flight accepted c.args.block.now (state_of c.put_in_force.new.held) told
    c.in_ok-put_in_force-in-Accepted.ensures.ok
