use Rattle.std.proofs.Common.{◌↔◌, ◌-◌, IsTrue, List, length, drop, length-drop, subst, arith}
use Rattle.std.proofs.lemmas.Slice.Eq.{starts_is}
use Rattle.std.proofs.lemmas.Bool.{false≢true, both_ways}
use Rattle.std.proofs.lemmas.List.{take_all}
use Rattle.taxi_base.specs.declared.rows.Step.{Step}
use Rattle.taxi_base.specs.Airport.{layout_of}
use Rattle.check_rows.specs.Rules.{beginning_of}
use Rattle.check_walks.specs.Course.{LeadsOn}
use Rattle.check_walks.proofs.CourseLaws.{goes-rest, step-decides}
use Rattle.check_walks.proofs.course.goes_by.Goals as goal

pub returns-then-not-starts_with : goal.returns-then-not-starts_with
returns-then-not-starts_with c =
    let starts = starts_is step-decides c.args.steps.now c.args.course.now.done.now c.starts_with.result c.starts_with.ensures.value in (
      λ e. absurd (false≢true e),
      λ goes. absurd (both_ways _ c.if-not-starts_with.true (starts.1 goes.0 goes.1)),
    )

pub returns : goal.returns
returns c =
    let starts = starts_is step-decides c.args.steps.now c.args.course.now.done.now c.starts_with.result c.starts_with.ensures.value in
    let same = goes-rest (layout_of c.args.airport.now) c.args.course.now.done.now (beginning_of c.args.course.now.begin) c.args.to c.args.steps.now (starts.0 c.if-not-starts_with.false) in
    let rest = take_all (length c.args.steps.now - length c.args.course.now.done.now) (drop (length c.args.course.now.done.now) c.args.steps.now)
    (omega (arith, length-drop (length c.args.course.now.done.now) c.args.steps.now)) in
    let leads = subst (λ (rest : List Step). IsTrue c.leads_on.result ↔ LeadsOn (layout_of c.args.airport.now) (beginning_of c.args.course.now.begin) c.args.to rest) rest c.leads_on.ensures in
    (λ e. same.0 (leads.0 e), λ goes. leads.1 (same.1 goes))
