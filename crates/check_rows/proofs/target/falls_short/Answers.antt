use Rattle.std.proofs.Common.{◌≡◌, Bool, Some, not, IsTrue, subst}
use Rattle.std.proofs.lemmas.Bool.{false≢true}
use Rattle.taxi_base.specs.Airport.{Layout}
use Rattle.taxi_base.specs.Choices.{OneOf}
use Rattle.check_rows.specs.Rules.{far_end}
use Rattle.check_rows.proofs.LoopLaws.{says-yes}
use Rattle.check_rows.proofs.target.falls_short.Goals as goal

pub returns-else-not-leads_to_one : goal.returns-else-not-leads_to_one
returns-else-not-leads_to_one c class free =
    let leads = subst (λ (l : Layout). OneOf (λ node. far_end c.args.way l c.args.row.arc ≡ Some node) c.args.nodes.now) c.graph.ensures (says-yes _ c.if-not-leads_to_one.false c.leads_to_one.ensures) in
    (λ h. absurd (false≢true (subst (λ (b : Bool). IsTrue (not b)) c.if-not-leads_to_one.false h)), λ falls. absurd (falls.0 leads))
