use Rattle.plan_table.proofs.OnePlan.{plan-one}
use Rattle.plan_table.proofs.laws.plans_are_one.Goals as goal

pub returns : goal.returns
returns c = plan-one
