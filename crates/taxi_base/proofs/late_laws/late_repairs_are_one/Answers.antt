use Rattle.taxi_base.proofs.OneRepair.{IsRepaired-same}
use Rattle.taxi_base.proofs.late_laws.late_repairs_are_one.Goals as goal

pub returns : goal.returns
returns c = λ airport state after last delay meetings others tells told well. IsRepaired-same airport state delay well meetings others tells told after last
