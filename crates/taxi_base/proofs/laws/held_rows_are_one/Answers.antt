use Rattle.taxi_base.proofs.ReportLaws.{AreHeldRows-same}
use Rattle.taxi_base.proofs.laws.held_rows_are_one.Goals as goal

pub returns : goal.returns
returns c = AreHeldRows-same
