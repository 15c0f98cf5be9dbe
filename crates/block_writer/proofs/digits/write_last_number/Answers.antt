use Rattle.block_writer.proofs.WriteLaws.{drop-set_behind}
use Rattle.block_writer.proofs.digits.write_last_number.Goals as goal

pub returns-clause-written : goal.returns-clause-written
returns-clause-written c = drop-set_behind _ _ _ _ _ _ _ c.write_number-start.ensures.start c.write_number-start.ensures.written
