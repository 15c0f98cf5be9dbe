use Rattle.walk_labels.proofs.CheckedArrivals.{begun_answer_passes, begun_table_passes}
use Rattle.walk_labels.proofs.arrivals.answers_to_arrivals_pass.Goals as goal

pub returns-clause-answers : goal.returns-clause-answers
returns-clause-answers c = begun_answer_passes

pub returns-clause-tables : goal.returns-clause-tables
returns-clause-tables c = begun_table_passes
