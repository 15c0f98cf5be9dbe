use Rattle.walk_labels.proofs.CheckedDepartures.{node_answer_passes, node_answer_after_passes, ended_table_passes}
use Rattle.walk_labels.proofs.departures.answers_to_departures_pass.Goals as goal

pub returns-clause-answers : goal.returns-clause-answers
returns-clause-answers c = node_answer_passes

pub returns-clause-after : goal.returns-clause-after
returns-clause-after c = node_answer_after_passes

pub returns-clause-tables : goal.returns-clause-tables
returns-clause-tables c = ended_table_passes
