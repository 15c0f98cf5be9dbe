use Rattle.command_run.proofs.Reading.{ended-first, unended-one}
use Rattle.command_run.proofs.laws.ended_lines_stay.Goals as goal

pub returns-clause-first : goal.returns-clause-first
returns-clause-first c = ended-first

pub returns-clause-one : goal.returns-clause-one
returns-clause-one c = unended-one
