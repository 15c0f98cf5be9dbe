use Rattle.transcripts.proofs.OneRun.{supplied-one}
use Rattle.transcripts.proofs.laws.supplied_runs_are_one.Goals as goal

pub returns : goal.returns
returns c = supplied-one
