use Rattle.checkpoint_file.proofs.RunLaws.{restored-due, restored-run, restored-held}
use Rattle.checkpoint_file.proofs.laws.checkpoints_restore_what_is_in_force.Goals as goal

pub returns-clause-due : goal.returns-clause-due
returns-clause-due c = λ airport state well sound names. restored-due airport state well sound names

pub returns-clause-run : goal.returns-clause-run
returns-clause-run c = λ airport lines blocks others state after well run again found. restored-run airport lines blocks others state after well run again found

pub returns-clause-held : goal.returns-clause-held
returns-clause-held c = λ airport state. restored-held airport state
