use Rattle.std.proofs.Common.{refl}
use Rattle.taxi_base.specs.State.{no_holder}
use Rattle.replies.specs.Texts.{block_text}
use Rattle.transcripts.proofs.RunLaws.{none-sound}
use Rattle.spare_rules.specs.Spared.{spared}
use Rattle.spare_rules.proofs.Pairs.{turned}
use Rattle.spare_rules.proofs.Spares.{pair}
use Rattle.spare_rules.proofs.HoldersTo.{refusal-same}
use Rattle.spare_rules.proofs.DueTo.{due-to, run-to}
use Rattle.spare_rules.proofs.laws.runs_are_the_same.Goals as goal

pub returns-clause-refusals : goal.returns-clause-refusals
returns-clause-refusals c = λ airport state command. refusal-same (pair airport) state command

pub returns-clause-due : goal.returns-clause-due
returns-clause-due c = λ airport state line block after. (due-to (pair airport) state block after line, due-to (turned (pair airport)) state block after line)

pub returns-clause-runs : goal.returns-clause-runs
returns-clause-runs c = λ airport lines blocks after.
    (run-to (pair airport) no_holder lines blocks after (none-sound (spared airport)), run-to (turned (pair airport)) no_holder lines blocks after (none-sound airport))

pub returns-clause-text : goal.returns-clause-text
unfolding block_text
returns-clause-text c = λ airport blocks. refl
