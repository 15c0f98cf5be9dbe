use Rattle.label_core.proofs.MirroredWalks.{latest_in_mirror, latest_from_mirror}
use Rattle.label_core.proofs.backward.the_mirror_turns_latest_entries_round.Goals as goal

pub returns-clause-there : goal.returns-clause-there
returns-clause-there g c net finishes k fits = latest_in_mirror net finishes k fits

pub returns-clause-back : goal.returns-clause-back
returns-clause-back g c net finishes k fits = latest_from_mirror net finishes k fits
